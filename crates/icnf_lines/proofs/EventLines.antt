-- What stands in a line of the interaction behind its letter.
use Rattle.std.proofs.Common.{◌≡◌, ℕ, List, Err, refl, ◌∙◌}
use Rattle.session_rules.specs.declared.Letter.{Letter}
use Rattle.session_rules.specs.declared.Letter.TheVariants as letters
use Rattle.session_rules.specs.declared.StatusWord.{StatusWord}
use Rattle.session_rules.specs.declared.Event.{Event}
use Rattle.session_rules.specs.declared.LineFault.{LineFault}
use Rattle.session_rules.specs.Reading.{event_at, icnf_line, script_at, script_line, by_letter, of_literals, of_status}
use Rattle.line_reading.specs.Readers.{Reader, BodyRead}
use Rattle.line_reading.specs.Whole.{literals_body, status_body}
use Rattle.line_reading.proofs.ByLetter.{literals_as, status_as, body_fails}

pub literals_fault : (letter : Letter) (f : List ℕ → Event) → ((ws : List (List ℕ)) → event_at letter ws ≡ of_literals f ws) → (e : LineFault) (o n : Reader)
    → BodyRead literals_body o n (Err e) → BodyRead (event_at letter) o n (Err e)
literals_fault letter f same e o n h = body_fails literals_body (event_at letter) f (λ ws. same ws ∙ literals_as f ws) e o n h

pub status_fault : (f : StatusWord → Event) → ((ws : List (List ℕ)) → event_at letters.Status ws ≡ of_status f ws) → (e : LineFault) (o n : Reader)
    → BodyRead status_body o n (Err e) → BodyRead (event_at letters.Status) o n (Err e)
status_fault f same e o n h = body_fails status_body (event_at letters.Status) f (λ ws. same ws ∙ status_as f ws) e o n h

-- the lines of an interaction are read by their letter
pub icnf_line_is : (ws : List (List ℕ)) → by_letter event_at ws ≡ icnf_line ws
unfolding icnf_line
icnf_line_is ws = refl

-- and so are those of a script
pub script_line_is : (ws : List (List ℕ)) → by_letter script_at ws ≡ script_line ws
unfolding script_line
script_line_is ws = refl
