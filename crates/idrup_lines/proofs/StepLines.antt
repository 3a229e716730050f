-- What stands in a line of a proof by literals behind its letter.
use Rattle.std.proofs.Common.{◌≡◌, ℕ, List, Ok, Err, refl, ◌∙◌}
use Rattle.std.specs.declared.result.Result.{Result}
use Rattle.session_rules.specs.declared.Letter.{Letter}
use Rattle.session_rules.specs.declared.Letter.TheVariants as letters
use Rattle.session_rules.specs.declared.Event.{Event}
use Rattle.session_rules.specs.declared.Step.{Step}
use Rattle.session_rules.specs.declared.Step.TheVariants as steps
use Rattle.session_rules.specs.declared.LineFault.{LineFault}
use Rattle.session_rules.specs.Reading.{Fault, ◌>>=◌, event_at, step_at, idrup_line, by_letter, of_literals}
use Rattle.line_reading.specs.Readers.{Reader, BodyRead}
use Rattle.line_reading.specs.Whole.{literals_body}
use Rattle.line_reading.proofs.WholeBodies.{mapped}
use Rattle.line_reading.proofs.ByLetter.{literals_as, body_as, body_fails}

pub literals_fault : (letter : Letter) (f : List ℕ → Step) → ((ws : List (List ℕ)) → step_at letter ws ≡ of_literals f ws) → (e : LineFault) (o n : Reader)
    → BodyRead literals_body o n (Err e) → BodyRead (step_at letter) o n (Err e)
literals_fault letter f same e o n h = body_fails literals_body (step_at letter) f (λ ws. same ws ∙ literals_as f ws) e o n h

as_event : (o : Result Event Fault) → (o >>= λ e. Ok (steps.Event e)) ≡ mapped steps.Event o
as_event (Ok e) = refl
as_event (Err f) = refl

-- any other letter is that of an event, or of no line
event_step : (letter : Letter) → (letter ≡ letters.Lemma → ⊥) → (letter ≡ letters.Deletion → ⊥) → (letter ≡ letters.Weakening → ⊥) → (letter ≡ letters.Restoring → ⊥)
    → (letter ≡ letters.Values → ⊥) → (letter ≡ letters.Failed → ⊥) → (ws : List (List ℕ)) → step_at letter ws ≡ mapped steps.Event (event_at letter ws)
event_step letters.Lemma l d w r v f ws = absurd (l refl)
event_step letters.Deletion l d w r v f ws = absurd (d refl)
event_step letters.Weakening l d w r v f ws = absurd (w refl)
event_step letters.Restoring l d w r v f ws = absurd (r refl)
event_step letters.Values l d w r v f ws = absurd (v refl)
event_step letters.Failed l d w r v f ws = absurd (f refl)
event_step letters.Input l d w r v f ws = as_event (event_at letters.Input ws)
event_step letters.Query l d w r v f ws = as_event (event_at letters.Query ws)
event_step letters.Status l d w r v f ws = as_event (event_at letters.Status ws)
event_step letters.Model l d w r v f ws = as_event (event_at letters.Model ws)
event_step letters.Core l d w r v f ws = as_event (event_at letters.Core ws)
event_step letters.NoLetter l d w r v f ws = as_event (event_at letters.NoLetter ws)

module _ (letter : Letter) (l : letter ≡ letters.Lemma → ⊥) (d : letter ≡ letters.Deletion → ⊥) (w : letter ≡ letters.Weakening → ⊥) (r : letter ≡ letters.Restoring → ⊥)
    (v : letter ≡ letters.Values → ⊥) (f : letter ≡ letters.Failed → ⊥) where
  pub event_read : (x : Event) (o n : Reader) → BodyRead (event_at letter) o n (Ok x) → BodyRead (step_at letter) o n (Ok (steps.Event x))
  event_read x o n h = body_as (event_at letter) (step_at letter) steps.Event (event_step letter l d w r v f) x o n h

  pub event_fault : (e : LineFault) (o n : Reader) → BodyRead (event_at letter) o n (Err e) → BodyRead (step_at letter) o n (Err e)
  event_fault e o n h = body_fails (event_at letter) (step_at letter) steps.Event (event_step letter l d w r v f) e o n h

-- the lines of a proof by literals are read by their letter
pub idrup_line_is : (ws : List (List ℕ)) → by_letter step_at ws ≡ idrup_line ws
unfolding idrup_line
idrup_line_is ws = refl
