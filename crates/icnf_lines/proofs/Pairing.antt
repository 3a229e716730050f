-- The rule that a line breaks, by what was found of its literals.
use Rattle.std.proofs.Common.{◌≡◌, ℕ, Bool, true, false, not, ◌&&◌, cond, List, [], ◌∷◌, ◌++◌, find, slice_get, Some, None, Ok, Err, refl, sym, ◌∙◌, ap}
use Rattle.std.specs.declared.option.Option.{Option}
use Rattle.std.specs.declared.result.Result.{Result}
use Rattle.std.specs.Option.{option_or, option_map, is_none}
use Rattle.std.specs.List.{list_all}
use Rattle.lits.specs.Clause.{has, is_part, same_set}
use Rattle.session_rules.specs.declared.Event.{Event}
use Rattle.session_rules.specs.declared.Event.TheVariants as events
use Rattle.session_rules.specs.declared.Letter.{Letter}
use Rattle.session_rules.specs.declared.Letter.TheVariants as letters
use Rattle.session_rules.specs.declared.LineFault.{LineFault}
use Rattle.session_rules.specs.declared.LineFault.TheVariants as faults
use Rattle.session_rules.specs.declared.Rule.{Rule}
use Rattle.session_rules.specs.declared.StatusWord.{StatusWord}
use Rattle.session_rules.specs.declared.Rule.TheVariants as rules
use Rattle.session_rules.specs.History.{event_literals, first_missing, broken_at, broken_unless}
use Rattle.session_rules.specs.Pair.{pair_faults}
use Rattle.session_rules.specs.Reading.{event_at, icnf_line}
use Rattle.line_reading.specs.Readers.{Reader, BodyRead, LetterRead, LineRead}
use Rattle.line_reading.specs.Whole.{literals_body, status_body}
use Rattle.line_reading.proofs.Joined.{told_map}
use Rattle.line_reading.proofs.ByLetter.{literals_as, status_as, body_as, line_read, line_broken, line_not_entered}
use Rattle.icnf_lines.specs.declared.meeting.Met.{Met}
use Rattle.icnf_lines.specs.declared.matching.Match.TheVariants.{Agrees, Differs}
use Rattle.icnf_lines.specs.NextLine.{NextMatches, NextMatched}
use Rattle.icnf_lines.specs.Partners.{LiteralsMet, assumed_in, content_rule, rule_of, HasLiterals, BodyMeets, BodyAnswers, match_fault, answer_of}
use Rattle.icnf_lines.proofs.EventLines.{literals_fault, icnf_line_is}

-- a list is a part where nothing of it is missing
part_none : (test : ℕ → Bool) (ls : List ℕ) → list_all test ls ≡ is_none (find (λ l. not (test l)) ls)
part_none test [] = refl
part_none test (x ∷ xs) = by_first (test x) (list_all test xs) (find (λ l. not (test l)) xs) (part_none test xs)
  where
    by_first : (b more : Bool) (o : Option ℕ) → more ≡ is_none o → (b && more) ≡ is_none (cond (not b) (Some x) o)
    by_first true more o e = e
    by_first false more o e = refl

content_by : (o p : Option ℕ) → slice_get (broken_unless (is_none p && is_none o) rules.Content) 0 ≡ content_rule o p
content_by None None = refl
content_by None (Some y) = refl
content_by (Some x) None = refl
content_by (Some x) (Some y) = refl

content_is : (c ls : List ℕ) → slice_get (broken_unless (same_set c ls) rules.Content) 0 ≡ content_rule (first_missing ls c) (first_missing c ls)
content_is c ls = ap (λ b. slice_get (broken_unless (b && is_part ls c) rules.Content) 0) (part_none (has ls) c)
    ∙ ap (λ b. slice_get (broken_unless (is_none (first_missing c ls) && b) rules.Content) 0) (part_none (has c) ls) ∙ content_by (first_missing ls c) (first_missing c ls)

model_is : (o : Option ℕ) → slice_get (broken_at rules.ModelPart o) 0 ≡ option_map rules.ModelPart o
model_is None = refl
model_is (Some l) = refl

failed_is : (o : Option ℕ) → slice_get (broken_at rules.FailedPart o) 0 ≡ option_map rules.FailedPart o
failed_is None = refl
failed_is (Some l) = refl

core_is : (o p : Option ℕ) → slice_get (broken_at rules.CorePart o ++ broken_at rules.CoreClaim p) 0 ≡ option_or (option_map rules.CorePart o) (option_map rules.CoreClaim p)
core_is None None = refl
core_is None (Some l) = refl
core_is (Some l) p = refl

-- the event that literals behind this letter are
abbrev made : Letter → List ℕ → Event
made letters.Input ls = events.Input ls
made letters.Query ls = events.Query ls
made letters.Model ls = events.Model ls
made letters.Core ls = events.Core ls
made letters.Values ls = events.Values ls
made letters.Failed ls = events.Failed ls
made _ ls = events.Input ls

module _ (qs ls : List ℕ) (m : Met) where
  -- the rule by what was found is the first that the two events break
  pub broken_first : (letter : Letter) (e : Event) → HasLiterals letter → m.stranger ≡ first_missing ls (event_literals e) → m.unmet ≡ first_missing (event_literals e) ls
      → m.claim ≡ first_missing ls (assumed_in letter qs) → slice_get (pair_faults qs e (made letter ls)) 0 ≡ rule_of letter e m
  unfolding pair_faults
  broken_first letters.Input (events.Input c) has s u k = content_is c ls ∙ ap (λ o. content_rule o (first_missing c ls)) (sym s) ∙ ap (content_rule m.stranger) (sym u)
  broken_first letters.Input (events.Query c) has s u k = refl
  broken_first letters.Input (events.Status c) has s u k = refl
  broken_first letters.Input (events.Model c) has s u k = refl
  broken_first letters.Input (events.Core c) has s u k = refl
  broken_first letters.Input (events.Values c) has s u k = refl
  broken_first letters.Input (events.Failed c) has s u k = refl
  broken_first letters.Query (events.Query c) has s u k = content_is c ls ∙ ap (λ o. content_rule o (first_missing c ls)) (sym s) ∙ ap (content_rule m.stranger) (sym u)
  broken_first letters.Query (events.Input c) has s u k = refl
  broken_first letters.Query (events.Status c) has s u k = refl
  broken_first letters.Query (events.Model c) has s u k = refl
  broken_first letters.Query (events.Core c) has s u k = refl
  broken_first letters.Query (events.Values c) has s u k = refl
  broken_first letters.Query (events.Failed c) has s u k = refl
  broken_first letters.Model (events.Model c) has s u k = model_is (first_missing ls c) ∙ ap (option_map rules.ModelPart) (sym s)
  broken_first letters.Model (events.Input c) has s u k = refl
  broken_first letters.Model (events.Query c) has s u k = refl
  broken_first letters.Model (events.Status c) has s u k = refl
  broken_first letters.Model (events.Core c) has s u k = refl
  broken_first letters.Model (events.Values c) has s u k = refl
  broken_first letters.Model (events.Failed c) has s u k = refl
  broken_first letters.Core (events.Core c) has s u k = core_is (first_missing c ls) (first_missing ls qs)
      ∙ ap (λ o. option_or (option_map rules.CorePart o) (option_map rules.CoreClaim (first_missing ls qs))) (sym u) ∙ ap (λ o. option_or (option_map rules.CorePart m.unmet) (option_map rules.CoreClaim o)) (sym k)
  broken_first letters.Core (events.Input c) has s u k = refl
  broken_first letters.Core (events.Query c) has s u k = refl
  broken_first letters.Core (events.Status c) has s u k = refl
  broken_first letters.Core (events.Model c) has s u k = refl
  broken_first letters.Core (events.Values c) has s u k = refl
  broken_first letters.Core (events.Failed c) has s u k = refl
  broken_first letters.Values (events.Input c) has s u k = refl
  broken_first letters.Values (events.Query c) has s u k = refl
  broken_first letters.Values (events.Status c) has s u k = refl
  broken_first letters.Values (events.Model c) has s u k = model_is (first_missing ls c) ∙ ap (option_map rules.ModelPart) (sym s)
  broken_first letters.Values (events.Core c) has s u k = refl
  broken_first letters.Values (events.Values c) has s u k = refl
  broken_first letters.Values (events.Failed c) has s u k = refl
  broken_first letters.Failed (events.Input c) has s u k = refl
  broken_first letters.Failed (events.Query c) has s u k = refl
  broken_first letters.Failed (events.Status c) has s u k = refl
  broken_first letters.Failed (events.Model c) has s u k = refl
  broken_first letters.Failed (events.Core c) has s u k = failed_is (first_missing ls c) ∙ ap (option_map rules.FailedPart) (sym s)
  broken_first letters.Failed (events.Values c) has s u k = refl
  broken_first letters.Failed (events.Failed c) has s u k = refl
  broken_first letters.Status e has s u k = absurd has
  broken_first letters.Lemma e has s u k = absurd has
  broken_first letters.Deletion e has s u k = absurd has
  broken_first letters.Weakening e has s u k = absurd has
  broken_first letters.Restoring e has s u k = absurd has
  broken_first letters.NoLetter e has s u k = absurd has

made_read : (letter : Letter) (ls : List ℕ) (o n : Reader) → HasLiterals letter → BodyRead literals_body o n (Ok ls) → BodyRead (event_at letter) o n (Ok (made letter ls))
made_read letters.Input ls o n has h = body_as literals_body (event_at letters.Input) events.Input (λ ws. literals_as events.Input ws) ls o n h
made_read letters.Query ls o n has h = body_as literals_body (event_at letters.Query) events.Query (λ ws. literals_as events.Query ws) ls o n h
made_read letters.Model ls o n has h = body_as literals_body (event_at letters.Model) events.Model (λ ws. literals_as events.Model ws) ls o n h
made_read letters.Core ls o n has h = body_as literals_body (event_at letters.Core) events.Core (λ ws. literals_as events.Core ws) ls o n h
made_read letters.Values ls o n has h = body_as literals_body (event_at letters.Values) events.Values (λ ws. literals_as events.Values ws) ls o n h
made_read letters.Failed ls o n has h = body_as literals_body (event_at letters.Failed) events.Failed (λ ws. literals_as events.Failed ws) ls o n h
made_read letters.Status ls o n has h = absurd has
made_read letters.Lemma ls o n has h = absurd has
made_read letters.Deletion ls o n has h = absurd has
made_read letters.Weakening ls o n has h = absurd has
made_read letters.Restoring ls o n has h = absurd has
made_read letters.NoLetter ls o n has h = absurd has

pub literals_meet : (letter : Letter) (e : Event) (qs : List ℕ) (m : Met) (o n : Reader) → HasLiterals letter → LiteralsMet (event_literals e) (assumed_in letter qs) m o n → BodyMeets letter e qs (rule_of letter e m) o n
literals_meet letter e qs m o n has h = record {
  partner = made letter h.literals;
  rule = broken_first qs h.literals m letter e has h.stranger h.unmet h.claim;
  read = made_read letter h.literals o n has h.read;
}

-- a fault behind such a letter
pub literals_broken : (letter : Letter) (fault : LineFault) (o n : Reader) → HasLiterals letter → BodyRead literals_body o n (Err fault) → BodyRead (event_at letter) o n (Err fault)
literals_broken letters.Input fault o n has h = literals_fault letters.Input events.Input (λ ws. refl) fault o n h
literals_broken letters.Query fault o n has h = literals_fault letters.Query events.Query (λ ws. refl) fault o n h
literals_broken letters.Model fault o n has h = literals_fault letters.Model events.Model (λ ws. refl) fault o n h
literals_broken letters.Core fault o n has h = literals_fault letters.Core events.Core (λ ws. refl) fault o n h
literals_broken letters.Values fault o n has h = literals_fault letters.Values events.Values (λ ws. refl) fault o n h
literals_broken letters.Failed fault o n has h = literals_fault letters.Failed events.Failed (λ ws. refl) fault o n h
literals_broken letters.Status fault o n has h = absurd has
literals_broken letters.Lemma fault o n has h = absurd has
literals_broken letters.Deletion fault o n has h = absurd has
literals_broken letters.Weakening fault o n has h = absurd has
literals_broken letters.Restoring fault o n has h = absurd has
literals_broken letters.NoLetter fault o n has h = absurd has

pub status_meets : (e : Event) (qs : List ℕ) (answer : Option Rule) (status : StatusWord) (o n : Reader) → slice_get (pair_faults qs e (events.Status status)) 0 ≡ answer
    → BodyRead status_body o n (Ok status) → BodyMeets letters.Status e qs answer o n
status_meets e qs answer status o n rule h = record {
  partner = events.Status status;
  rule = rule;
  read = body_as status_body (event_at letters.Status) events.Status (λ ws. status_as events.Status ws) status o n h;
}

-- ---- The whole line

module _ (e : Event) (qs : List ℕ) where
  line_agrees : (partner : Event) (o n : Reader) → slice_get (pair_faults qs e partner) 0 ≡ None → LineRead icnf_line o n (Ok (Some partner)) → NextMatched e qs o n (Ok Agrees)
  line_agrees partner o n rule h = record {
    moves = h.moves;
    told = told_map _ _ _ (λ t v. NextMatches e qs o.place t n.place v (Ok Agrees)) h.told (λ t v says. record { partner = partner; says = says; rule = rule });
    count = h.count;
    read = λ f. cc f;
  }

  line_differs : (partner : Event) (r : Rule) (o n : Reader) → slice_get (pair_faults qs e partner) 0 ≡ Some r → LineRead icnf_line o n (Ok (Some partner)) → NextMatched e qs o n (Ok (Differs r))
  line_differs partner r o n rule h = record {
    moves = h.moves;
    told = told_map _ _ _ (λ t v. NextMatches e qs o.place t n.place v (Ok (Differs r))) h.told (λ t v says. record { partner = partner; says = says; rule = rule });
    count = h.count;
    read = λ f. cc f;
  }

  -- a fault of the line, which isn't want of memory
  line_at_fault : (fault : LineFault) (o n : Reader) → (fault ≡ faults.Memory → ⊥) → LineRead icnf_line o n (Err fault) → NextMatched e qs o n (Err (match_fault fault))
  line_at_fault (faults.Syntax r) o n none h = record { moves = h.moves; told = h.told; count = h.count; read = λ f. cc f }
  line_at_fault faults.Read o n none h = record { moves = h.moves; told = h.told; count = h.count; read = λ f. h.read refl }
  line_at_fault faults.Memory o n none h = absurd (none refl)

  pub matches : (letter : Letter) (r : Result (Option Rule) LineFault) (o m n : Reader) → (r ≡ Err faults.Memory → ⊥) → LetterRead o m (Ok (Some letter)) → BodyAnswers letter e qs m n r
      → NextMatched e qs o n (answer_of r)
  matches letter (Ok None) o m n none entered h = line_agrees h.partner o n h.rule (line_read event_at (λ ws. refl) icnf_line icnf_line_is letter h.partner o m n entered h.read)
  matches letter (Ok (Some rule)) o m n none entered h = line_differs h.partner rule o n h.rule (line_read event_at (λ ws. refl) icnf_line icnf_line_is letter h.partner o m n entered h.read)
  matches letter (Err fault) o m n none entered h =
      line_at_fault fault o n (λ f. none (ap (λ z. Err z) f)) (line_broken event_at (λ ws. refl) icnf_line icnf_line_is letter fault o m n entered h)

  pub not_entered : (fault : LineFault) (o n : Reader) → (fault ≡ faults.Memory → ⊥) → LetterRead o n (Err fault) → NextMatched e qs o n (Err (match_fault fault))
  not_entered fault o n none h = line_at_fault fault o n none (line_not_entered event_at (λ ws. refl) icnf_line icnf_line_is fault o n h)
