-- When a proof with ids is the conversion of one without: step for step, with the ids and hints that the earlier steps give.
use Rattle.std.specs.Prelude.{◌≡◌, ℕ, if◌then◌else◌, List, [], ◌∷◌, ◌++◌, map, Option, Some, None, IsTrue}
use Rattle.std.specs.List.{list_all}
use Rattle.lits.specs.Literal.{neg}
use Rattle.session_rules.specs.declared.StatusWord.{StatusWord}
use Rattle.session_rules.specs.declared.Event.TheVariants as events
use Rattle.session_rules.specs.declared.Step.{Step}
use Rattle.session_rules.specs.declared.Step.TheVariants as steps
use Rattle.session_rules.specs.declared.LStep.{LStep}
use Rattle.session_rules.specs.declared.LStep.TheVariants as lsteps
use Rattle.session_rules.specs.Logic.{hints_fail}
use Rattle.session_rules.specs.Own.{is_active}
use Rattle.side_laws.specs.Sets.{standing_at, clause_at, next_id, named_id}
use Rattle.elimination_laws.specs.Answers.{has_none_twice}

-- the clause of an id that these steps leave active, where inputs and lemmas give the ids 1, 2, 3 and so on
abbrev pub active_at : List Step → ℕ → Option (List ℕ)
active_at before id = if is_active (standing_at before id) then clause_at before id else None

-- hints that close from these literals over the clauses that the steps leave active; they name no id twice, and active ids alone
pub record HintsClose (before : List Step) (ls hints : List ℕ) : Type 0 where
  pub close : hints_fail (active_at before) ls hints ≡ None
  pub once : IsTrue (has_none_twice hints)
  pub active : IsTrue (list_all (λ id. is_active (standing_at before id)) hints)

-- behind these steps a step without ids becomes a step with ids. An input and a lemma take the next id, a deletion and a weakening
-- name the least active id of the clause's set, and a restoring the least weakened one; literals stay as they are written
pub data IsConvertedStep (before : List Step) : Step → LStep → Type 0 where
  input : (c : List ℕ) → IsConvertedStep before (steps.Event (events.Input c)) (lsteps.Input (next_id before) c)
  lemma : (c hints : List ℕ) → HintsClose before (map neg c) hints → IsConvertedStep before (steps.Lemma c) (lsteps.Lemma (next_id before) c hints)
  deletion : (c : List ℕ) (id : ℕ) → named_id before (steps.Delete c) ≡ Some id → IsConvertedStep before (steps.Delete c) (lsteps.Delete (id ∷ []))
  weakening : (c : List ℕ) (id : ℕ) → named_id before (steps.Weaken c) ≡ Some id → IsConvertedStep before (steps.Weaken c) (lsteps.Weaken (id ∷ []))
  restoring : (c : List ℕ) (id : ℕ) → named_id before (steps.Restore c) ≡ Some id → IsConvertedStep before (steps.Restore c) (lsteps.Restore (id ∷ []))
  query : (ls : List ℕ) → IsConvertedStep before (steps.Event (events.Query ls)) (lsteps.Query ls)
  status : (told : StatusWord) → IsConvertedStep before (steps.Event (events.Status told)) (lsteps.Status told)
  model : (ls : List ℕ) → IsConvertedStep before (steps.Event (events.Model ls)) (lsteps.Model ls)
  core : (ls hints : List ℕ) → HintsClose before ls hints → IsConvertedStep before (steps.Event (events.Core ls)) (lsteps.Core ls hints)

-- each of the steps ahead becomes one with ids, in order
abbrev pub AreConverted : List Step → List Step → List LStep → Type 0
AreConverted before [] [] = Unit {0}
AreConverted before (p ∷ ps) (q ∷ qs) = IsConvertedStep before p q × AreConverted (before ++ p ∷ []) ps qs
AreConverted before _ _ = ⊥

-- a proof with ids is the conversion of one without
abbrev pub IsConverted : List Step → List LStep → Type 0
IsConverted ps qs = AreConverted [] ps qs
