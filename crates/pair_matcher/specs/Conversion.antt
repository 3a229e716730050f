-- The step with ids and hints that a step becomes behind the steps that a side stands for, and what is found of it on the way.
use Rattle.std.specs.Prelude.{◌≡◌, ℕ, Bool, ⊤, List, [], ◌∷◌, map, Option, None, Some, is_some, IsTrue}
use Rattle.lits.specs.Clause.{has}
use Rattle.lits.specs.Literal.{neg}
use Rattle.session_rules.specs.declared.Rule.{Rule}
use Rattle.session_rules.specs.declared.Rule.TheVariants as rules
use Rattle.session_rules.specs.declared.LStep.{LStep}
use Rattle.session_rules.specs.declared.LStep.TheVariants as lsteps
use Rattle.session_rules.specs.declared.Event.TheVariants as events
use Rattle.session_rules.specs.declared.Step.{Step}
use Rattle.session_rules.specs.declared.Step.TheVariants as steps
use Rattle.session_rules.specs.Logic.{hints_fail}
use Rattle.propagation.specs.Clauses.{Clauses, active_at, slot_of}
use Rattle.clause_store.specs.Clauses.{IsOnce}
use Rattle.side_laws.specs.Sets.{named_id}
use Rattle.conversion_laws.specs.Converted.{HintsClose, IsConvertedStep}
use Rattle.pair_matcher.specs.declared.conversion.Converted.{Converted}
use Rattle.pair_matcher.specs.declared.conversion.Converted.TheVariants.{Broken, Line}
use Rattle.pair_matcher.specs.Sides.{IdrupState, IdrupView, AreAfter, AreAfterThrough, StandsFor}

-- ---- What judging finds

-- the hints close from these literals over the clauses of an engine; they name no id twice, and active ids alone
pub record CloseOver (m : Clauses) (ls hints : List ℕ) : Type 0 where
  pub close : hints_fail (active_at m) ls hints ≡ None
  pub once : IsOnce hints
  pub active : (id : ℕ) → IsTrue (has hints id) → IsTrue (is_some (slot_of m id))

-- behind these steps this is the id that a deletion, a weakening or a restoring names, and these are hints of a lemma or a core
abbrev pub Found : List Step → Step → ℕ → List ℕ → Type 0
Found ps (steps.Event (events.Core u)) id hints = HintsClose ps u hints
Found ps (steps.Event _) id hints = ⊤
Found ps (steps.Lemma c) id hints = HintsClose ps (map neg c) hints
Found ps (steps.Delete c) id hints = named_id ps (steps.Delete c) ≡ Some id
Found ps (steps.Weaken c) id hints = named_id ps (steps.Weaken c) ≡ Some id
Found ps (steps.Restore c) id hints = named_id ps (steps.Restore c) ≡ Some id

-- where a line is wanted: whatever steps the state is left by, this was found behind them
pub record Finds (wanted : Bool) (s : IdrupState) (step : Step) (id : ℕ) (hints : List ℕ) : Type 0 where
  pub found : IsTrue wanted → (ps : List Step) → AreAfter s ps → Found ps step id hints

-- and so for a step of the file
pub record FindsThrough (wanted : Bool) (vars : List ℕ) (s : IdrupState) (step : Step) (id : ℕ) (hints : List ℕ) : Type 0 where
  pub found : IsTrue wanted → (ps : List Step) → AreAfterThrough vars s ps → Found ps step id hints

-- ---- The line

-- a step with the next id, the id that was found and the hints; a part of a model or of a core has no line
abbrev pub line_of : ℕ → ℕ → List ℕ → Step → Converted
line_of next id hints (steps.Event (events.Input c)) = Line (lsteps.Input next c)
line_of next id hints (steps.Event (events.Query c)) = Line (lsteps.Query c)
line_of next id hints (steps.Event (events.Status told)) = Line (lsteps.Status told)
line_of next id hints (steps.Event (events.Model m)) = Line (lsteps.Model m)
line_of next id hints (steps.Event (events.Core u)) = Line (lsteps.Core u hints)
line_of next id hints (steps.Event (events.Values m)) = Broken rules.Order
line_of next id hints (steps.Event (events.Failed u)) = Broken rules.Order
line_of next id hints (steps.Lemma c) = Line (lsteps.Lemma next c hints)
line_of next id hints (steps.Delete c) = Line (lsteps.Delete (id ∷ []))
line_of next id hints (steps.Weaken c) = Line (lsteps.Weaken (id ∷ []))
line_of next id hints (steps.Restore c) = Line (lsteps.Restore (id ∷ []))

-- the rule that was broken, if no line was made
abbrev pub rule_broken : Converted → Option Rule
rule_broken (Broken r) = Some r
rule_broken (Line q) = None

-- where there is a line, this is known of it
abbrev pub IfLine : Converted → (LStep → Type 0) → Type 0
IfLine (Broken r) P = ⊤
IfLine (Line q) P = P q

-- whatever steps the side stands for: behind them the step becomes this one with ids and hints
pub record Becomes (v : IdrupView) (step : Step) (q : LStep) : Type 0 where
  pub converted : (ps : List Step) → StandsFor v ps → IsConvertedStep ps step q
