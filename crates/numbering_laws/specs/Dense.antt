-- Steps and events whose literals are translated through a numbering of the file's variables, and rules whose literal is.
use Rattle.std.specs.Prelude.{◌≡◌, ℕ, Bool, nat_le, if◌then◌else◌, List, [], length, map, not, filter, Option, Some, IsTrue}
use Rattle.std.specs.List.{list_all}
use Rattle.lits.specs.Literal.{var}
use Rattle.lits.specs.Numbering.{is_known, are_known, dense_lit, file_lit, dense_lits}
use Rattle.session_rules.specs.declared.Event.{Event}
use Rattle.session_rules.specs.declared.Event.TheVariants as events
use Rattle.session_rules.specs.declared.Step.{Step}
use Rattle.session_rules.specs.declared.Step.TheVariants as steps
use Rattle.session_rules.specs.declared.LStep.{LStep}
use Rattle.session_rules.specs.declared.LStep.TheVariants as lsteps
use Rattle.session_rules.specs.declared.Rule.{Rule}
use Rattle.session_rules.specs.declared.Rule.TheVariants as rules
use Rattle.session_rules.specs.History.{event_literals}

-- ---- Translated steps

-- clauses, each with its literals translated
abbrev pub dense_clauses : List ℕ → List (List ℕ) → List (List ℕ)
dense_clauses vars cs = map (dense_lits vars) cs

abbrev pub dense_event : List ℕ → Event → Event
dense_event vars (events.Input c) = events.Input (dense_lits vars c)
dense_event vars (events.Query c) = events.Query (dense_lits vars c)
dense_event vars (events.Status s) = events.Status s
dense_event vars (events.Model m) = events.Model (dense_lits vars m)
dense_event vars (events.Core u) = events.Core (dense_lits vars u)
dense_event vars (events.Values m) = events.Values (dense_lits vars m)
dense_event vars (events.Failed u) = events.Failed (dense_lits vars u)

-- a step without ids
abbrev pub dense_step : List ℕ → Step → Step
dense_step vars (steps.Event e) = steps.Event (dense_event vars e)
dense_step vars (steps.Lemma c) = steps.Lemma (dense_lits vars c)
dense_step vars (steps.Delete c) = steps.Delete (dense_lits vars c)
dense_step vars (steps.Weaken c) = steps.Weaken (dense_lits vars c)
dense_step vars (steps.Restore c) = steps.Restore (dense_lits vars c)

abbrev pub dense_steps : List ℕ → List Step → List Step
dense_steps vars ps = map (dense_step vars) ps

-- a step with ids, which stay
abbrev pub dense_id_step : List ℕ → LStep → LStep
dense_id_step vars (lsteps.Input id c) = lsteps.Input id (dense_lits vars c)
dense_id_step vars (lsteps.Lemma id c hs) = lsteps.Lemma id (dense_lits vars c) hs
dense_id_step vars (lsteps.Delete is) = lsteps.Delete is
dense_id_step vars (lsteps.Weaken is) = lsteps.Weaken is
dense_id_step vars (lsteps.Restore is) = lsteps.Restore is
dense_id_step vars (lsteps.Query c) = lsteps.Query (dense_lits vars c)
dense_id_step vars (lsteps.Status s) = lsteps.Status s
dense_id_step vars (lsteps.Model m) = lsteps.Model (dense_lits vars m)
dense_id_step vars (lsteps.Core u hs) = lsteps.Core (dense_lits vars u) hs

abbrev pub dense_id_steps : List ℕ → List LStep → List LStep
dense_id_steps vars ps = map (dense_id_step vars) ps

-- ---- Steps whose variables have numbers

-- the literals of a step
abbrev pub step_literals : Step → List ℕ
step_literals (steps.Event e) = event_literals e
step_literals (steps.Lemma c) = c
step_literals (steps.Delete c) = c
step_literals (steps.Weaken c) = c
step_literals (steps.Restore c) = c

abbrev pub id_step_literals : LStep → List ℕ
id_step_literals (lsteps.Input id c) = c
id_step_literals (lsteps.Lemma id c hs) = c
id_step_literals (lsteps.Query c) = c
id_step_literals (lsteps.Model m) = m
id_step_literals (lsteps.Core u hs) = u
id_step_literals _ = []

-- whether each variable of some clauses, of each of some steps, has a number
abbrev pub are_known_clauses : List ℕ → List (List ℕ) → Bool
are_known_clauses vars cs = list_all (are_known vars) cs

abbrev pub is_known_step : List ℕ → Step → Bool
is_known_step vars p = are_known vars (step_literals p)

abbrev pub are_known_steps : List ℕ → List Step → Bool
are_known_steps vars ps = list_all (is_known_step vars) ps

abbrev pub is_known_id_step : List ℕ → LStep → Bool
is_known_id_step vars p = are_known vars (id_step_literals p)

abbrev pub are_known_id_steps : List ℕ → List LStep → Bool
are_known_id_steps vars ps = list_all (is_known_id_step vars) ps

-- each variable of the clause of an id has a number
abbrev pub KnownById : List ℕ → (ℕ → Option (List ℕ)) → Type 0
KnownById vars active = (id : ℕ) (c : List ℕ) → active id ≡ Some c → IsTrue (are_known vars c)

-- ---- Translated rules

-- a rule with this in place of its literal, if it has one
abbrev pub with_literal_of : (ℕ → ℕ) → Rule → Rule
with_literal_of f (rules.ModelClash l) = rules.ModelClash (f l)
with_literal_of f (rules.ModelAssumption l) = rules.ModelAssumption (f l)
with_literal_of f (rules.CoreStranger l) = rules.CoreStranger (f l)
with_literal_of f (rules.ModelPart l) = rules.ModelPart (f l)
with_literal_of f (rules.CorePart l) = rules.CorePart (f l)
with_literal_of f (rules.CoreClaim l) = rules.CoreClaim (f l)
with_literal_of f (rules.FailedPart l) = rules.FailedPart (f l)
with_literal_of f r = r

-- a literal over numbers, read back. One that is beyond the numbers stays.
abbrev pub shown_lit : List ℕ → ℕ → ℕ
shown_lit vars l = if nat_le (var l) (length vars) then file_lit vars l else l

-- a rule whose literal is translated, and back. Positions stay.
abbrev pub dense_rule : List ℕ → Rule → Rule
dense_rule vars r = with_literal_of (dense_lit vars) r

abbrev pub file_rule : List ℕ → Rule → Rule
file_rule vars r = with_literal_of (shown_lit vars) r

-- ---- Literals without a number

-- those of a list whose variables have numbers, and those whose variables have none
abbrev pub known_of : List ℕ → List ℕ → List ℕ
known_of vars ls = filter (is_known vars) ls

abbrev pub unknown_of : List ℕ → List ℕ → List ℕ
unknown_of vars ls = filter (λ l. not (is_known vars l)) ls
