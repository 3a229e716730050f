-- A small session, judged by its variables and by their numbers.
use Rattle.std.proofs.Common.{◌≡◌, List, [], ◌∷◌, map, refl}
use Rattle.lits.specs.Numbering.{place, with_lits}
use Rattle.session_rules.specs.declared.StatusWord.TheVariants.{Satisfiable}
use Rattle.session_rules.specs.declared.Event.TheVariants as events
use Rattle.session_rules.specs.declared.Step.{Step}
use Rattle.session_rules.specs.declared.Step.TheVariants as steps
use Rattle.session_rules.specs.declared.Rule.TheVariants as rules
use Rattle.session_rules.specs.Own.{own_faults}
use Rattle.numbering_laws.specs.Dense.{dense_step, dense_steps, file_rule}

-- the literal 7 is 12 and its negation 13, 3 is 4; 1 is 0, its negation 1, and 2 is 2: input -7 3, query 7
asked : List Step
asked = steps.Event (events.Input (13 ∷ 4 ∷ [])) ∷ steps.Event (events.Query (12 ∷ [])) ∷ steps.Event (events.Status Satisfiable) ∷ []

-- the variables came in this order: 7 has the number 1, and 3 the number 2
in_order : with_lits [] (13 ∷ 4 ∷ 12 ∷ []) ≡ 7 ∷ 3 ∷ []
unfolding with_lits
in_order = refl

asked_dense : dense_steps (7 ∷ 3 ∷ []) asked ≡ steps.Event (events.Input (1 ∷ 2 ∷ [])) ∷ steps.Event (events.Query (0 ∷ [])) ∷ steps.Event (events.Status Satisfiable) ∷ []
unfolding asked place
asked_dense = refl

-- the model -7 3 lacks the assumption 7: the numbers' model -1 2 lacks 1
model_broken : own_faults asked (steps.Event (events.Model (13 ∷ 4 ∷ []))) ≡ rules.ModelAssumption 12 ∷ []
unfolding asked own_faults
model_broken = refl

dense_broken : own_faults (dense_steps (7 ∷ 3 ∷ []) asked) (dense_step (7 ∷ 3 ∷ []) (steps.Event (events.Model (13 ∷ 4 ∷ [])))) ≡ rules.ModelAssumption 0 ∷ []
unfolding asked place own_faults
dense_broken = refl

told_of_file : map (file_rule (7 ∷ 3 ∷ [])) (rules.ModelAssumption 0 ∷ []) ≡ rules.ModelAssumption 12 ∷ []
told_of_file = refl

-- 5 has no number, so no clause with it can be deleted
unknown_deleted : own_faults asked (steps.Delete (4 ∷ 8 ∷ [])) ≡ rules.NotActive 1 ∷ []
unfolding asked own_faults
unknown_deleted = refl
