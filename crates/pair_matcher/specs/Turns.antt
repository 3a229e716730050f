-- What the steps with a list of ids do to a store.
use Rattle.std.specs.Prelude.{◌≡◌, ℕ, Bool, List, [], ◌∷◌, ◌++◌, flat_map, Option, IfNone}
use Rattle.session_rules.specs.declared.LStep.{LStep}
use Rattle.session_rules.specs.declared.Standing.{Standing}
use Rattle.session_rules.specs.Own.{mentions, first_not}
use Rattle.clause_store.specs.Clauses.{Store}
use Rattle.side_laws.specs.ClauseStates.{clauses_of_store}
use Rattle.side_laws.specs.Ids.{HoldsIds}

-- the ids were gone through in turn. Whatever steps the store held the clauses of: the answer is the place of the first id that
-- wasn't so when its turn came, and where there is none the store holds the clauses after the step too
pub record Turned (step : List ℕ → LStep) (is_so : Standing → Bool) (left : Standing) (old new : Store) (ids : List ℕ) (place : Option ℕ) : Type 0 where
  pub first : (ps : List LStep) → HoldsIds (clauses_of_store old) ps → place ≡ first_not is_so left (flat_map mentions ps) 1 ids
  pub holds : IfNone place ((ps : List LStep) → HoldsIds (clauses_of_store old) ps → HoldsIds (clauses_of_store new) (ps ++ step ids ∷ []))
