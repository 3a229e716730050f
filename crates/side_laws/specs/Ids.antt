-- When a side's clauses are those that steps with ids leave, and when two clauses by id are the same up to sets.
use Rattle.std.specs.Prelude.{◌≡◌, ℕ, Bool, true, false, List, Option, None, Some, IsTrue, option_map}
use Rattle.std.specs.FinMap.{get}
use Rattle.lits.specs.Clause.{same_set, set_of}
use Rattle.session_rules.specs.declared.LStep.{LStep}
use Rattle.session_rules.specs.Own.{standing_after, clause_of}
use Rattle.side_laws.specs.ClauseStates.{ClauseState, Clauses, standing_of}

-- each id stands as the steps leave it, and of one that isn't absent the set of the clause is kept that was given last
pub record HoldsIds (m : Clauses) (ps : List LStep) : Type 0 where
  pub standings : (id : ℕ) → standing_of (get m id) ≡ standing_after ps id
  pub literals : (id : ℕ) (k : ClauseState) → get m id ≡ Some k → option_map set_of (clause_of ps id) ≡ Some k.literals

-- whether both have the same set, or there is neither
abbrev pub same_clause : Option (List ℕ) → Option (List ℕ) → Bool
same_clause None None = true
same_clause None (Some d) = false
same_clause (Some c) None = false
same_clause (Some c) (Some d) = same_set c d

-- the same clauses by id, up to sets
abbrev pub SameClauses : (ℕ → Option (List ℕ)) → (ℕ → Option (List ℕ)) → Type 0
SameClauses f g = (id : ℕ) → IsTrue (same_clause (f id) (g id))
