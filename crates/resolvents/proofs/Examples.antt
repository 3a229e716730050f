-- Clauses and their resolvents, computed. The literal 2 (v - 1) is the variable v, and one more its negation.
use Rattle.std.proofs.Common.{◌≡◌, [], ◌∷◌, true, refl}
use Rattle.lits.specs.Clause.{is_tautology}
use Rattle.clause_store.specs.Clauses.{firsts, firsts_behind}
use Rattle.restore.specs.Resolution.{resolvent}

-- of `1 2 3` and `-1 3 4` on the variable 1
shared : firsts (resolvent 1 (0 ∷ 2 ∷ 4 ∷ []) (1 ∷ 4 ∷ 6 ∷ [])) ≡ 2 ∷ 4 ∷ 6 ∷ []
unfolding firsts_behind
shared = refl

-- of `1 2` and `-1 -2` on the variable 1
opposite : is_tautology (resolvent 1 (0 ∷ 2 ∷ []) (1 ∷ 3 ∷ [])) ≡ true
opposite = refl

-- of `1` and `-1`
units : firsts (resolvent 1 (0 ∷ []) (1 ∷ [])) ≡ []
unfolding firsts_behind
units = refl
