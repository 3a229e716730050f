-- The resolvents that are due, computed: over the clauses 1 2, -1 3 and 2 3 the variable 1 has the resolvent 2 3, which is there.
use Rattle.std.proofs.Common.{◌≡◌, ℕ, true, false, List, [], ◌∷◌, refl}
use Rattle.restore.specs.Stack.{due_resolvents, are_due}

three : List (List ℕ)
three = (0 ∷ 2 ∷ []) ∷ (1 ∷ 4 ∷ []) ∷ (2 ∷ 4 ∷ []) ∷ []

none_due : due_resolvents 1 three ≡ []
unfolding three
none_due = refl

none_written : are_due 1 three [] ≡ true
unfolding three
none_written = refl

there_already : are_due 1 three ((2 ∷ 4 ∷ []) ∷ []) ≡ false
unfolding three
there_already = refl

two : List (List ℕ)
two = (0 ∷ 2 ∷ []) ∷ (1 ∷ 4 ∷ []) ∷ []

once : are_due 1 two ((4 ∷ 2 ∷ []) ∷ []) ≡ true
unfolding two
once = refl

twice : are_due 1 two ((4 ∷ 2 ∷ []) ∷ (2 ∷ 4 ∷ []) ∷ []) ≡ false
unfolding two
twice = refl
