-- Steps on clauses by id, computed. The literal 2 (v - 1) is the variable v, and one more its negation.
use Rattle.std.proofs.Common.{◌≡◌, [], ◌∷◌, false, Some, None, refl}
use Rattle.lits.specs.Clause.{set_of, with_literal}
use Rattle.session_rules.specs.declared.Told.TheVariants as told
use Rattle.elimination.specs.Steps.{after_steps, NumbersLemmas}

-- a lemma `2 1` with the id 3 that is weakened then
weakened : after_steps (λ id. None) (told.Lemma 3 (2 ∷ 0 ∷ []) (1 ∷ 2 ∷ []) ∷ told.Weaken 3 (2 ∷ 0 ∷ []) ∷ []) 3 ≡ Some (record { literals = 0 ∷ 2 ∷ []; active = false })
unfolding set_of with_literal
weakened = refl

-- other ids stay
others : after_steps (λ id. None) (told.Lemma 3 (2 ∷ 0 ∷ []) (1 ∷ 2 ∷ []) ∷ told.Delete 3 (2 ∷ 0 ∷ []) ∷ []) 4 ≡ None
others = refl

-- two lemmas take the ids 3 and 4
numbered : NumbersLemmas 3 (told.Lemma 3 [] [] ∷ told.Delete 1 [] ∷ told.Lemma 4 [] [] ∷ []) 5
numbered = (refl, (refl, refl))
