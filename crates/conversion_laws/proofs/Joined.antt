-- Lists that are empty together, and what lines say one after another.
use Rattle.std.proofs.Common.{◌≡◌, ℕ, List, [], ◌∷◌, ◌++◌, Result, Ok, Err, refl, ap, ◌∙◌}
use Rattle.session_rules.specs.declared.Rule.{Rule}
use Rattle.session_rules.specs.Lines.{Line}
use Rattle.session_rules.specs.Reading.{Fault, value_of, values_of}
use Rattle.session_rules.proofs.Positions.{said}

pub parts_nil : {X : Type 0} (xs ys : List X) → xs ++ ys ≡ [] → (xs ≡ []) × (ys ≡ [])
parts_nil [] ys h = (refl, h)
parts_nil (x ∷ xs) ys h = cc h

pub join_nil : {X : Type 0} (xs ys : List X) → xs ≡ [] → ys ≡ [] → xs ++ ys ≡ []
join_nil xs ys e f = ap (λ z. z ++ ys) e ∙ f

module _ {S : Type 0} (read : List (List ℕ) → Result S Fault) where
  pub said-ok : (line : Line) (more : List Line) (p : S) → value_of read line ≡ Ok p → said read (line ∷ more) ≡ p ∷ said read more
  unfolding values_of
  said-ok line more p v = rw v refl

  pub said-err : (line : Line) (more : List Line) (r : Rule) → value_of read line ≡ Err r → said read (line ∷ more) ≡ []
  unfolding values_of
  said-err line more r v = rw v refl
