-- The literals of a trail's parts.
use Rattle.std.proofs.Common.{◌≡◌, ℕ, ◌⊎◌, List, [], ◌∷◌, ◌++◌, sym, ◌∙◌, ap, subst, inl, inr, true, nat_eq, append_assoc}
use Rattle.std.proofs.lemmas.Bool.{both_ways, or_cases, or_left, or_right}
use Rattle.lits.specs.Literal.{neg}
use Rattle.session_rules.specs.Logic.{has}
use Rattle.propagation.specs.declared.TrailEntry.{TrailEntry}
use Rattle.propagation.specs.Assigned.{AreNew}
use Rattle.propagation.specs.Engine.{IsFree, literals}
use Rattle.propagation.proofs.Forcing.{lacks}
use Rattle.propagation.proofs.Resting.{cut-literal}

pub has-front : (xs ys : List TrailEntry) (l : ℕ) → has (literals xs) l ≡ true → has (literals (xs ++ ys)) l ≡ true
has-front [] ys l h = cc h
has-front (x ∷ xs) ys l h = elim (or_cases (nat_eq l x.lit) (has (literals xs) l) h) [
  | inl y ↦ or_left (nat_eq l x.lit) (has (literals (xs ++ ys)) l) y
  | inr y ↦ or_right (nat_eq l x.lit) (has (literals (xs ++ ys)) l) (has-front xs ys l y)
]

pub has-back : (xs ys : List TrailEntry) (l : ℕ) → has (literals ys) l ≡ true → has (literals (xs ++ ys)) l ≡ true
has-back [] ys l h = h
has-back (x ∷ xs) ys l h = or_right (nat_eq l x.lit) (has (literals (xs ++ ys)) l) (has-back xs ys l h)

pub has-either : (xs ys : List TrailEntry) (l : ℕ) → has (literals (xs ++ ys)) l ≡ true → (has (literals xs) l ≡ true) ⊎ (has (literals ys) l ≡ true)
has-either [] ys l h = inr h
has-either (x ∷ xs) ys l h = elim (or_cases (nat_eq l x.lit) (has (literals (xs ++ ys)) l) h) [
  | inl y ↦ inl (or_left (nat_eq l x.lit) (has (literals xs) l) y)
  | inr y ↦ elim (has-either xs ys l y) [ inl z ↦ inl (or_right (nat_eq l x.lit) (has (literals xs) l) z) | inr z ↦ inr z ]
]

pub free-front : (xs ys : List TrailEntry) (l : ℕ) → IsFree (literals (xs ++ ys)) l → IsFree (literals xs) l
free-front xs ys l f = (lacks _ (λ h. both_ways _ f.0 (has-front xs ys l h)), lacks _ (λ h. both_ways _ f.1 (has-front xs ys (neg l) h)))

-- what comes later was free
pub later-free : (n : ℕ) (ss xs ys : List TrailEntry) (l : ℕ) → AreNew n ss → ss ≡ xs ++ ys → has (literals ys) l ≡ true → IsFree (literals xs) l
later-free n ss xs ys l k at h =
    let r = cut-literal ys l h in
    let new = k (xs ++ r.0) r.2 r.1 (at ∙ ap (λ z. xs ++ z) r.3 ∙ sym (append_assoc xs r.0 (r.1 ∷ r.2))) in
    free-front xs r.0 l (subst (λ z. IsFree (literals (xs ++ r.0)) z) r.4 new.free)
