-- Tests of lists, by their members.
use Rattle.std.proofs.Common.{◌≡◌, ℕ, zero, suc, ◌⊎◌, Bool, true, nat_eq, List, [], ◌∷◌, filter, Contains, refl, sym, subst, inl, inr, arith, eqb-true, eq-eqb, suc-le-suc, zero-lt-suc, le_of_suc-le-suc}
use Rattle.std.specs.List.{list_any, list_all}
use Rattle.std.proofs.lemmas.Bool.{and_parts, and_from, or_cases, or_left, or_right, cases_Bool}
use Rattle.lits.specs.Clause.{has}

module _ {X : Type 0} where
  pub here : (x : X) (xs : List X) → Contains (x ∷ xs) x
  here x xs = (0, zero-lt-suc _, refl)

  pub there : (x y : X) (xs : List X) → Contains xs y → Contains (x ∷ xs) y
  there x y xs h = (suc h.0, suc-le-suc h.1, h.2)

  pub not_in_nil : (y : X) → Contains [] y → ⊥
  not_in_nil y h = omega (arith, h.1)

  pub here_or_there : (x y : X) (xs : List X) → Contains (x ∷ xs) y → (x ≡ y) ⊎ Contains xs y
  here_or_there x y xs (zero, lt, e) = inl e
  here_or_there x y xs (suc k, lt, e) = inr (k, le_of_suc-le-suc lt, e)

  pub all_at : (p : X → Bool) (xs : List X) (y : X) → list_all p xs ≡ true → Contains xs y → p y ≡ true
  all_at p [] y h m = absurd (not_in_nil y m)
  all_at p (x ∷ xs) y h m = elim (here_or_there x y xs m) [
    | inl e ↦ subst (λ z. p z ≡ true) e (and_parts _ _ h).0
    | inr n ↦ all_at p xs y (and_parts _ _ h).1 n
  ]

  pub all_from : (p : X → Bool) (xs : List X) → ((y : X) → Contains xs y → p y ≡ true) → list_all p xs ≡ true
  all_from p [] h = refl
  all_from p (x ∷ xs) h = and_from _ _ (h x (here x xs)) (all_from p xs (λ y m. h y (there x y xs m)))

  pub any_at : (p : X → Bool) (xs : List X) → list_any p xs ≡ true → (y : X) × Contains xs y × (p y ≡ true)
  any_at p [] h = cc
  any_at p (x ∷ xs) h = elim (or_cases _ _ h) [
    | inl e ↦ (x, here x xs, e)
    | inr e ↦ let r = any_at p xs e in (r.0, there x r.0 xs r.1, r.2)
  ]

  pub any_from : (p : X → Bool) (xs : List X) (y : X) → Contains xs y → p y ≡ true → list_any p xs ≡ true
  any_from p [] y m h = absurd (not_in_nil y m)
  any_from p (x ∷ xs) y m h = elim (here_or_there x y xs m) [
    | inl e ↦ or_left _ _ (subst (λ z. p z ≡ true) (sym e) h)
    | inr n ↦ or_right _ _ (any_from p xs y n h)
  ]

  pub filter_from : (p : X → Bool) (xs : List X) (y : X) → Contains xs y → p y ≡ true → Contains (filter p xs) y
  filter_from p [] y m h = m
  filter_from p (x ∷ xs) y m h = elim (here_or_there x y xs m) [
    | inl e ↦ let q = subst (λ z. p z ≡ true) (sym e) h in rw q (subst (λ z. Contains (x ∷ filter p xs) z) e (here x (filter p xs)))
    | inr n ↦ elim (cases_Bool (p x)) [
      | inl q ↦ rw q (there x y (filter p xs) (filter_from p xs y n h))
      | inr q ↦ rw q (filter_from p xs y n h)
    ]
  ]

  pub filter_at : (p : X → Bool) (xs : List X) (y : X) → Contains (filter p xs) y → Contains xs y × (p y ≡ true)
  filter_at p [] y m = absurd (not_in_nil y m)
  filter_at p (x ∷ xs) y m = elim (cases_Bool (p x)) [
    | inl q ↦ let m2 : Contains (x ∷ filter p xs) y = rw q at m in elim (here_or_there x y (filter p xs) m2) [
      | inl e ↦ (subst (λ z. Contains (x ∷ xs) z) e (here x xs), subst (λ z. p z ≡ true) e q)
      | inr n ↦ let r = filter_at p xs y n in (there x y xs r.0, r.1)
    ]
    | inr q ↦ let m2 : Contains (filter p xs) y = rw q at m in let r = filter_at p xs y m2 in (there x y xs r.0, r.1)
  ]

pub has_at : (ls : List ℕ) (l : ℕ) → has ls l ≡ true → Contains ls l
has_at ls l h = let r = any_at (nat_eq l) ls h in subst (λ z. Contains ls z) (sym (eqb-true l r.0 r.2)) r.1

pub has_from : (ls : List ℕ) (l : ℕ) → Contains ls l → has ls l ≡ true
has_from ls l m = any_from (nat_eq l) ls l m (eq-eqb l l refl)
