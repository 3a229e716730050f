-- Members of lists that are joined, mapped and flattened, and how many of a list pass a test.
use Rattle.std.proofs.Common.{◌≡◌, ℕ, ◌⊎◌, Bool, true, false, List, [], ◌∷◌, ◌++◌, map, flat_map, filter, length, ◌≤◌, ◌<◌, Contains, refl, sym, ◌∙◌, subst, ap, inl, inr, arith}
use Rattle.std.proofs.lemmas.Bool.{cases_Bool, both_ways}
use Rattle.lits.proofs.Members.{here, there, not_in_nil, here_or_there}

module _ {X : Type 0} where
  pub append_at : (xs ys : List X) (y : X) → Contains (xs ++ ys) y → Contains xs y ⊎ Contains ys y
  append_at [] ys y m = inr m
  append_at (x ∷ xs) ys y m = elim (here_or_there x y (xs ++ ys) m) [
    | inl e ↦ inl (subst (λ z. Contains (x ∷ xs) z) e (here x xs))
    | inr n ↦ elim (append_at xs ys y n) [ inl a ↦ inl (there x y xs a) | inr b ↦ inr b ]
  ]

  pub append_left : (xs ys : List X) (y : X) → Contains xs y → Contains (xs ++ ys) y
  append_left [] ys y m = absurd (not_in_nil y m)
  append_left (x ∷ xs) ys y m = elim (here_or_there x y xs m) [
    | inl e ↦ subst (λ z. Contains (x ∷ (xs ++ ys)) z) e (here x (xs ++ ys))
    | inr n ↦ there x y (xs ++ ys) (append_left xs ys y n)
  ]

  pub append_right : (xs ys : List X) (y : X) → Contains ys y → Contains (xs ++ ys) y
  append_right [] ys y m = m
  append_right (x ∷ xs) ys y m = there x y (xs ++ ys) (append_right xs ys y m)

module _ {X Y : Type 0} where
  pub map_at : (f : X → Y) (xs : List X) (y : Y) → Contains (map f xs) y → (x : X) × Contains xs x × (f x ≡ y)
  map_at f [] y m = absurd (not_in_nil y m)
  map_at f (x ∷ xs) y m = elim (here_or_there (f x) y (map f xs) m) [
    | inl e ↦ (x, here x xs, e)
    | inr n ↦ let r = map_at f xs y n in (r.0, there x r.0 xs r.1, r.2)
  ]

  pub map_from : (f : X → Y) (xs : List X) (x : X) → Contains xs x → Contains (map f xs) (f x)
  map_from f [] y m = absurd (not_in_nil y m)
  map_from f (x ∷ xs) y m = elim (here_or_there x y xs m) [
    | inl e ↦ subst (λ z. Contains (map f (x ∷ xs)) (f z)) e (here (f x) (map f xs))
    | inr n ↦ there (f x) (f y) (map f xs) (map_from f xs y n)
  ]

  pub flat_at : (f : X → List Y) (xs : List X) (y : Y) → Contains (flat_map f xs) y → (x : X) × Contains xs x × Contains (f x) y
  flat_at f [] y m = absurd (not_in_nil y m)
  flat_at f (x ∷ xs) y m = elim (append_at (f x) (flat_map f xs) y m) [
    | inl n ↦ (x, here x xs, n)
    | inr n ↦ let r = flat_at f xs y n in (r.0, there x r.0 xs r.1, r.2)
  ]

  pub flat_from : (f : X → List Y) (xs : List X) (x : X) (y : Y) → Contains xs x → Contains (f x) y → Contains (flat_map f xs) y
  flat_from f [] x y m n = absurd (not_in_nil x m)
  flat_from f (w ∷ ws) x y m n = elim (here_or_there w x ws m) [
    | inl e ↦ append_left (f w) (flat_map f ws) y (subst (λ z. Contains (f z) y) (sym e) n)
    | inr k ↦ append_right (f w) (flat_map f ws) y (flat_from f ws x y k n)
  ]

-- of two tests, where each element that passes the second passes the first
module _ {X : Type 0} (p q : X → Bool) where
  pub count-le : (xs : List X) → ((x : X) → q x ≡ true → p x ≡ true) → length (filter q xs) ≤ length (filter p xs)
  count-le [] h = omega arith
  count-le (x ∷ xs) h = let r = count-le xs h in elim (cases_Bool (q x)) [
    | inl e ↦ rw e (rw (h x e) (omega arith))
    | inr e ↦ elim (cases_Bool (p x)) [ inl f ↦ rw e (rw f (omega arith)) | inr f ↦ rw e (rw f (omega arith)) ]
  ]

  -- and one passes the first alone
  pub count-lt : (xs : List X) (y : X) → ((x : X) → q x ≡ true → p x ≡ true) → Contains xs y → p y ≡ true → q y ≡ false → length (filter q xs) < length (filter p xs)
  count-lt [] y h m a b = absurd (not_in_nil y m)
  count-lt (x ∷ xs) y h m a b = elim (here_or_there x y xs m) [
    | inl e ↦ let r = count-le xs h in rw (subst (λ z. q z ≡ false) (sym e) b) (rw (subst (λ z. p z ≡ true) (sym e) a) (omega arith))
    | inr n ↦ let r = count-lt xs y h n a b in elim (cases_Bool (q x)) [
      | inl e ↦ rw e (rw (h x e) (omega arith))
      | inr e ↦ elim (cases_Bool (p x)) [ inl f ↦ rw e (rw f (omega arith)) | inr f ↦ rw e (rw f (omega arith)) ]
    ]
  ]
