-- Lists that are mapped element by element: what their tests, counts and parts are.
use Rattle.std.proofs.Common.{◌≡◌, ℕ, ◌+◌, Bool, true, false, ◌&&◌, ◌||◌, if◌then◌else◌, List, [], ◌∷◌, ◌++◌, map, filter, filter_map, flat_map, count_by, Contains, Option, Some, None, option_map, refl, sym, ap, ◌∙◌, subst, inl, inr}
use Rattle.std.specs.Prelude.{find}
use Rattle.std.specs.List.{list_any, list_all, last_or, position_from, cons_option}
use Rattle.std.proofs.lemmas.Bool.{cases_Bool, and_parts, and_from}
use Rattle.session_rules.specs.History.{last}
use Rattle.lits.proofs.Members.{here, there}
use Rattle.std.proofs.lemmas.List.Sums.{sum_by-cons}

module _ {X Y : Type 0} (f : X → Y) where
  pub any-mapped : (p : Y → Bool) (q : X → Bool) (xs : List X) → ((x : X) → Contains xs x → p (f x) ≡ q x) → list_any p (map f xs) ≡ list_any q xs
  any-mapped p q [] h = refl
  any-mapped p q (x ∷ xs) h = ap (λ b. b || list_any p (map f xs)) (h x (here x xs)) ∙ ap (λ b. q x || b) (any-mapped p q xs (λ y m. h y (there x y xs m)))

  pub all-mapped : (p : Y → Bool) (q : X → Bool) (xs : List X) → ((x : X) → Contains xs x → p (f x) ≡ q x) → list_all p (map f xs) ≡ list_all q xs
  all-mapped p q [] h = refl
  all-mapped p q (x ∷ xs) h = ap (λ b. b && list_all p (map f xs)) (h x (here x xs)) ∙ ap (λ b. q x && b) (all-mapped p q xs (λ y m. h y (there x y xs m)))

  pub filter-mapped : (p : Y → Bool) (q : X → Bool) (xs : List X) → ((x : X) → Contains xs x → p (f x) ≡ q x) → filter p (map f xs) ≡ map f (filter q xs)
  filter-mapped p q [] h = refl
  filter-mapped p q (x ∷ xs) h = let next = filter-mapped p q xs (λ y m. h y (there x y xs m)) in let e = h x (here x xs) in elim (cases_Bool (q x)) [
    | inl k ↦ rw (e, k) (ap (λ ys. f x ∷ ys) next)
    | inr k ↦ rw (e, k) next
  ]

  pub find-mapped : (p : Y → Bool) (q : X → Bool) (xs : List X) → ((x : X) → Contains xs x → p (f x) ≡ q x) → find p (map f xs) ≡ option_map f (find q xs)
  find-mapped p q [] h = refl
  find-mapped p q (x ∷ xs) h = let next = find-mapped p q xs (λ y m. h y (there x y xs m)) in let e = h x (here x xs) in elim (cases_Bool (q x)) [
    | inl k ↦ rw (e, k) refl
    | inr k ↦ rw (e, k) next
  ]

  pub position-mapped : (p : Y → Bool) (q : X → Bool) (n : ℕ) (xs : List X) → ((x : X) → Contains xs x → p (f x) ≡ q x) → position_from p n (map f xs) ≡ position_from q n xs
  position-mapped p q n [] h = refl
  position-mapped p q n (x ∷ xs) h = let next = position-mapped p q (n + 1) xs (λ y m. h y (there x y xs m)) in let e = h x (here x xs) in elim (cases_Bool (q x)) [
    | inl k ↦ rw (e, k) refl
    | inr k ↦ rw (e, k) next
  ]

  pub count-mapped : (p : Y → Bool) (q : X → Bool) (xs : List X) → ((x : X) → Contains xs x → p (f x) ≡ q x) → count_by p (map f xs) ≡ count_by q xs
  count-mapped p q [] h = refl
  count-mapped p q (x ∷ xs) h = sum_by-cons (λ k. if p k then 1 else 0) (f x) (map f xs)
      ∙ ap (λ b. (if b then 1 else 0) + count_by p (map f xs)) (h x (here x xs))
      ∙ ap (λ n. (if q x then 1 else 0) + n) (count-mapped p q xs (λ y m. h y (there x y xs m)))
      ∙ sym (sum_by-cons (λ k. if q k then 1 else 0) x xs)

  pub last_or-mapped : (o : Option X) (xs : List X) → last_or (option_map f o) (map f xs) ≡ option_map f (last_or o xs)
  last_or-mapped o [] = refl
  last_or-mapped o (x ∷ xs) = last_or-mapped (Some x) xs

  pub last-mapped : (xs : List X) → last (map f xs) ≡ option_map f (last xs)
  last-mapped xs = last_or-mapped None xs

-- what is taken of each
module _ {X Y Z W : Type 0} (f : X → Y) (g : Z → W) (take_x : X → Option Z) (take_y : Y → Option W) (h : (x : X) → take_y (f x) ≡ option_map g (take_x x)) where
  pub filter_map-mapped : (xs : List X) → filter_map take_y (map f xs) ≡ map g (filter_map take_x xs)
  filter_map-mapped [] = refl
  filter_map-mapped (x ∷ xs) = ap (λ o. cons_option o (filter_map take_y (map f xs))) (h x) ∙ cons-mapped (take_x x) (filter_map-mapped xs)
    where
      cons-mapped : (o : Option Z) → filter_map take_y (map f xs) ≡ map g (filter_map take_x xs) → cons_option (option_map g o) (filter_map take_y (map f xs)) ≡ map g (cons_option o (filter_map take_x xs))
      cons-mapped None e = e
      cons-mapped (Some z) e = ap (λ ys. g z ∷ ys) e

-- what all that are taken have in common
module _ {X Z : Type 0} (take_x : X → Option Z) (p : X → Bool) (q : Z → Bool) (h : (x : X) (z : Z) → take_x x ≡ Some z → p x ≡ true → q z ≡ true) where
  pub all-taken : (xs : List X) → list_all p xs ≡ true → list_all q (filter_map take_x xs) ≡ true
  all-taken [] a = refl
  all-taken (x ∷ xs) a = let parts = and_parts (p x) (list_all p xs) a in cons-taken (take_x x) (λ z e. h x z e parts.0) (all-taken xs parts.1)
    where
      cons-taken : (o : Option Z) → ((z : Z) → o ≡ Some z → q z ≡ true) → list_all q (filter_map take_x xs) ≡ true → list_all q (cons_option o (filter_map take_x xs)) ≡ true
      cons-taken None k a = a
      cons-taken (Some z) k a = and_from _ _ (k z refl) a

module _ {X : Type 0} (p q : X → Bool) where
  pub all-filtered : (xs : List X) → list_all q xs ≡ true → list_all q (filter p xs) ≡ true
  all-filtered [] a = refl
  all-filtered (x ∷ xs) a = let parts = and_parts (q x) (list_all q xs) a in elim (cases_Bool (p x)) [
    | inl k ↦ rw k (and_from _ _ parts.0 (all-filtered xs parts.1))
    | inr k ↦ rw k (all-filtered xs parts.1)
  ]

module _ {X : Type 0} (p : X → Bool) where
  pub count-none : (xs : List X) → ((x : X) → Contains xs x → p x ≡ false) → count_by p xs ≡ 0
  count-none [] h = refl
  count-none (x ∷ xs) h = sum_by-cons (λ k. if p k then 1 else 0) x xs
      ∙ ap (λ b. (if b then 1 else 0) + count_by p xs) (h x (here x xs))
      ∙ ap (λ n. 0 + n) (count-none xs (λ y m. h y (there x y xs m)))

module _ {X Y A : Type 0} (f : X → Y) (g : X → List A) (h : Y → List A) (e : (x : X) → h (f x) ≡ g x) where
  pub flat_map-mapped : (xs : List X) → flat_map h (map f xs) ≡ flat_map g xs
  flat_map-mapped [] = refl
  flat_map-mapped (x ∷ xs) = ap (λ ys. ys ++ flat_map h (map f xs)) (e x) ∙ ap (λ ys. g x ++ ys) (flat_map-mapped xs)

module _ {X : Type 0} (q : X → Bool) where
  -- what is found is one of them
  pub found-has : (p : X → Bool) (xs : List X) (x : X) → list_all q xs ≡ true → find p xs ≡ Some x → q x ≡ true
  found-has p [] x a e = cc
  found-has p (y ∷ ys) x a e = let parts = and_parts (q y) (list_all q ys) a in elim (cases_Bool (p y)) [
    | inl k ↦ let f : Some y ≡ Some x = rw k at e in let g : y ≡ x = cc f in subst (λ z. q z ≡ true) g parts.0
    | inr k ↦ let f : find p ys ≡ Some x = rw k at e in found-has p ys x parts.1 f
  ]

  pub last-has : (o : Option X) (xs : List X) (x : X) → ((y : X) → o ≡ Some y → q y ≡ true) → list_all q xs ≡ true → last_or o xs ≡ Some x → q x ≡ true
  last-has o [] x k a e = k x e
  last-has o (y ∷ ys) x k a e = let parts = and_parts (q y) (list_all q ys) a in
      last-has (Some y) ys x (λ z f. let g : y ≡ z = cc f in subst (λ z. q z ≡ true) g parts.0) parts.1 e
