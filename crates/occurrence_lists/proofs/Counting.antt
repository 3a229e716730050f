-- How often an id stands in a list.
use Rattle.std.proofs.Common.{filter, Bool, true, false, ◌≡◌, ℕ, zero, suc, ◌+◌, ◌-◌, ◌<◌, ◌≤◌, cond, nat_eq, List, [], ◌∷◌, ◌++◌, length, get_or, drop, refl, sym, ap, ◌∙◌, inl, inr, arith, eqb-true, IsPermutation}
use Rattle.std.specs.Prelude.{slice_index, swap_remove}
use Rattle.std.proofs.lemmas.Bool.{cases_Bool, eq-eqb, ne_eqb}
use Rattle.std.proofs.lemmas.List.{drop_more}
use Rattle.std.proofs.lemmas.List.Sums.{sum_by-cons, sum_by_push}
use Rattle.std.proofs.lemmas.List.Sorted.{sum_by-IsPermutation, sum_by_popped, IsPermutation-swap_remove}
use Rattle.occurrence_lists.specs.Occurring.{times, one_if}

one_is : (q x : ℕ) → cond (nat_eq q x) 1 0 ≡ one_if (nat_eq q x)
one_is q x = elim (cases_Bool (nat_eq q x)) [ inl y ↦ rw y refl | inr y ↦ rw y refl ]

pub times-nil : (q : ℕ) → times q [] ≡ 0
unfolding times
times-nil q = refl

pub times-cons : (q x : ℕ) (xs : List ℕ) → times q (x ∷ xs) ≡ one_if (nat_eq q x) + times q xs
unfolding times
times-cons q x xs = sum_by-cons (λ z. cond (nat_eq q z) 1 0) x xs ∙ ap (λ n. n + times q xs) (one_is q x)

pub times-push : (q x : ℕ) (xs : List ℕ) → times q (xs ++ x ∷ []) ≡ times q xs + one_if (nat_eq q x)
unfolding times
times-push q x xs = sum_by_push (λ z. cond (nat_eq q z) 1 0) xs x ∙ ap (λ n. times q xs + n) (one_is q x)

pub times-popped : (q x : ℕ) (xs ys : List ℕ) → IsPermutation xs (x ∷ ys) → times q xs ≡ times q ys + one_if (nat_eq q x)
unfolding times
times-popped q x xs ys p = sym (sum_by_popped (λ z. cond (nat_eq q z) 1 0) x xs ys p) ∙ ap (λ n. times q ys + n) (one_is q x)

pub times-permuted : (q : ℕ) (xs ys : List ℕ) → IsPermutation xs ys → times q xs ≡ times q ys
unfolding times
times-permuted q xs ys p = sym (sum_by-IsPermutation (λ z. cond (nat_eq q z) 1 0) xs ys p)

-- an id is taken out at its place
pub times-taken : (q id i x : ℕ) (xs : List ℕ) → i < length xs → x ≡ get_or xs i x → x ≡ id → times q xs ≡ times q (swap_remove xs i x) + one_if (nat_eq q id)
times-taken q id i x xs lt is e = times-popped q x xs (swap_remove xs i x) (IsPermutation-swap_remove xs i x lt is) ∙ ap (λ z. times q (swap_remove xs i x) + one_if (nat_eq q z)) e

-- ---- Lists that have each id as often

-- how many pass a test, with a first one that goes
rest_of : (x : ℕ) (ys : List ℕ) → 0 < times x ys → (rest : List ℕ) × ((p : ℕ → Bool) → length (filter p ys) ≡ length (filter p rest) + one_if (p x))
    × ((q : ℕ) → times q ys ≡ times q rest + one_if (nat_eq q x))
rest_of x [] h = let n : times x [] ≡ 0 = times-nil x in absurd (omega (arith, h, n))
rest_of x (y ∷ ys) h = elim (cases_Bool (nat_eq x y)) [
  | inl e ↦ (ys, λ p. first p (eqb-true x y e), λ q. times-cons q y ys ∙ ap (λ z. one_if (nat_eq q z) + times q ys) (sym (eqb-true x y e)) ∙ swapped q)
  | inr e ↦
      let n : times x (y ∷ ys) ≡ 0 + times x ys = times-cons x y ys ∙ ap (λ b. one_if b + times x ys) e in
      let r = rest_of x ys (omega (arith, h, n)) in
      (y ∷ r.0, λ p. later p r.0 (r.1 p), λ q. let a = times-cons q y ys in let b = times-cons q y r.0 in let f = r.2 q in omega (arith, a, b, f))
]
  where
    swapped : (q : ℕ) → one_if (nat_eq q x) + times q ys ≡ times q ys + one_if (nat_eq q x)
    swapped q = omega arith

    first : (p : ℕ → Bool) → x ≡ y → length (filter p (y ∷ ys)) ≡ length (filter p ys) + one_if (p x)
    first p e = elim (cases_Bool (p y)) [
      | inl a ↦ let b : p x ≡ true = ap p e ∙ a in rw (a, b) (omega arith)
      | inr a ↦ let b : p x ≡ false = ap p e ∙ a in rw (a, b) (omega arith)
    ]

    later : (p : ℕ → Bool) (zs : List ℕ) → length (filter p ys) ≡ length (filter p zs) + one_if (p x) → length (filter p (y ∷ ys)) ≡ length (filter p (y ∷ zs)) + one_if (p x)
    later p zs e = elim (cases_Bool (p y)) [ inl a ↦ rw a (omega (arith, e)) | inr a ↦ rw a e ]

-- as many of both pass a test
pub counts_from_times : (p : ℕ → Bool) (xs ys : List ℕ) → ((q : ℕ) → times q xs ≡ times q ys) → length (filter p xs) ≡ length (filter p ys)
counts_from_times p [] [] h = refl
counts_from_times p [] (y ∷ ys) h =
    let a = h y in let b = times-nil y in let f = times-cons y y ys in let g : one_if (nat_eq y y) ≡ 1 = ap one_if (eq-eqb y y refl) in absurd (omega (arith, a, b, f, g))
counts_from_times p (x ∷ xs) ys h =
    let f = times-cons x x xs in let g : one_if (nat_eq x x) ≡ 1 = ap one_if (eq-eqb x x refl) in let e = h x in
    let there : 0 < times x ys = omega (arith, f, g, e) in
    let r = rest_of x ys there in
    let next = counts_from_times p xs r.0 (λ q. let a = h q in let b = times-cons q x xs in let d = r.2 q in omega (arith, a, b, d)) in
    let i = r.1 p in
    elim (cases_Bool (p x)) [
      | inl w ↦ let k : length (filter p ys) ≡ length (filter p r.0) + 1 = i ∙ ap (λ b. length (filter p r.0) + one_if b) w in rw w (omega (arith, next, k))
      | inr w ↦ let k : length (filter p ys) ≡ length (filter p r.0) + 0 = i ∙ ap (λ b. length (filter p r.0) + one_if b) w in rw w (omega (arith, next, k))
    ]

each : (xs : List ℕ) → length (filter (λ x. true) xs) ≡ length xs
each [] = refl
each (x ∷ xs) = ap suc (each xs)

-- and both are as long
pub length_from_times : (xs ys : List ℕ) → ((q : ℕ) → times q xs ≡ times q ys) → length xs ≡ length ys
length_from_times xs ys h = sym (each xs) ∙ counts_from_times (λ x. true) xs ys h ∙ each ys

-- ---- A search from the end

pub times-past : (q : ℕ) (xs : List ℕ) (n : ℕ) → length xs ≤ n → times q (drop n xs) ≡ 0
times-past q [] zero h = times-nil q
times-past q [] (suc n) h = times-nil q
times-past q (x ∷ xs) zero h = absurd (omega (arith, h))
times-past q (x ∷ xs) (suc n) h = times-past q xs n (omega (arith, h))

pub times-before : (q n : ℕ) (xs : List ℕ) → 0 < n → n ≤ length xs → (slice_index xs (n - 1) ≡ q → ⊥) → times q (drop n xs) ≡ 0 → times q (drop (n - 1) xs) ≡ 0
times-before q n xs up within other none =
    let i = n - 1 in
    let lt : n - 1 < length xs = omega arith in
    let e : n - 1 + 1 ≡ n = omega arith in
    let d : drop (n - 1) xs ≡ slice_index xs (n - 1) ∷ drop n xs = drop_more xs (n - 1) 0 lt ∙ ap (λ z. slice_index xs (n - 1) ∷ drop z xs) e in
    rw d (let a = times-cons q (slice_index xs (n - 1)) (drop n xs) in let b : one_if (nat_eq q (slice_index xs (n - 1))) ≡ 0 = ap one_if (ne_eqb q (slice_index xs (n - 1)) (λ z. other (sym z))) in omega (arith, a, b, none))
