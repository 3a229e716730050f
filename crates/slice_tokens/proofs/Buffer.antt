-- The bytes that a window holds, as a part of its buffer.
use Rattle.std.proofs.Common.{◌≡◌, ℕ, ◌+◌, ◌-◌, ◌≤◌, List, ◌++◌, length, take, drop, sym, ap, ◌∙◌, arith, zero-add, length-take, length-drop, take-append-drop}
use Rattle.std.specs.List.{copy_within}
use Rattle.std.proofs.lemmas.List.{drop-drop, drop-take, take-take}
use Rattle.std.proofs.lemmas.List.Edits.{take-paste}

-- how many bytes are held
pub length-held : (xs : List ℕ) (i j : ℕ) → i ≤ j → j ≤ length xs → length (take (j - i) (drop i xs)) ≡ j - i
length-held xs i j p q = omega (arith, length-take (j - i) (drop i xs), length-drop i xs)

-- what is held after n of its bytes
pub held_after : (xs : List ℕ) (i j n : ℕ) → i + n ≤ j → take (j - (i + n)) (drop (i + n) xs) ≡ drop n (take (j - i) (drop i xs))
held_after xs i j n p =
    let count : j - i ≡ n + (j - (i + n)) = omega arith in
    ap (take (j - (i + n))) (sym (drop-drop n i xs)) ∙ sym (drop-take n (j - (i + n)) (drop i xs)) ∙ ap (λ k. drop n (take k (drop i xs))) (sym count)

-- the first n bytes of what is held
pub held_front : (xs : List ℕ) (i j n : ℕ) → i + n ≤ j → take (i + n - i) (drop i xs) ≡ take n (take (j - i) (drop i xs))
held_front xs i j n p =
    let count : i + n - i ≡ n = omega arith in
    let inside : n ≤ j - i = omega arith in
    ap (λ k. take k (drop i xs)) count ∙ sym (take-take n (j - i) (drop i xs) inside)

-- a part of a list that was copied to the front
pub front_after : (xs : List ℕ) (i j : ℕ) → j ≤ length xs → take (j - i) (copy_within xs i j 0) ≡ take (j - i) (drop i xs)
front_after xs i j q =
    let long : j - i ≤ length (drop i xs) = omega (arith, length-drop i xs) in
    ap (λ k. take k (copy_within xs i j 0)) (sym (zero-add (j - i))) ∙ take-paste xs 0 (drop i xs) (j - i) (omega arith) long

-- the front of a list, in two parts
take_parts : (m n : ℕ) (xs : List ℕ) → take (m + n) xs ≡ take m xs ++ take (m + n - m) (drop m xs)
take_parts m n xs =
    let count : m + n - m ≡ n = omega arith in
    let short : m ≤ m + n = omega arith in
    sym (take-append-drop m (take (m + n) xs)) ∙ ap (λ l. l ++ drop m (take (m + n) xs)) (take-take m (m + n) xs short)
    ∙ ap (λ l. take m xs ++ l) (drop-take m n xs) ∙ ap (λ k. take m xs ++ take k (drop m xs)) (sym count)

-- what is held after a read of n bytes behind m
pub held_refilled : (m n : ℕ) (new old : List ℕ) → take m new ≡ old → take (m + n - 0) (drop 0 new) ≡ old ++ take (m + n - m) (drop m new)
held_refilled m n new old front =
    let count : m + n - 0 ≡ m + n = omega arith in
    ap (λ k. take k new) count ∙ take_parts m n new ∙ ap (λ l. l ++ take (m + n - m) (drop m new)) front
