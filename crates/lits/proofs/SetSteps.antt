-- What the calls on ascending lists find: a merge of two, opposite neighbours, a search, a sort.
use Rattle.std.proofs.Common.{◌≡◌, ◌≢◌, ℕ, suc, ◌+◌, ◌-◌, ◌<◌, ◌≤◌, true, false, nat_eq, List, ◌∷◌, length, get_or, drop, Contains, Result, Ok, Err, MatchResult, IsPermutation, IsSorted, sym, ◌∙◌, ap, subst, inl, inr, arith, eq-eqb, ne_eqb}
use Rattle.std.proofs.Math.Seq.{drop-cons}
use Rattle.std.proofs.lemmas.List.{drop_all, get_or_read}
use Rattle.std.specs.List.{AllPairs, dedup}
use Rattle.std.specs.List.Sorted.{IsStrictlyIncreasing}
use Rattle.std.specs.Ordering.{nat_cmp}
use Rattle.std.specs.Result.{is_ok}
use Rattle.std.specs.Cmp.{both_ways}
use Rattle.std.proofs.lemmas.List.Kept.{AllPairs-from_increasing, Contains-dedup_nat, Contains-from_dedup}
use Rattle.std.proofs.lemmas.List.Sorted.{Contains-permutation, IsPermutation-sym}
use Rattle.std.proofs.lemmas.List.Elements.{Contains-get_or}
use Rattle.std.proofs.lemmas.Map.Keys.{IsStrictlyIncreasing-dedup}
use Rattle.std.proofs.lemmas.Bool.{and_left, cases_eq, cases_lt, cases_order, false_from_ne_true}
use Rattle.lits.specs.Literal.{neg}
use Rattle.lits.specs.Clause.{has, is_part, is_tautology, set_of}
use Rattle.lits.proofs.Literal.{neg-neg}
use Rattle.lits.proofs.Members.{here, there, here_or_there, has_at, has_from}
use Rattle.lits.proofs.Sets.{has-same, part_at, part_from, tautology_at, tautology_from}
use Rattle.lits.proofs.Ascending.{Ascends, ascends_from, ascends_drop, absent_below, set_of-unique}

-- ---- A merge: what is left of both lists, by their first literals

part-both : (l : ℕ) (ls ms : List ℕ) → Ascends (l ∷ ls) → is_part (l ∷ ls) (l ∷ ms) ≡ is_part ls ms
part-both l ls ms a = both_ways (is_part (l ∷ ls) (l ∷ ms)) (is_part ls ms) without with
  where
    without : is_part (l ∷ ls) (l ∷ ms) ≡ true → is_part ls ms ≡ true
    without h = part_from ls ms (λ n c. elim (here_or_there l n ms (part_at (l ∷ ls) (l ∷ ms) h n (there l n ls c))) [
      | inl e ↦ absurd (omega (arith, a.0 n c))
      | inr later ↦ later
    ])

    with : is_part ls ms ≡ true → is_part (l ∷ ls) (l ∷ ms) ≡ true
    with h = part_from (l ∷ ls) (l ∷ ms) (λ n c. elim (here_or_there l n ls c) [
      | inl e ↦ subst (λ x. Contains (l ∷ ms) x) e (here l ms)
      | inr later ↦ there l n ms (part_at ls ms h n later)
    ])

part-skip : (l m : ℕ) (ls ms : List ℕ) → Ascends (l ∷ ls) → m < l → is_part (l ∷ ls) (m ∷ ms) ≡ is_part (l ∷ ls) ms
part-skip l m ls ms a lt = both_ways (is_part (l ∷ ls) (m ∷ ms)) (is_part (l ∷ ls) ms)
    (λ h. part_from (l ∷ ls) ms (λ n c. elim (here_or_there m n ms (part_at (l ∷ ls) (m ∷ ms) h n c)) [ inl e ↦ absurd (not_first n c e) | inr later ↦ later ]))
    (λ h. part_from (l ∷ ls) (m ∷ ms) (λ n c. there m n ms (part_at (l ∷ ls) ms h n c)))
  where
    not_first : (n : ℕ) → Contains (l ∷ ls) n → m ≡ n → ⊥
    not_first n c e = elim (here_or_there l n ls c) [ inl f ↦ omega arith | inr later ↦ omega (arith, a.0 n later) ]

part-stop : (l m : ℕ) (ls ms : List ℕ) → Ascends (m ∷ ms) → l < m → is_part (l ∷ ls) (m ∷ ms) ≡ false
part-stop l m ls ms a lt = and_left _ _ (absent_below l m ms a lt)

module _ (ls ms : List ℕ) (a : IsStrictlyIncreasing ls) (b : IsStrictlyIncreasing ms) (i j : ℕ) (in_ls : i < length ls) (in_ms : j < length ms) where
  left : drop i ls ≡ get_or ls i 0 ∷ drop (suc i) ls
  left = drop-cons ls i 0 in_ls

  right : drop j ms ≡ get_or ms j 0 ∷ drop (suc j) ms
  right = drop-cons ms j 0 in_ms

  left_ascends : Ascends (get_or ls i 0 ∷ drop (suc i) ls)
  left_ascends = subst Ascends left (ascends_drop i ls (ascends_from ls a))

  right_ascends : Ascends (get_or ms j 0 ∷ drop (suc j) ms)
  right_ascends = subst Ascends right (ascends_drop j ms (ascends_from ms b))

  opened : is_part (drop i ls) (drop j ms) ≡ is_part (get_or ls i 0 ∷ drop (suc i) ls) (get_or ms j 0 ∷ drop (suc j) ms)
  opened = ap (λ xs. is_part xs (drop j ms)) left ∙ ap (λ ys. is_part (get_or ls i 0 ∷ drop (suc i) ls) ys) right

  next_i : suc i ≡ i + 1
  next_i = omega arith

  next_j : suc j ≡ j + 1
  next_j = omega arith

  pub merge_both : get_or ls i 0 ≡ get_or ms j 0 → is_part (drop i ls) (drop j ms) ≡ is_part (drop (i + 1) ls) (drop (j + 1) ms)
  merge_both e = opened
      ∙ ap (λ m. is_part (get_or ls i 0 ∷ drop (suc i) ls) (m ∷ drop (suc j) ms)) (sym e)
      ∙ part-both (get_or ls i 0) (drop (suc i) ls) (drop (suc j) ms) left_ascends
      ∙ ap (λ k. is_part (drop k ls) (drop (suc j) ms)) next_i
      ∙ ap (λ k. is_part (drop (i + 1) ls) (drop k ms)) next_j

  pub merge_skip : get_or ms j 0 < get_or ls i 0 → is_part (drop i ls) (drop j ms) ≡ is_part (drop i ls) (drop (j + 1) ms)
  merge_skip lt = opened
      ∙ part-skip (get_or ls i 0) (get_or ms j 0) (drop (suc i) ls) (drop (suc j) ms) left_ascends lt
      ∙ ap (λ xs. is_part xs (drop (suc j) ms)) (sym left)
      ∙ ap (λ k. is_part (drop i ls) (drop k ms)) next_j

  pub merge_stop : get_or ls i 0 < get_or ms j 0 → is_part (drop i ls) (drop j ms) ≡ false
  merge_stop lt = opened ∙ part-stop (get_or ls i 0) (get_or ms j 0) (drop (suc i) ls) (drop (suc j) ms) right_ascends lt

-- nothing is left of the first list
pub merge_done : (ls ms : List ℕ) (i : ℕ) → length ls ≤ i → is_part (drop i ls) ms ≡ true
merge_done ls ms i h = ap (λ xs. is_part xs ms) (drop_all i ls h)

-- nothing is left of the second
pub merge_short : (ls ms : List ℕ) (i j : ℕ) → i < length ls → length ms ≤ j → is_part (drop i ls) (drop j ms) ≡ false
merge_short ls ms i j h g = ap (λ xs. is_part xs (drop j ms)) (drop-cons ls i 0 h) ∙ ap (λ ys. is_part (get_or ls i 0 ∷ drop (suc i) ls) ys) (drop_all j ms g)

-- at the end of the second list all of the first were met, or there is one that wasn't
pub merge_end : (ls ms : List ℕ) (i j : ℕ) → i ≤ length ls → length ms ≤ j → nat_eq i (length ls) ≡ is_part (drop i ls) (drop j ms)
merge_end ls ms i j le h = elim (cases_eq i (length ls)) [
  | inl e ↦ eq-eqb i (length ls) e ∙ sym (merge_done ls (drop j ms) i (omega arith))
  | inr d ↦ ne_eqb i (length ls) d ∙ sym (merge_short ls ms i j (omega arith) h)
]

-- ---- Opposite literals are neighbours

-- a literal and its negation with a greater code have no code between them
at_neighbours : (ls : List ℕ) (a i j : ℕ) → IsStrictlyIncreasing ls → a < neg a → i < length ls → j < length ls → get_or ls i 0 ≡ a → get_or ls j 0 ≡ neg a → (i + 1 < length ls) × (neg (get_or ls i 0) ≡ get_or ls (i + 1) 0)
at_neighbours ls a i j h lt in_i in_j at_i at_j = elim (cases_order (i + 1) j) [
  | inl e ↦ (omega arith, ap neg at_i ∙ sym at_j ∙ ap (λ k. get_or ls k 0) (sym e))
  | inr other ↦ elim other [
    | inl before ↦ let one = rises i (i + 1) 0 (omega arith) (omega arith) in let two = rises (i + 1) j 0 before in_j in absurd (omega arith)
    | inr after ↦ elim (cases_order i j) [
      | inl e ↦ absurd (omega (arith, ap (λ k. get_or ls k 0) e))
      | inr less ↦ let three = rises j i 0 (omega arith) in_i in absurd (omega arith)
    ]
  ]
]
  where
    rises : AllPairs (λ x y. x < y) ls
    rises = AllPairs-from_increasing ls h

-- no neighbours below this place are opposite
abbrev pub NoOpposites : List ℕ → ℕ → Type 0
NoOpposites ls n = (k : ℕ) → k + 1 < n → neg (get_or ls k 0) ≢ get_or ls (k + 1) 0

pub no_opposites_start : (ls : List ℕ) → NoOpposites ls 1
no_opposites_start ls k lt = absurd (omega arith)

pub no_opposites_more : (ls : List ℕ) (i : ℕ) → 1 ≤ i → NoOpposites ls i → neg (get_or ls (i - 1) 0) ≢ get_or ls i 0 → NoOpposites ls (i + 1)
no_opposites_more ls i pos h new k lt = elim (cases_eq (k + 1) i) [
  | inl e ↦ λ same. new (ap (λ n. neg (get_or ls n 0)) (before e) ∙ same ∙ ap (λ n. get_or ls n 0) e)
  | inr d ↦ h k (omega arith)
]
  where
    before : k + 1 ≡ i → i - 1 ≡ k
    before e = omega arith

opposites_clash : (ls : List ℕ) (l : ℕ) → IsStrictlyIncreasing ls → NoOpposites ls (length ls) → Contains ls l → Contains ls (neg l) → l < neg l → ⊥
opposites_clash ls l h none m n lt =
    let r = at_neighbours ls l m.0 n.0 h lt m.1 n.1 (read m) (read n) in none m.0 r.0 r.1
  where
    read : {x : ℕ} (c : Contains ls x) → get_or ls c.0 0 ≡ x
    read {x} c = sym (get_or_read ls c.0 x c.1 (sym c.2) 0)

pub no_tautology : (ls : List ℕ) → IsStrictlyIncreasing ls → NoOpposites ls (length ls) → is_tautology ls ≡ false
no_tautology ls h none = false_from_ne_true _ (λ e. by_order (tautology_at ls e))
  where
    by_order : (l : ℕ) × Contains ls l × Contains ls (neg l) → ⊥
    by_order r = elim (cases_order r.0 (neg r.0)) [
      | inl same ↦ absurd (omega arith)
      | inr other ↦ elim other [
        | inl less ↦ opposites_clash ls r.0 h none r.1 r.2 less
        | inr more ↦ opposites_clash ls (neg r.0) h none r.2 (subst (λ x. Contains ls x) (sym (neg-neg r.0)) r.1) (omega arith)
      ]
    ]

pub tautology_by_neighbours : (ls : List ℕ) (i : ℕ) → 1 ≤ i → i < length ls → neg (get_or ls (i - 1) 0) ≡ get_or ls i 0 → is_tautology ls ≡ true
tautology_by_neighbours ls i pos lt e =
    tautology_from ls (get_or ls (i - 1) 0) (Contains-get_or ls (i - 1) 0 (omega arith)) (subst (λ x. Contains ls x) (sym e) (Contains-get_or ls i 0 lt))

-- ---- A search

-- what a search in ascending literals answers
pub found : (ls : List ℕ) (l : ℕ) (r : Result ℕ ℕ) → MatchResult r (λ i. (i < length ls) × (get_or ls i 0 ≡ l)) (λ i. (i ≤ length ls) × ((k : ℕ) → k < i → get_or ls k 0 < l) × ((k : ℕ) → i ≤ k → k < length ls → l < get_or ls k 0)) → is_ok r ≡ has ls l
found ls l (Ok i) h = sym (has_from ls l (subst (λ x. Contains ls x) h.1 (Contains-get_or ls i 0 h.0)))
found ls l (Err i) h = sym (false_from_ne_true _ (λ e. absent (has_at ls l e)))
  where
    absent : Contains ls l → ⊥
    absent c = let at = sym (get_or_read ls c.0 l c.1 (sym c.2) 0) in elim (cases_lt c.0 i) [
      | inl below ↦ omega (arith, h.1 c.0 below)
      | inr above ↦ omega (arith, h.2 c.0 above c.1)
    ]

-- the elements of an ascending list don't fall
pub rises_from : (ls : List ℕ) → IsStrictlyIncreasing ls → (i j : ℕ) → i ≤ j → j < length ls → get_or ls i 0 ≤ get_or ls j 0
rises_from ls h i j le lt = elim (cases_eq i j) [
  | inl e ↦ omega (arith, ap (λ k. get_or ls k 0) e)
  | inr d ↦ let less = AllPairs-from_increasing ls h i j 0 (omega arith) lt in omega arith
]

-- ---- A sort

-- a list is the set of a clause, said three ways
pub record IsSetOf (c kept : List ℕ) : Type 0 where
  pub increasing : IsStrictlyIncreasing kept
  pub members : (l : ℕ) → has kept l ≡ has c l
  pub set : kept ≡ set_of c

-- sorted literals without their repeats are
pub IsSetOf-dedup : (c sorted kept : List ℕ) → IsPermutation c sorted → IsSorted nat_cmp sorted → kept ≡ dedup nat_eq sorted → IsSetOf c kept
IsSetOf-dedup c sorted kept moved rises is = record { increasing = up; members = same; set = set_of-unique kept c (ascends_from kept up) same }
  where
    up : IsStrictlyIncreasing kept
    up = subst IsStrictlyIncreasing (sym is) (IsStrictlyIncreasing-dedup sorted rises)

    same : (l : ℕ) → has kept l ≡ has c l
    same = has-same kept c
        (λ l m. Contains-permutation sorted c l (IsPermutation-sym c sorted moved) (Contains-from_dedup nat_eq sorted l (subst (λ ls. Contains ls l) is m)))
        (λ l m. subst (λ ls. Contains ls l) (sym is) (Contains-dedup_nat sorted l (Contains-permutation c sorted l moved m)))
