-- How a placed list stays one: a variable is added at the end, the last one taken off, two exchanged, room made.
use Rattle.std.proofs.Common.{◌≡◌, ◌≢◌, ℕ, zero, suc, ◌+◌, ◌-◌, ◌<◌, ◌≤◌, ◌⊎◌, Bool, true, false, ◌||◌, nat_eq, List, [], ◌∷◌, ◌++◌, length, take, replicate, get_or, refl, sym, ◌∙◌, ap, subst, inl, inr, arith, add-one, length-append, eqb-true, eq-eqb}
use Rattle.std.proofs.Math.ListN.{length-set, get_or-append, length-replicate}
use Rattle.std.proofs.Math.Seq.{take-set-lt, take-suc-set, get_or-set_same, get_or-set_other, get_or-append_right, get_or-append_seam}
use Rattle.std.proofs.lemmas.List.{take_more, get_or_default, get_or-take, length-take-le, take-append-le, take_all}
use Rattle.std.proofs.lemmas.List.Edits.{swap_is, swapped_from_swap, length-swap}
use Rattle.std.proofs.lemmas.List.Sorted.{list_any-IsPermutation, IsPermutation-swap}
use Rattle.std.proofs.lemmas.List.Folds.{list_any_at, list_any_more, list_any-append}
use Rattle.std.proofs.lemmas.Bool.{cases_Bool, both_ways}
use Rattle.std.specs.Prelude.{slice_index, slice_set, swap}
use Rattle.decide_order.specs.Placed.{Placed, has, placed_count, IsPlaced}

same_or_not : (i j : ℕ) → (i ≡ j) ⊎ (i ≢ j)
same_or_not i j = grind arith

differs : (a b : ℕ) → a ≢ b → nat_eq a b ≡ false
differs a b n = elim (cases_Bool (nat_eq a b)) [ inl e ↦ absurd (n (eqb-true a b e)) | inr e ↦ e ]

-- what a list has after a write
at_write : (xs : List ℕ) (i j a : ℕ) → i < length xs → j ≡ i → slice_index (slice_set xs i a) j ≡ a
at_write xs i j a lt e = rw e (get_or-set_same xs i a 0 lt)

elsewhere : (xs : List ℕ) (i j a : ℕ) → j ≢ i → slice_index (slice_set xs i a) j ≡ slice_index xs j
elsewhere xs i j a n = get_or-set_other xs i j a 0 n

-- what is read of a list
pub read : (xs : List ℕ) (i x : ℕ) → i < length xs → x ≡ get_or xs i x → x ≡ slice_index xs i
read xs i x lt e = e ∙ get_or_default xs i x 0 lt

-- ---- How many have a place

pub count_le : (ps : List ℕ) → placed_count ps ≤ length ps
count_le [] = omega arith
count_le (zero ∷ ps) = omega (arith, count_le ps)
count_le (suc k ∷ ps) = omega (arith, count_le ps)

count_room : (ps : List ℕ) (i : ℕ) → i < length ps → slice_index ps i ≡ 0 → placed_count ps < length ps
count_room [] i lt e = absurd (omega arith)
count_room (zero ∷ ps) zero lt e = omega (arith, count_le ps)
count_room (suc k ∷ ps) zero lt e = absurd (omega arith)
count_room (zero ∷ ps) (suc i) lt e = omega (arith, count_room ps i (omega arith) e)
count_room (suc k ∷ ps) (suc i) lt e = omega (arith, count_room ps i (omega arith) e)

count-set_new : (ps : List ℕ) (i k : ℕ) → i < length ps → slice_index ps i ≡ 0 → 0 < k → placed_count (slice_set ps i k) ≡ suc (placed_count ps)
count-set_new [] i k lt e z = absurd (omega arith)
count-set_new (zero ∷ ps) zero zero lt e z = absurd (omega arith)
count-set_new (zero ∷ ps) zero (suc k) lt e z = refl
count-set_new (suc n ∷ ps) zero k lt e z = absurd (omega arith)
count-set_new (zero ∷ ps) (suc i) k lt e z = count-set_new ps i k (omega arith) e z
count-set_new (suc n ∷ ps) (suc i) k lt e z = ap suc (count-set_new ps i k (omega arith) e z)

count-set_old : (ps : List ℕ) (i k : ℕ) → 0 < slice_index ps i → 0 < k → placed_count (slice_set ps i k) ≡ placed_count ps
count-set_old [] i k h z = refl
count-set_old (zero ∷ ps) zero k h z = absurd (omega arith)
count-set_old (suc n ∷ ps) zero zero h z = absurd (omega arith)
count-set_old (suc n ∷ ps) zero (suc k) h z = refl
count-set_old (zero ∷ ps) (suc i) k h z = count-set_old ps i k h z
count-set_old (suc n ∷ ps) (suc i) k h z = ap suc (count-set_old ps i k h z)

count-set_off : (ps : List ℕ) (i : ℕ) → 0 < slice_index ps i → suc (placed_count (slice_set ps i 0)) ≡ placed_count ps
count-set_off [] i z = absurd (omega arith)
count-set_off (zero ∷ ps) zero z = absurd (omega arith)
count-set_off (suc n ∷ ps) zero z = refl
count-set_off (zero ∷ ps) (suc i) z = count-set_off ps i z
count-set_off (suc n ∷ ps) (suc i) z = ap suc (count-set_off ps i z)

count-zeros : (ps : List ℕ) (n : ℕ) → placed_count (ps ++ replicate n 0) ≡ placed_count ps
count-zeros [] zero = refl
count-zeros [] (suc n) = count-zeros [] n
count-zeros (zero ∷ ps) n = count-zeros ps n
count-zeros (suc k ∷ ps) n = ap suc (count-zeros ps n)

-- ---- What the list has

pub fits : (rows places : List ℕ) (count most : ℕ) → IsPlaced rows places count most → count ≤ length rows
fits rows places count most p = let n = count_le places in let e = p.counted in let s = p.sized in omega arith

-- a variable without a place isn't among the first rows
absent_below : (rows places : List ℕ) (count most v : ℕ) → IsPlaced rows places count most → slice_index places (v - 1) ≡ 0
    → (n : ℕ) → n ≤ count → has (take n rows) v ≡ false
absent_below rows places count most v p e zero le = refl
absent_below rows places count most v p e (suc n) le =
    let full = fits rows places count most p in
    let other : slice_index rows n ≢ v = λ same. let there = p.there n (omega arith) in omega (arith, rw same at there) in
    let more : has (take (n + 1) rows) v ≡ (has (take n rows) v || nat_eq (slice_index rows n) v) = list_any_more (λ y. nat_eq y v) rows n 0 (omega arith) in
    let more2 : has (take (suc n) rows) v ≡ (has (take n rows) v || nat_eq (slice_index rows n) v) = subst (λ k. has (take k rows) v ≡ (has (take n rows) v || nat_eq (slice_index rows n) v)) (add-one n) more in
    more2 ∙ rw (absent_below rows places count most v p e n (omega arith), differs (slice_index rows n) v other) refl

pub absent : (rows places : List ℕ) (count most v : ℕ) → IsPlaced rows places count most → slice_index places (v - 1) ≡ 0
    → has (take count rows) v ≡ false
absent rows places count most v p e = absent_below rows places count most v p e count (omega arith)

-- a variable that isn't in the list has no place
pub unplaced : (rows places : List ℕ) (count most v : ℕ) → IsPlaced rows places count most → has (take count rows) v ≡ false
    → 0 < v → v ≤ length places → slice_index places (v - 1) ≡ 0
unplaced rows places count most v p no_item z le = elim (same_or_not (slice_index places (v - 1)) 0) [
  | inl e ↦ e
  | inr n ↦
      let pos : 0 < slice_index places (v - 1) = omega arith in
      let low = p.place (v - 1) (omega arith) pos in
      let is : slice_index rows (slice_index places (v - 1) - 1) ≡ v - 1 + 1 = p.back (v - 1) (omega arith) pos in
      let full = fits rows places count most p in
      let k = slice_index places (v - 1) - 1 in
      let long : length (take count rows) ≡ count = length-take-le count rows full in
      let item : slice_index (take count rows) k ≡ v = get_or-take count rows k 0 (omega arith) ∙ is ∙ omega arith in
      let found : has (take count rows) v ≡ true = list_any_at (λ y. nat_eq y v) (take count rows) k 0 (omega arith) (eq-eqb _ v item) in
      absurd (both_ways _ no_item found)
]

-- the list as callers see it
pub shown-length : (rows places : List ℕ) (count most : ℕ) → IsPlaced rows places count most → length (take count rows) ≡ count
shown-length rows places count most p = length-take-le count rows (fits rows places count most p)

pub shown-at : (rows : List ℕ) (count i : ℕ) → i < count → slice_index (take count rows) i ≡ slice_index rows i
shown-at rows count i lt = get_or-take count rows i 0 lt

-- the list has variables
pub all_positive : (rows places : List ℕ) (count most : ℕ) (placed : Placed) → IsPlaced rows places count most → take count rows ≡ placed.items
    → (j : ℕ) → j < length placed.items → 0 < slice_index placed.items j
all_positive rows places count most placed p shown j lt =
    let long = shown-length rows places count most p in
    let long2 : length placed.items ≡ count = ap length (sym shown) ∙ long in
    rw (← shown, shown-at rows count j (omega arith)) (p.above j (omega arith))

-- ---- A variable is added

pub push : (rows places : List ℕ) (count most v n : ℕ) → IsPlaced rows places count most → 0 < v → v ≤ length places → has (take count rows) v ≡ false
    → n ≡ count + 1 → IsPlaced (slice_set rows count v) (slice_set places (v - 1) n) n most
push rows places count most v n p z le no_item e =
    let free : slice_index places (v - 1) ≡ 0 = unplaced rows places count most v p no_item z le in
    let within : v - 1 < length places = omega arith in
    let room = count_room places (v - 1) within free in
    let counted = p.counted in
    let sized = p.sized in
    let space : count < length rows = omega arith in
    let long = length-set rows count v in
    let wide = length-set places (v - 1) n in
    let last = at_write rows count count v space refl in
    record {
      sized = omega arith;
      small = let s = p.small in omega arith;
      counted = let more = count-set_new places (v - 1) n within free (omega arith) in omega arith;
      above = λ i lt. elim (same_or_not i count) [
        | inl is ↦ rw (is, last) z
        | inr is ↦ rw (elsewhere rows count i v is) (p.above i (omega arith))
      ];
      within = λ i lt. elim (same_or_not i count) [
        | inl is ↦ rw (is, last, wide) le
        | inr is ↦ rw (elsewhere rows count i v is, wide) (p.within i (omega arith))
      ];
      there = λ i lt. elim (same_or_not i count) [
        | inl is ↦ rw (is, last) (at_write places (v - 1) (v - 1) n within refl ∙ e)
        | inr is ↦
            let old : slice_index places (slice_index rows i - 1) ≡ i + 1 = p.there i (omega arith) in
            let apart : slice_index rows i - 1 ≢ v - 1 = λ same. omega (arith, rw same at old) in
            rw (elsewhere rows count i v is) (elsewhere places (v - 1) (slice_index rows i - 1) n apart ∙ old)
      ];
      place = λ k lt pos. elim (same_or_not k (v - 1)) [
        | inl is ↦ let now : slice_index (slice_set places (v - 1) n) k ≡ n = at_write places (v - 1) k n within is in omega arith
        | inr is ↦ let now = elsewhere places (v - 1) k n is in let old = p.place k (omega arith) (omega arith) in omega arith
      ];
      back = λ k lt pos. elim (same_or_not k (v - 1)) [
        | inl is ↦
            let now : slice_index (slice_set places (v - 1) n) k ≡ n = at_write places (v - 1) k n within is in
            at_write rows count _ v space (omega arith) ∙ omega arith
        | inr is ↦
            let now = elsewhere places (v - 1) k n is in
            let low = p.place k (omega arith) (omega arith) in
            rw now (elsewhere rows count (slice_index places k - 1) v (λ same. omega arith) ∙ p.back k (omega arith) (omega arith))
      ];
    }

pub shown-push : (rows : List ℕ) (count v : ℕ) → count < length rows → take (count + 1) (slice_set rows count v) ≡ take count rows ++ v ∷ []
shown-push rows count v lt = rw add-one (take-suc-set rows count v lt)

-- ---- The last variable is taken off

pub pop : (rows places : List ℕ) (count most n v : ℕ) → IsPlaced rows places count most → count ≡ n + 1 → v ≡ slice_index rows n
    → IsPlaced rows (slice_set places (v - 1) 0) n most
pop rows places count most n v p e is =
    let there : slice_index places (slice_index rows n - 1) ≡ n + 1 = p.there n (omega arith) in
    let there2 : slice_index places (v - 1) ≡ n + 1 = subst (λ k. slice_index places (k - 1) ≡ n + 1) (sym is) there in
    let positive = p.above n (omega arith) in
    let reserved = p.within n (omega arith) in
    let within : v - 1 < length places = omega arith in
    let wide = length-set places (v - 1) 0 in
    let sized = p.sized in
    record {
      sized = omega arith;
      small = let s = p.small in omega arith;
      counted = let fewer = count-set_off places (v - 1) (omega arith) in let counted = p.counted in omega arith;
      above = λ i lt. p.above i (omega arith);
      within = λ i lt. rw wide (p.within i (omega arith));
      there = λ i lt.
          let old : slice_index places (slice_index rows i - 1) ≡ i + 1 = p.there i (omega arith) in
          let apart : slice_index rows i - 1 ≢ v - 1 = λ same. omega (arith, rw same at old) in
          elsewhere places (v - 1) (slice_index rows i - 1) 0 apart ∙ old;
      place = λ k lt pos. elim (same_or_not k (v - 1)) [
        | inl at ↦ let now = at_write places (v - 1) k 0 within at in absurd (omega arith)
        | inr at ↦
            let now = elsewhere places (v - 1) k 0 at in
            let low = p.place k (omega arith) (omega arith) in
            let back : slice_index rows (slice_index places k - 1) ≡ k + 1 = p.back k (omega arith) (omega arith) in
            let apart : slice_index places k ≢ count = λ same.
            let there3 : slice_index places k - 1 ≡ n = omega arith in
            let row : slice_index rows n ≡ k + 1 = sym (ap (λ m. slice_index rows m) there3) ∙ back in omega arith
            in omega arith
      ];
      back = λ k lt pos. elim (same_or_not k (v - 1)) [
        | inl at ↦ let now = at_write places (v - 1) k 0 within at in absurd (omega arith)
        | inr at ↦ let now = elsewhere places (v - 1) k 0 at in rw now (p.back k (omega arith) (omega arith))
      ];
    }

-- ---- Two variables are exchanged

pub exchange : (rows places : List ℕ) (count most i j a b : ℕ) → IsPlaced rows places count most → i < j → j < count → a ≡ slice_index rows i → b ≡ slice_index rows j
    → IsPlaced (slice_set (slice_set rows i b) j a) (slice_set (slice_set places (b - 1) (i + 1)) (a - 1) (j + 1)) count most
exchange rows places count most i j a b p ij jc ai bj =
    let full = fits rows places count most p in
    let sized = p.sized in
    let there_i : slice_index places (a - 1) ≡ i + 1 = subst (λ k. slice_index places (k - 1) ≡ i + 1) (sym ai) (p.there i (omega arith)) in
    let there_j : slice_index places (b - 1) ≡ j + 1 = subst (λ k. slice_index places (k - 1) ≡ j + 1) (sym bj) (p.there j (omega arith)) in
    let za : 0 < a = rw ai (p.above i (omega arith)) in
    let zb : 0 < b = rw bj (p.above j jc) in
    let la : a ≤ length places = rw ai (p.within i (omega arith)) in
    let lb : b ≤ length places = rw bj (p.within j jc) in
    let apart : a - 1 ≢ b - 1 = λ same. omega (arith, there_i, rw same at there_i, there_j) in
    let ps = slice_set places (b - 1) (i + 1) in
    let wide1 = length-set places (b - 1) (i + 1) in
    let wide2 = length-set ps (a - 1) (j + 1) in
    let long1 = length-set rows i b in
    let long2 = length-set (slice_set rows i b) j a in
    let row_i : slice_index (slice_set (slice_set rows i b) j a) i ≡ b = elsewhere (slice_set rows i b) j i a (λ e. omega arith) ∙ at_write rows i i b (omega arith) refl in
    let row_j : slice_index (slice_set (slice_set rows i b) j a) j ≡ a = at_write (slice_set rows i b) j j a (omega arith) refl in
    let row : (k : ℕ) → k ≢ i → k ≢ j → slice_index (slice_set (slice_set rows i b) j a) k ≡ slice_index rows k
    = λ k ki kj. elsewhere (slice_set rows i b) j k a kj ∙ elsewhere rows i k b ki in
    let place_a : slice_index (slice_set ps (a - 1) (j + 1)) (a - 1) ≡ j + 1 = at_write ps (a - 1) (a - 1) (j + 1) (omega arith) refl in
    let place_b : slice_index (slice_set ps (a - 1) (j + 1)) (b - 1) ≡ i + 1
    = elsewhere ps (a - 1) (b - 1) (j + 1) (λ e. apart (sym e)) ∙ at_write places (b - 1) (b - 1) (i + 1) (omega arith) refl in
    let place : (k : ℕ) → k ≢ a - 1 → k ≢ b - 1 → slice_index (slice_set ps (a - 1) (j + 1)) k ≡ slice_index places k
    = λ k ka kb. elsewhere ps (a - 1) k (j + 1) ka ∙ elsewhere places (b - 1) k (i + 1) kb in
    record {
      sized = omega arith;
      small = let s = p.small in omega arith;
      counted =
          let one = count-set_old places (b - 1) (i + 1) (omega arith) (omega arith) in
          let still : slice_index ps (a - 1) ≡ slice_index places (a - 1) = elsewhere places (b - 1) (a - 1) (i + 1) apart in
          count-set_old ps (a - 1) (j + 1) (omega arith) (omega arith) ∙ one ∙ p.counted;
      above = λ k lt. elim (same_or_not k i) [
        | inl ki ↦ rw (ki, row_i) zb
        | inr ki ↦ elim (same_or_not k j) [ inl kj ↦ rw (kj, row_j) za | inr kj ↦ rw (row k ki kj) (p.above k lt) ]
      ];
      within = λ k lt. elim (same_or_not k i) [
        | inl ki ↦ rw (ki, row_i) (omega arith)
        | inr ki ↦ elim (same_or_not k j) [ inl kj ↦ rw (kj, row_j) (omega arith) | inr kj ↦ rw (row k ki kj) (let h = p.within k lt in omega arith) ]
      ];
      there = λ k lt. elim (same_or_not k i) [
        | inl ki ↦ rw (ki, row_i) place_b
        | inr ki ↦ elim (same_or_not k j) [
          | inl kj ↦ rw (kj, row_j) place_a
          | inr kj ↦
              let old : slice_index places (slice_index rows k - 1) ≡ k + 1 = p.there k lt in
              let not_a : slice_index rows k - 1 ≢ a - 1 = λ same. omega (arith, rw same at old, there_i) in
              let not_b : slice_index rows k - 1 ≢ b - 1 = λ same. omega (arith, rw same at old, there_j) in
              rw (row k ki kj) (place (slice_index rows k - 1) not_a not_b ∙ old)
        ]
      ];
      place = λ k lt pos. elim (same_or_not k (a - 1)) [
        | inl ka ↦ rw (ka, place_a) (omega arith)
        | inr ka ↦ elim (same_or_not k (b - 1)) [
          | inl kb ↦ rw (kb, place_b) (omega arith)
          | inr kb ↦ let now = place k ka kb in rw now (p.place k (omega arith) (omega arith))
        ]
      ];
      back = λ k lt pos. elim (same_or_not k (a - 1)) [
        | inl ka ↦ rw (ka, place_a) (subst (λ m. slice_index (slice_set (slice_set rows i b) j a) m ≡ a - 1 + 1) (minus_one j) (row_j ∙ omega arith))
        | inr ka ↦ elim (same_or_not k (b - 1)) [
          | inl kb ↦ rw (kb, place_b) (subst (λ m. slice_index (slice_set (slice_set rows i b) j a) m ≡ b - 1 + 1) (minus_one i) (row_i ∙ omega arith))
          | inr kb ↦
              let now = place k ka kb in
              let old : slice_index rows (slice_index places k - 1) ≡ k + 1 = p.back k (omega arith) (omega arith) in
              let not_i : slice_index places k - 1 ≢ i = λ same. ka (omega (arith, rw same at old, ai)) in
              let not_j : slice_index places k - 1 ≢ j = λ same. kb (omega (arith, rw same at old, bj)) in
              rw now (row (slice_index places k - 1) not_i not_j ∙ old)
        ]
      ];
    }
  where
    minus_one : (n : ℕ) → n ≡ n + 1 - 1
    minus_one n = omega arith

pub shown-swap : (rows : List ℕ) (count i j a b : ℕ) → i < j → j < count → count ≤ length rows → a ≡ slice_index rows i → b ≡ slice_index rows j
    → take count (slice_set (slice_set rows i b) j a) ≡ swap (take count rows) i j
shown-swap rows count i j a b ij jc full ai bj =
    let long = length-take-le count rows full in
    take-set-lt count (slice_set rows i b) j a jc ∙ ap (λ xs. slice_set xs j a) (take-set-lt count rows i b (omega arith))
    ∙ rw (ai, bj, ← shown-at rows count i (omega arith), ← shown-at rows count j jc) (swap_is (take count rows) i j 0 (omega arith) (omega arith))

-- ---- Room is made

pub reserve : (rows places : List ℕ) (count most n : ℕ) → IsPlaced rows places count most → length places + n ≤ most
    → IsPlaced (rows ++ replicate n 0) (places ++ replicate n 0) count most
reserve rows places count most n p le =
    let full = fits rows places count most p in
    let sized = p.sized in
    let long : length (rows ++ replicate n 0) ≡ length rows + n = length-append rows (replicate n 0) ∙ ap (λ m. length rows + m) (length-replicate n 0) in
    let wide : length (places ++ replicate n 0) ≡ length places + n = length-append places (replicate n 0) ∙ ap (λ m. length places + m) (length-replicate n 0) in
    let row : (i : ℕ) → i < count → slice_index (rows ++ replicate n 0) i ≡ slice_index rows i = λ i lt. get_or-append rows (replicate n 0) 0 i (omega arith) in
    let place : (k : ℕ) → k < length places → slice_index (places ++ replicate n 0) k ≡ slice_index places k = λ k lt. get_or-append places (replicate n 0) 0 k lt in
    let old : (k : ℕ) → 0 < slice_index (places ++ replicate n 0) k → k < length places = λ k pos. below k pos (same_or_not (length places - k) 0) in
    record {
      sized = omega arith;
      small = omega arith;
      counted = count-zeros places n ∙ p.counted;
      above = λ i lt. rw (row i lt) (p.above i lt);
      within = λ i lt. rw (row i lt, wide) (let h = p.within i lt in omega arith);
      there = λ i lt. let up = p.above i lt in let h = p.within i lt in rw (row i lt) (place (slice_index rows i - 1) (omega arith) ∙ p.there i lt);
      place = λ k lt pos. let now = place k (old k pos) in rw now (p.place k (old k pos) (omega arith));
      back = λ k lt pos.
          let now = place k (old k pos) in
          let low = p.place k (old k pos) (omega arith) in
          rw now (row (slice_index places k - 1) (omega arith) ∙ p.back k (old k pos) (omega arith));
    }
  where
    zero_at : (n i : ℕ) → slice_index (replicate n 0) i ≡ 0
    zero_at zero i = refl
    zero_at (suc n) zero = refl
    zero_at (suc n) (suc i) = zero_at n i

    below : (k : ℕ) → 0 < slice_index (places ++ replicate n 0) k → (length places - k ≡ 0) ⊎ (length places - k ≢ 0) → k < length places
    below k pos (inl e) = absurd (let z = get_or-append_right places (replicate n 0) k 0 (omega arith) ∙ zero_at n (k - length places) in omega arith)
    below k pos (inr e) = omega arith

-- ---- What the calls on a list do, by what they read

-- the list that callers see
pub record IsShown (rows places : List ℕ) (count : ℕ) (placed : Placed) : Type 0 where
  pub reserved : length places ≡ placed.reserved
  pub items : take count rows ≡ placed.items

-- a variable was found
pub record Found (items : List ℕ) (i v : ℕ) : Type 0 where
  pub within : i < length items
  pub at : slice_index items i ≡ v
  pub alone : (j : ℕ) → j < length items → slice_index items j ≡ v → j ≡ i

pub found : (rows places : List ℕ) (count most v x : ℕ) → IsPlaced rows places count most → 0 < v → v ≤ length places → x ≡ get_or places (v - 1) x → x ≢ 0
    → Found (take count rows) (x - 1) v
found rows places count most v x p z le e n =
    let is = read places (v - 1) x (omega arith) e in
    let low = p.place (v - 1) (omega arith) (omega arith) in
    let long = shown-length rows places count most p in
    let back : slice_index rows (slice_index places (v - 1) - 1) ≡ v - 1 + 1 = p.back (v - 1) (omega arith) (omega arith) in
    record {
      within = omega arith;
      at = shown-at rows count (x - 1) (omega arith) ∙ ap (λ k. slice_index rows (k - 1)) is ∙ back ∙ omega arith;
      alone = λ j lt at.
          let row : slice_index rows j ≡ v = sym (shown-at rows count j (omega arith)) ∙ at in
          let there : slice_index places (slice_index rows j - 1) ≡ j + 1 = p.there j (omega arith) in
          let there2 : slice_index places (v - 1) ≡ j + 1 = subst (λ k. slice_index places (k - 1) ≡ j + 1) row there in
          omega arith;
    }

pub found_has : (items : List ℕ) (i v : ℕ) → Found items i v → has items v ≡ true
found_has items i v f = list_any_at (λ y. nat_eq y v) items i 0 f.within (eq-eqb _ v f.at)

-- a variable may be added
pub record Pushes (rows places : List ℕ) (count most v : ℕ) (old : List ℕ) : Type 0 where
  pub room : count < length rows
  pub small : count < most
  pub placed : IsPlaced (slice_set rows count v) (slice_set places (v - 1) (count + 1)) (count + 1) most
  pub items : take (count + 1) (slice_set rows count v) ≡ old ++ v ∷ []

pub pushes : (rows places : List ℕ) (count most v : ℕ) (placed : Placed) → IsPlaced rows places count most
    → length places ≡ placed.reserved → take count rows ≡ placed.items → 0 < v → v ≤ placed.reserved → has placed.items v ≡ false
    → Pushes rows places count most v placed.items
pushes rows places count most v placed p room shown z le no_item =
    let absent2 : has (take count rows) v ≡ false = rw shown no_item in
    let free : slice_index places (v - 1) ≡ 0 = unplaced rows places count most v p absent2 z (omega arith) in
    let space = count_room places (v - 1) (omega arith) free in
    let counted = p.counted in
    let sized = p.sized in
    let small = p.small in
    record {
      room = omega arith;
      small = omega arith;
      placed = push rows places count most v (count + 1) p z (omega arith) absent2 refl;
      items = shown-push rows count v (omega arith) ∙ ap (λ xs. xs ++ v ∷ []) shown;
    }

-- the last variable may be taken off
pub record Pops (rows places : List ℕ) (count most n v : ℕ) (old : List ℕ) : Type 0 where
  pub room : n < length rows
  pub positive : 0 < v
  pub within : v ≤ length places
  pub placed : IsPlaced rows (slice_set places (v - 1) 0) n most
  pub items : old ≡ take n rows ++ v ∷ []
  pub gone : has (take n rows) v ≡ false

pub pops : (rows places : List ℕ) (count most v : ℕ) (placed : Placed) → IsPlaced rows places count most → take count rows ≡ placed.items
    → 0 < length placed.items → v ≡ get_or rows (count - 1) v → Pops rows places count most (count - 1) v placed.items
pops rows places count most v placed p shown z e =
    let full = fits rows places count most p in
    let long : length (take count rows) ≡ count = shown-length rows places count most p in
    let long2 : length placed.items ≡ count = ap length (sym shown) ∙ long in
    let n = count - 1 in
    let is : v ≡ slice_index rows n = read rows n v (omega arith) e in
    let after : IsPlaced rows (slice_set places (v - 1) 0) n most = pop rows places count most n v p (omega arith) is in
    let up = p.above n (omega arith) in
    let le = p.within n (omega arith) in
    record {
      room = omega arith;
      positive = omega arith;
      within = omega arith;
      placed = after;
      items = sym shown ∙ ap (λ k. take k rows) (counted (omega arith)) ∙ take_more rows n v (omega arith) ∙ ap (λ x. take n rows ++ x ∷ []) (sym e);
      gone = absent rows (slice_set places (v - 1) 0) n most v after (at_write places (v - 1) (v - 1) 0 (omega arith) refl);
    }
  where
    counted : 0 < count → count ≡ count - 1 + 1
    counted h = omega arith

-- room may be made
pub reserves : (rows places after_rows after_places : List ℕ) (count most n : ℕ) → IsPlaced rows places count most → length places ≤ n → n ≤ most
    → after_rows ≡ take n rows ++ replicate (n - length rows) 0 → after_places ≡ take n places ++ replicate (n - length places) 0
    → IsPlaced after_rows after_places count most
reserves rows places after_rows after_places count most n p le lim er ep =
    let sized = p.sized in
    let rows_stay : take n rows ≡ rows = take_all n rows (omega arith) in
    let places_stay : take n places ≡ places = take_all n places le in
    let more : n - length rows ≡ n - length places = omega arith in
    rw (er, ep, rows_stay, places_stay, more) (reserve rows places count most (n - length places) p (omega arith))

pub shown-reserve : (rows places after_rows : List ℕ) (count most n : ℕ) → IsPlaced rows places count most → length places ≤ n
    → after_rows ≡ take n rows ++ replicate (n - length rows) 0 → take count after_rows ≡ take count rows
shown-reserve rows places after_rows count most n p le e =
    let sized = p.sized in
    let rows_stay : take n rows ≡ rows = take_all n rows (omega arith) in
    rw (e, rows_stay) (take-append-le count rows (replicate (n - length rows) 0) (fits rows places count most p))

-- a list that was made longer is cut back
pub cut_back : (xs ys : List ℕ) (n m : ℕ) → ys ≡ take n xs ++ replicate (n - length xs) 0 → length xs ≤ n → m ≡ length xs → take m ys ≡ xs
cut_back xs ys n m e le em =
    let stay : take n xs ≡ xs = take_all n xs le in
    rw (e, stay, em) (take-append-le (length xs) xs (replicate (n - length xs) 0) (omega arith) ∙ take_all (length xs) xs (omega arith))

-- the first variable is taken out, where the last one stands in its place
pub record TakesFirst (old swapped new : List ℕ) (v : ℕ) : Type 0 where
  pub first : v ≡ slice_index old 0
  pub count : length old ≡ length new + 1
  pub rest : (j : ℕ) → 0 < j → j < length new → slice_index new j ≡ slice_index old j
  pub same : (w : ℕ) → has old w ≡ (has new w || nat_eq v w)

pub takes_first : (old swapped new : List ℕ) (v n : ℕ) → length old ≡ n + 1 → swapped ≡ swap old 0 n → swapped ≡ new ++ v ∷ []
    → TakesFirst old swapped new v
takes_first old swapped new v n long es e =
    let s = swapped_from_swap old swapped 0 n 0 (omega arith) (omega arith) es in
    let kept : length swapped ≡ length old = ap length es ∙ length-swap old 0 n in
    let longer : length swapped ≡ length new + 1 = ap length e ∙ length-append new (v ∷ []) ∙ omega arith in
    let last : slice_index (new ++ v ∷ []) (length new) ≡ v = get_or-append_seam new v [] 0 in
    let ends : slice_index swapped n ≡ v = rw e (let is : n ≡ length new = omega arith in rw is last) in
    record {
      first = sym ends ∙ s.1;
      count = omega arith;
      rest = λ j z lt. sym (get_or-append new (v ∷ []) 0 j lt) ∙ ap (λ xs. slice_index xs j) (sym e) ∙ s.2 j (λ k. omega arith) (λ k. omega arith);
      same = λ w. list_any-IsPermutation (λ y. nat_eq y w) old swapped (IsPermutation-swap old swapped 0 n (omega arith) (omega arith) es)
          ∙ ap (λ xs. has xs w) e ∙ list_any-append (λ y. nat_eq y w) new (v ∷ []) ∙ ap (λ b. has new w || b) (or_false (nat_eq v w));
    }
  where
    or_false : (b : Bool) → (b || false) ≡ b
    or_false true = refl
    or_false false = refl

-- the same where the first one is the last
pub takes_only : (old new : List ℕ) (v : ℕ) → length old ≡ 1 → old ≡ new ++ v ∷ [] → TakesFirst old old new v
takes_only old new v long e =
    takes_first old old new v 0 (omega arith) (swap_none old) e
  where
    swap_none : (xs : List ℕ) → xs ≡ swap xs 0 0
    swap_none [] = refl
    swap_none (x ∷ xs) = refl
