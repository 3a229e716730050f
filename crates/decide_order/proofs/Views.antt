-- How a change of the scores' list changes the map, and a change of the placed list the set.
use Rattle.std.proofs.Common.{◌≡◌, ◌≢◌, ℕ, zero, suc, ◌+◌, ◌-◌, ◌/◌, ◌^◌, ◌<◌, ◌≤◌, ◌⊎◌, Bool, true, false, ◌||◌, nat_eq, eqb-true, cond, List, [], ◌∷◌, ◌++◌, length, map, replicate, Option, Some, None, refl, sym, ◌∙◌, ap, inl, inr, arith, append_assoc, length-append}
use Rattle.std.specs.Prelude.{slice_index, slice_set, unwrap_or}
use Rattle.std.proofs.Math.Nat.{zero-div}
use Rattle.std.specs.Option.{option_map}
use Rattle.std.proofs.lemmas.Bool.Decides.{nat_tests}
use Rattle.std.proofs.lemmas.Bool.{cases_Bool}
use Rattle.std.specs.Ordering.{nat_cmp, eq_by_cmp}
use Rattle.std.specs.Cmp.{nat_cmp_total}
use Rattle.std.specs.FinMap as scored
use Rattle.std.specs.FinMap.{nat_cmp-IsAntisymmetric, get-from_entries, get-entries, get-insert, find}
use Rattle.std.specs.FinSet as set
use Rattle.std.specs.FinSet.{contains-from_list_nat, contains-insert, contains-remove, from_list_push}
use Rattle.decide_order.specs.Ranked.{Ranked, score, with_score, with_zeros, scaled, scaled_scores}
use Rattle.decide_order.specs.Placed.{Placed, has}
use Rattle.decide_order.specs.Shown.{scores_from, score_map, member_set, shown}

same_or_not : (i j : ℕ) → (i ≡ j) ⊎ (i ≢ j)
same_or_not i j = grind arith

ties : (q : ℕ) → eq_by_cmp nat_cmp q q ≡ true
ties q = grind (arith, nat_tests)

differs : (q k : ℕ) → q ≢ k → eq_by_cmp nat_cmp q k ≡ false
differs q k ne = grind (arith, nat_tests)

-- ---- Scores

-- the element at a place, if there is one
abbrev at : List ℕ → ℕ → Option ℕ
at [] i = None
at (x ∷ xs) zero = Some x
at (x ∷ xs) (suc i) = at xs i

unwrap-at : (xs : List ℕ) (i : ℕ) → unwrap_or (at xs i) 0 ≡ slice_index xs i
unwrap-at [] i = refl
unwrap-at (x ∷ xs) zero = refl
unwrap-at (x ∷ xs) (suc i) = unwrap-at xs i

at-same : (xs : List ℕ) (i a : ℕ) → i < length xs → at (slice_set xs i a) i ≡ Some a
at-same [] i a lt = absurd (omega arith)
at-same (x ∷ xs) zero a lt = refl
at-same (x ∷ xs) (suc i) a lt = at-same xs i a (omega arith)

at-other : (xs : List ℕ) (i j a : ℕ) → j ≢ i → at (slice_set xs i a) j ≡ at xs j
at-other [] i j a n = refl
at-other (x ∷ xs) zero zero a n = absurd (n refl)
at-other (x ∷ xs) zero (suc j) a n = refl
at-other (x ∷ xs) (suc i) zero a n = refl
at-other (x ∷ xs) (suc i) (suc j) a n = at-other xs i j a (λ e. n (ap suc e))

find-below : (k q : ℕ) (ss : List ℕ) → q < k → find nat_cmp q (scores_from k ss) ≡ None
find-below k q [] lt = refl
find-below k q (s ∷ ss) lt = let apart : q ≢ k = omega arith in rw (differs q k apart) (find-below (suc k) q ss (omega arith))

find-at : (k q i : ℕ) (ss : List ℕ) → q ≡ k + i → find nat_cmp q (scores_from k ss) ≡ at ss i
find-at k q i [] e = refl
find-at k q zero (s ∷ ss) e = let same : q ≡ k = omega arith in rw (same, ties k) refl
find-at k q (suc i) (s ∷ ss) e = let apart : q ≢ k = omega arith in rw (differs q k apart) (find-at (suc k) q i ss (omega arith))

get-score_map : (ss : List ℕ) (q i : ℕ) → q ≡ i + 1 → scored.get (score_map ss) q ≡ at ss i
unfolding score_map
get-score_map ss q i e = get-from_entries nat_cmp_total (scores_from 1 ss) q ∙ find-at 1 q i ss (omega arith)

get-score_map-zero : (ss : List ℕ) → scored.get (score_map ss) 0 ≡ None
unfolding score_map
get-score_map-zero ss = get-from_entries nat_cmp_total (scores_from 1 ss) 0 ∙ find-below 1 0 ss (omega arith)

same_map : (m n : scored.FinMap nat_cmp ℕ) → ((q : ℕ) → scored.get m q ≡ scored.get n q) → m ≡ n
same_map m n h = scored.same_map nat_cmp_total nat_cmp-IsAntisymmetric m n h

pub score_map-set : (ss : List ℕ) (v s : ℕ) → 0 < v → v ≤ length ss → score_map (slice_set ss (v - 1) s) ≡ scored.insert (score_map ss) v s
score_map-set ss v s z le = same_map _ _ each
  where
    each : (q : ℕ) → scored.get (score_map (slice_set ss (v - 1) s)) q ≡ scored.get (scored.insert (score_map ss) v s) q
    each zero = get-score_map-zero (slice_set ss (v - 1) s) ∙ rw (get-insert nat_cmp_total, differs 0 v (omega arith)) (sym (get-score_map-zero ss))
    each (suc i) = elim (same_or_not (suc i) v) [
      | inl e ↦ get-score_map (slice_set ss (v - 1) s) (suc i) (v - 1) (omega arith) ∙ at-same ss (v - 1) s (omega arith) ∙ rw (get-insert nat_cmp_total, e, ties v) refl
      | inr n ↦ get-score_map (slice_set ss (v - 1) s) (suc i) i (omega arith) ∙ at-other ss (v - 1) i s (omega arith)
          ∙ rw (get-insert nat_cmp_total, differs (suc i) v n) (sym (get-score_map ss (suc i) i (omega arith)))
    ]

score_map-push : (ss : List ℕ) → score_map (ss ++ 0 ∷ []) ≡ scored.insert (score_map ss) (length ss + 1) 0
score_map-push ss = same_map _ _ each
  where
    last : (ss : List ℕ) → at (ss ++ 0 ∷ []) (length ss) ≡ Some 0
    last [] = refl
    last (x ∷ ss) = last ss

    past : (ss : List ℕ) (i : ℕ) → i ≢ length ss → at (ss ++ 0 ∷ []) i ≡ at ss i
    past [] zero n = absurd (n refl)
    past [] (suc i) n = refl
    past (x ∷ ss) zero n = refl
    past (x ∷ ss) (suc i) n = past ss i (λ e. n (ap suc e))

    each : (q : ℕ) → scored.get (score_map (ss ++ 0 ∷ [])) q ≡ scored.get (scored.insert (score_map ss) (length ss + 1) 0) q
    each zero = get-score_map-zero (ss ++ 0 ∷ []) ∙ rw (get-insert nat_cmp_total, differs 0 (length ss + 1) (omega arith)) (sym (get-score_map-zero ss))
    each (suc i) = elim (same_or_not i (length ss)) [
      | inl e ↦ get-score_map (ss ++ 0 ∷ []) (suc i) i (omega arith) ∙ ap (at (ss ++ 0 ∷ [])) e ∙ last ss
          ∙ sym (get-insert nat_cmp_total (score_map ss) (length ss + 1) 0 (suc i) ∙ hit (eq_by_cmp nat_cmp (suc i) (length ss + 1)) (let k : suc i ≡ length ss + 1 = omega arith in rw k (ties (length ss + 1))))
      | inr n ↦ get-score_map (ss ++ 0 ∷ []) (suc i) i (omega arith) ∙ past ss i n
          ∙ rw (get-insert nat_cmp_total, differs (suc i) (length ss + 1) (omega arith)) (sym (get-score_map ss (suc i) i (omega arith)))
    ]
      where
        hit : (b : Bool) → b ≡ true → cond b (Some 0) (scored.get (score_map ss) (suc i)) ≡ Some 0
        hit b h = rw h refl

pub score_map-zeros : (ss : List ℕ) (n : ℕ) → score_map (ss ++ replicate n 0) ≡ with_zeros (score_map ss) (length ss) n
score_map-zeros ss zero = ap score_map (right_nil ss)
  where
    right_nil : (xs : List ℕ) → xs ++ [] ≡ xs
    right_nil [] = refl
    right_nil (x ∷ xs) = ap (λ ys. x ∷ ys) (right_nil xs)
score_map-zeros ss (suc n) =
    ap score_map (sym (append_assoc ss (0 ∷ []) (replicate n 0))) ∙ score_map-zeros (ss ++ 0 ∷ []) n
    ∙ rw (score_map-push ss, longer ss) refl
  where
    longer : (xs : List ℕ) → length (xs ++ 0 ∷ []) ≡ length xs + 1
    longer xs = length-append xs (0 ∷ []) ∙ omega arith

-- ---- Scaling

find-mapped : (f : ℕ → ℕ) (q : ℕ) (es : List (ℕ × ℕ)) → find nat_cmp q (map (λ e. (e.0, f e.1)) es) ≡ option_map f (find nat_cmp q es)
find-mapped f q [] = refl
find-mapped f q (e ∷ es) = elim (cases_Bool (eq_by_cmp nat_cmp q e.0)) [
  | inl h ↦ rw h refl
  | inr h ↦ rw h (find-mapped f q es)
]

at-mapped : (f : ℕ → ℕ) (ss : List ℕ) (i : ℕ) → at (map f ss) i ≡ option_map f (at ss i)
at-mapped f [] i = refl
at-mapped f (s ∷ ss) zero = refl
at-mapped f (s ∷ ss) (suc i) = at-mapped f ss i

get-scaled : (scores : scored.FinMap nat_cmp ℕ) (bits q : ℕ) → scored.get (scaled_scores scores bits) q ≡ option_map (λ s. s / 2 ^ bits) (scored.get scores q)
get-scaled scores bits q =
    get-from_entries nat_cmp_total _ q ∙ find-mapped (λ s. s / 2 ^ bits) q (scored.entries scores) ∙ ap (option_map (λ s. s / 2 ^ bits)) (sym (get-entries scores q))

pub score_map-scaled : (ss : List ℕ) (bits : ℕ) → score_map (map (λ s. s / 2 ^ bits) ss) ≡ scaled_scores (score_map ss) bits
score_map-scaled ss bits = same_map _ _ (λ q. each q ∙ sym (get-scaled (score_map ss) bits q))
  where
    less : ℕ → ℕ
    less s = s / 2 ^ bits

    each : (q : ℕ) → scored.get (score_map (map less ss)) q ≡ option_map less (scored.get (score_map ss) q)
    each zero = get-score_map-zero _ ∙ rw (get-score_map-zero ss) refl
    each (suc i) = get-score_map _ (suc i) i (omega arith) ∙ at-mapped less ss i ∙ ap (option_map less) (sym (get-score_map ss (suc i) i (omega arith)))

-- ---- Members

pub member-has : (xs : List ℕ) (v : ℕ) → set.contains (member_set xs) v ≡ has xs v
unfolding member_set
member-has xs v = contains-from_list_nat xs v

same_set : (s t : set.FinSet nat_cmp) → ((q : ℕ) → set.contains s q ≡ set.contains t q) → s ≡ t
same_set s t h = set.same_set nat_cmp_total nat_cmp-IsAntisymmetric s t h

pub member_set-same : (xs ys : List ℕ) → ((v : ℕ) → has ys v ≡ has xs v) → member_set ys ≡ member_set xs
member_set-same xs ys h = same_set _ _ (λ v. member-has ys v ∙ h v ∙ sym (member-has xs v))

pub member_set-push : (xs : List ℕ) (v : ℕ) → member_set (xs ++ v ∷ []) ≡ set.insert (member_set xs) v
unfolding member_set
member_set-push xs v = from_list_push nat_cmp_total nat_cmp-IsAntisymmetric xs v

-- a member that is put in again changes nothing
pub insert_member : (s : set.FinSet nat_cmp) (v : ℕ) → set.contains s v ≡ true → set.insert s v ≡ s
insert_member s v h = same_set _ _ (λ q. elim (same_or_not q v) [
  | inl e ↦ rw (contains-insert nat_cmp_total, e, ties v, h) refl
  | inr n ↦ rw (contains-insert nat_cmp_total, differs q v n) refl
])

pub member_set-taken : (xs ys : List ℕ) (v : ℕ) → ((w : ℕ) → has xs w ≡ (has ys w || nat_eq v w)) → has ys v ≡ false
    → member_set ys ≡ set.remove (member_set xs) v
member_set-taken xs ys v same gone = same_set _ _ (λ q. elim (same_or_not q v) [
  | inl e ↦ rw (contains-remove nat_cmp_total, e, ties v) (member-has ys v ∙ gone)
  | inr n ↦ rw (contains-remove nat_cmp_total, differs q v n) (member-has ys q ∙ kept (has ys q) (nat_eq v q) (unequal q n) (same q) ∙ sym (member-has xs q))
])
  where
    unequal : (q : ℕ) → q ≢ v → nat_eq v q ≡ false
    unequal q n = elim (cases_Bool (nat_eq v q)) [ inl e ↦ absurd (n (sym (eqb-true v q e))) | inr e ↦ e ]

    kept : {c : Bool} (a b : Bool) → b ≡ false → c ≡ (a || b) → a ≡ c
    kept true b h e = sym e
    kept false b h e = sym h ∙ sym e

-- ---- What is read of a shown order

pub same_ranked : (o r : Ranked) → o.reserved ≡ r.reserved → o.scores ≡ r.scores → o.members ≡ r.members → o ≡ r
same_ranked o r a b c = λ i. record { reserved = a i; scores = b i; members = c i }

pub shown-score : (ss : List ℕ) (p : Placed) (v : ℕ) → 0 < v → score (shown ss p) v ≡ slice_index ss (v - 1)
shown-score ss p v z = ap (λ o. unwrap_or o 0) (get-score_map ss v (v - 1) (omega arith)) ∙ unwrap-at ss (v - 1)

pub score-scaled : (o : Ranked) (bits v : ℕ) → score (scaled o bits) v ≡ score o v / 2 ^ bits
score-scaled o bits v = ap (λ x. unwrap_or x 0) (get-scaled o.scores bits v) ∙ less (scored.get o.scores v)
  where
    less : (x : Option ℕ) → unwrap_or (option_map (λ s. s / 2 ^ bits) x) 0 ≡ unwrap_or x 0 / 2 ^ bits
    less None = sym (zero-div (2 ^ bits))
    less (Some s) = refl

pub score-same : (o : Ranked) (v s : ℕ) → score (with_score o v s) v ≡ s
score-same o v s = rw (get-insert nat_cmp_total, ties v) refl

pub score-other : (o : Ranked) (v s w : ℕ) → w ≢ v → score (with_score o v s) w ≡ score o w
score-other o v s w n = rw (get-insert nat_cmp_total, differs w v n) refl
