-- What each call on an order leaves: it is one again, and callers see what was promised.
use Rattle.std.proofs.Common.{◌≡◌, ◌≢◌, ℕ, zero, suc, ◌+◌, ◌-◌, ◌/◌, ◌^◌, ◌<◌, ◌≤◌, ◌⊎◌, true, false, ◌||◌, nat_eq, eq-eqb, eqb-true, List, [], ◌∷◌, ◌++◌, length, map, take, drop, replicate, min, get_or, refl, sym, ◌∙◌, ap, subst, arith, lit<, length-append}
use Rattle.std.specs.Prelude.{slice_index, slice_set}
use Rattle.std.specs.FinSet as set
use Rattle.std.proofs.Math.ListN.{length-set, length-replicate}
use Rattle.std.proofs.Math.Seq.{get_or-set_same, get_or-set_other}
use Rattle.std.proofs.lemmas.List.{take_all, drop_all, length-map, get_or_default}
use Rattle.std.proofs.lemmas.List.Folds.{list_any_at}
use Rattle.std.proofs.lemmas.Bool.{both_ways}
use Rattle.lits.proofs.Members.{any_at}
use Rattle.lits.specs.Literal.{max_var}
use Rattle.decide_order.specs.Ranked.{Ranked, IsMember, IsBest, score, empty, with_zeros, with_reserved, with_score, scaled, with_member, without_member}
use Rattle.decide_order.specs.Placed.{Placed, has}
use Rattle.decide_order.specs.Heap.{rank, rank_at, IsHeapFrom, RisesAt, SinksAt, IsReordered, IsOrder}
use Rattle.decide_order.specs.Shown.{score_map, member_set, shown}
use Rattle.decide_order.proofs.Heaps.{same_ranks, top, rises_added, rises_raised, sinks_lowered, sinks_taken}
use Rattle.decide_order.proofs.Ranks.{rank_same, rank_grown, rank_best}
use Rattle.decide_order.proofs.Views.{score_map-set, score_map-zeros, score_map-scaled, member-has, member_set-same, member_set-push, insert_member, member_set-taken, same_ranked, shown-score}

same_or_not : (i j : ℕ) → (i ≡ j) ⊎ (i ≢ j)
same_or_not i j = grind arith

-- ---- A new order, and room

pub shown_new : (ss : List ℕ) (p : Placed) → ss ≡ [] → p.reserved ≡ 0 → p.items ≡ [] → shown ss p ≡ empty
unfolding score_map member_set
shown_new ss p es er ei = rw (es, er, ei) refl

zeros-at : (ss : List ℕ) (n i : ℕ) → slice_index (ss ++ replicate n 0) i ≡ slice_index ss i
zeros-at [] zero i = refl
zeros-at [] (suc n) zero = refl
zeros-at [] (suc n) (suc i) = zeros-at [] n i
zeros-at (s ∷ ss) n zero = refl
zeros-at (s ∷ ss) n (suc i) = zeros-at ss n i

pub record Reserved (ss tt : List ℕ) (p q : Placed) (vars : ℕ) : Type 0 where
  pub order : IsOrder tt q
  pub shows : shown tt q ≡ with_reserved (shown ss p) vars

pub reserved : (ss tt : List ℕ) (p q : Placed) (vars : ℕ) → IsOrder ss p → length ss < vars → tt ≡ take vars ss ++ replicate (vars - length ss) 0
    → q.reserved ≡ vars → q.items ≡ p.items → Reserved ss tt p q vars
reserved ss tt p q vars o lt e er ei =
    let stay : take vars ss ≡ ss = take_all vars ss (omega arith) in
    let now : tt ≡ ss ++ replicate (vars - length ss) 0 = e ∙ ap (λ xs. xs ++ replicate (vars - length ss) 0) stay in
    let sized = o.sized in
    let long : length tt ≡ vars = ap length now ∙ length-append ss (replicate (vars - length ss) 0) ∙ ap (λ n. length ss + n) (length-replicate (vars - length ss) 0) ∙ omega arith in
    record {
      order = record {
        sized = omega arith;
        heap = rw ei (same_ranks ss tt p.items 0 (λ i lt2. rank_same ss tt (slice_index p.items i) (rw now (zeros-at ss (vars - length ss) (slice_index p.items i - 1)))) o.heap);
      };
      shows = same_ranked _ _ (omega arith)
          (ap score_map now ∙ score_map-zeros ss (vars - length ss) ∙ ap (λ n. with_zeros (score_map ss) n (vars - n)) sized) (ap member_set ei);
    }

-- ---- A member is put in

pub record Inserted (ss : List ℕ) (p r : Placed) (v : ℕ) : Type 0 where
  pub order : IsOrder ss r
  pub shows : shown ss r ≡ with_member (shown ss p) v

pub rises_pushed : (ss : List ℕ) (p q : Placed) (v last : ℕ) → IsOrder ss p → q.items ≡ p.items ++ v ∷ [] → last ≡ length p.items → RisesAt ss q.items last
rises_pushed ss p q v last o e is = rw (e, is) (rises_added ss p.items v o.heap)

pub inserted : (ss : List ℕ) (p q r : Placed) (v : ℕ) → IsOrder ss p → q.items ≡ p.items ++ v ∷ [] → q.reserved ≡ p.reserved → IsHeapFrom ss r.items 0 → IsReordered q r
    → Inserted ss p r v
inserted ss p q r v o e er heap re =
    let sized = o.sized in
    let same = re.reserved in
    record {
      order = record { sized = omega arith; heap = heap };
      shows = same_ranked _ _ (same ∙ er) refl (member_set-same q.items r.items re.same ∙ ap member_set e ∙ member_set-push p.items v);
    }

-- a variable of the list is a member, another is none
pub placed_member : (ss : List ℕ) (p : Placed) (v : ℕ) → has p.items v ≡ true → shown ss p ≡ with_member (shown ss p) v
placed_member ss p v h = sym (same_ranked _ _ refl refl (insert_member (member_set p.items) v (member-has p.items v ∙ h)))

pub unplaced_member : (ss : List ℕ) (p : Placed) (v : ℕ) → has p.items v ≡ false → IsMember (shown ss p) v → ⊥
unplaced_member ss p v h m = both_ways _ (member-has p.items v ∙ h) m

-- ---- A score grows

pub record Raised (ss tt : List ℕ) (p r : Placed) (v s : ℕ) : Type 0 where
  pub order : IsOrder tt r
  pub shows : shown tt r ≡ with_score (shown ss p) v s

-- the scores with another one for a variable
pub record Changes (ss tt : List ℕ) (v s : ℕ) : Type 0 where
  pub positive : 0 < v
  pub scored : v ≤ length ss
  pub is : tt ≡ slice_set ss (v - 1) s

-- the scores with one that grew to this one
pub record Grows (ss tt : List ℕ) (v s : ℕ) : Type 0 where
  pub changes : Changes ss tt v s
  pub more : slice_index ss (v - 1) ≤ s

-- the scores as `raise` leaves them
pub grows : (ss tt : List ℕ) (o : Ranked) (v s x by : ℕ) (p : Placed) → IsOrder ss p → shown ss p ≡ o → 0 < v → v ≤ o.reserved → x ≡ get_or ss (v - 1) x
    → s ≡ min (x + by) (2 ^ 64 - 1) → x < 2 ^ 64 → tt ≡ slice_set ss (v - 1) s → Grows ss tt v s
grows ss tt o v s x by p h shows z le e es fits et =
    let room : p.reserved ≡ o.reserved = ap (λ r. r.reserved) shows in
    let sized = h.sized in
    let read : x ≡ slice_index ss (v - 1) = e ∙ get_or_default ss (v - 1) x 0 (omega arith) in
    record { changes = record { positive = z; scored = omega arith; is = et }; more = omega arith }

-- the score that callers see
pub read_score : (ss : List ℕ) (o : Ranked) (v x : ℕ) (p : Placed) → IsOrder ss p → shown ss p ≡ o → 0 < v → v ≤ o.reserved → x ≡ get_or ss (v - 1) x → x ≡ score o v
read_score ss o v x p h shows z le e =
    let room : p.reserved ≡ o.reserved = ap (λ r. r.reserved) shows in
    let sized = h.sized in
    e ∙ get_or_default ss (v - 1) x 0 (omega arith) ∙ sym (shown-score ss p v z) ∙ ap (λ r. score r v) shows

-- and the next one
pub next_score : (ss : List ℕ) (o : Ranked) (v s x by : ℕ) (p : Placed) → IsOrder ss p → shown ss p ≡ o → 0 < v → v ≤ o.reserved → x ≡ get_or ss (v - 1) x
    → s ≡ min (x + by) (2 ^ 64 - 1) → s ≡ min (score o v + by) (2 ^ 64 - 1)
next_score ss o v s x by p h shows z le e es = es ∙ ap (λ k. min (k + by) (2 ^ 64 - 1)) (read_score ss o v x p h shows z le e)

other_rank : (ss tt : List ℕ) (v s w : ℕ) → Changes ss tt v s → 0 < w → w ≢ v → rank tt w ≡ rank ss w
other_rank ss tt v s w g z n =
    let zv = g.positive in
    rank_same ss tt w (rw (g.is) (get_or-set_other ss (v - 1) (w - 1) s 0 (λ e. omega arith)))

new_score : (ss tt : List ℕ) (v s : ℕ) → Changes ss tt v s → slice_index tt (v - 1) ≡ s
new_score ss tt v s g =
    let zv = g.positive in
    let le = g.scored in
    rw (g.is) (get_or-set_same ss (v - 1) s 0 (omega arith))

more_rank : (ss tt : List ℕ) (v s : ℕ) → Grows ss tt v s → rank ss v ≤ rank tt v
more_rank ss tt v s g =
    let now = new_score ss tt v s g.changes in
    let h = g.more in
    rank_grown ss tt v (omega arith)

pub rises_grown : (ss tt : List ℕ) (p : Placed) (v s i : ℕ) → IsOrder ss p → Grows ss tt v s → ((j : ℕ) → j < length p.items → 0 < slice_index p.items j)
    → i < length p.items → slice_index p.items i ≡ v → ((j : ℕ) → j < length p.items → slice_index p.items j ≡ v → j ≡ i) → RisesAt tt p.items i
rises_grown ss tt p v s i o g up lt at alone =
    rises_raised ss tt p.items i (λ j lj n. other_rank ss tt v s (slice_index p.items j) g.changes (up j lj) (λ e. n (alone j lj e)))
    (rw at (more_rank ss tt v s g)) o.heap

pub raised : (ss tt : List ℕ) (p r : Placed) (v s : ℕ) → IsOrder ss p → Changes ss tt v s → IsHeapFrom tt r.items 0 → IsReordered p r → Raised ss tt p r v s
raised ss tt p r v s o g heap re =
    let sized = o.sized in
    let same = re.reserved in
    let long : length tt ≡ length ss = ap length g.is ∙ length-set ss (v - 1) s in
    record {
      order = record { sized = omega arith; heap = heap };
      shows = same_ranked _ _ same (ap score_map g.is ∙ score_map-set ss v s g.positive g.scored) (member_set-same p.items r.items re.same);
    }

pub raised_alone : (ss tt : List ℕ) (p : Placed) (v s : ℕ) → IsOrder ss p → Changes ss tt v s → ((j : ℕ) → j < length p.items → 0 < slice_index p.items j)
    → has p.items v ≡ false → Raised ss tt p p v s
raised_alone ss tt p v s o g up no_item =
    raised ss tt p p v s o g (same_ranks ss tt p.items 0 (λ j lj. other_rank ss tt v s (slice_index p.items j) g (up j lj) (λ e.
    both_ways _ no_item (list_any_at (λ y. nat_eq y v) p.items j 0 lj (eq-eqb _ v e)))) o.heap)
    (record { reserved = refl; count = refl; same = λ w. refl })

-- ---- A score falls

-- the scores as `lower` leaves them
pub lowers : (ss tt : List ℕ) (o : Ranked) (v s : ℕ) (p : Placed) → IsOrder ss p → shown ss p ≡ o → 0 < v → v ≤ o.reserved → tt ≡ slice_set ss (v - 1) s → Changes ss tt v s
lowers ss tt o v s p h shows z le et =
    let room : p.reserved ≡ o.reserved = ap (λ r. r.reserved) shows in
    let sized = h.sized in
    record { positive = z; scored = omega arith; is = et }

less_rank : (ss tt : List ℕ) (v s : ℕ) → Changes ss tt v s → s ≤ slice_index ss (v - 1) → rank tt v ≤ rank ss v
less_rank ss tt v s g h = let now = new_score ss tt v s g in rank_grown tt ss v (omega arith)

pub sinks_shrunk : (ss tt : List ℕ) (o : Ranked) (p : Placed) (v s i : ℕ) → IsOrder ss p → shown ss p ≡ o → Changes ss tt v s → s ≤ score o v
    → ((j : ℕ) → j < length p.items → 0 < slice_index p.items j)
    → slice_index p.items i ≡ v → ((j : ℕ) → j < length p.items → slice_index p.items j ≡ v → j ≡ i) → SinksAt tt p.items 0 i
sinks_shrunk ss tt o p v s i h shows g less up at alone =
    let seen : slice_index ss (v - 1) ≡ score o v = sym (shown-score ss p v g.positive) ∙ ap (λ r. score r v) shows in
    sinks_lowered ss tt p.items i (λ j lj n. other_rank ss tt v s (slice_index p.items j) g (up j lj) (λ e. n (alone j lj e)))
    (rw at (less_rank ss tt v s g (omega arith))) h.heap

-- ---- The scores are scaled

-- a list that was written over in place
pub written : (f : ℕ → ℕ) (xs ys zs : List ℕ) (n : ℕ) → n ≡ length xs → ys ≡ map f zs → zs ≡ xs → take n (ys ++ drop (length ys) xs) ≡ map f xs
written f xs ys zs n en e ez =
    let long : length ys ≡ length xs = ap length e ∙ length-map zs f ∙ ap length ez in
    let rest : drop (length ys) xs ≡ [] = drop_all (length ys) xs (omega arith) in
    rw rest (ap (take n) (right_nil ys) ∙ take_all n ys (omega arith) ∙ e ∙ ap (map f) ez)
  where
    right_nil : (xs : List ℕ) → xs ++ [] ≡ xs
    right_nil [] = refl
    right_nil (x ∷ xs) = ap (λ ys. x ∷ ys) (right_nil xs)

pub record Scaled (ss tt : List ℕ) (p r : Placed) (bits : ℕ) : Type 0 where
  pub order : IsOrder tt r
  pub shows : shown tt r ≡ scaled (shown ss p) bits

pub scales : (ss tt : List ℕ) (p r : Placed) (bits : ℕ) → IsOrder ss p → tt ≡ map (λ s. s / 2 ^ bits) ss → IsHeapFrom tt r.items 0 → IsReordered p r
    → Scaled ss tt p r bits
scales ss tt p r bits o e heap re =
    let sized = o.sized in
    let same = re.reserved in
    let long : length tt ≡ length ss = ap length e ∙ length-map ss (λ s. s / 2 ^ bits) in
    record {
      order = record { sized = omega arith; heap = heap };
      shows = same_ranked _ _ same (ap score_map e ∙ score_map-scaled ss bits) (member_set-same p.items r.items re.same);
    }

-- ---- The best member is taken

pub record Taken (ss : List ℕ) (p r : Placed) (v : ℕ) : Type 0 where
  pub order : IsOrder ss r
  pub shows : shown ss r ≡ without_member (shown ss p) v

pub is_best : (ss : List ℕ) (p : Placed) (v : ℕ) → IsOrder ss p → ((j : ℕ) → j < length p.items → 0 < slice_index p.items j) → 0 < length p.items
    → p.reserved ≤ max_var → 0 < v → v ≤ p.reserved → v ≡ slice_index p.items 0 → IsBest (shown ss p) v
is_best ss p v o up some small z le e = record {
  member = member-has p.items v ∙ list_any_at (λ y. nat_eq y v) p.items 0 0 some (eq-eqb _ v (sym e));
  best = λ w m.
      let found = any_at (λ y. nat_eq y w) p.items (sym (member-has p.items w) ∙ m) in
      let k = found.1.0 in
      let lt : k < length p.items = found.1.1 in
      let is : slice_index p.items k ≡ w = get_or_default p.items k 0 found.0 lt ∙ found.1.2 ∙ eqb-true found.0 w found.2 in
      let zw : 0 < w = rw (← is) (up k lt) in
      let order : rank ss w ≤ rank ss v = subst (λ x. rank ss x ≤ rank ss v) is (subst (λ x. rank_at ss p.items k ≤ rank ss x) (sym e) (top ss p.items o.heap k lt)) in
      rw (shown-score ss p w zw, shown-score ss p v z) (rank_best ss v w z (omega (arith, le, small, most)) zw order);
}
  where
    most : max_var < 2 ^ 32
    most = lit< tt

pub sinks_best : (ss : List ℕ) (p q : Placed) → IsOrder ss p → length p.items ≡ length q.items + 1
    → ((j : ℕ) → 0 < j → j < length q.items → slice_index q.items j ≡ slice_index p.items j) → SinksAt ss q.items 0 0
sinks_best ss p q o count rest = sinks_taken ss p.items q.items count rest o.heap

pub taken : (ss : List ℕ) (p q r : Placed) (v : ℕ) → IsOrder ss p → q.reserved ≡ p.reserved → ((w : ℕ) → has p.items w ≡ (has q.items w || nat_eq v w)) → has q.items v ≡ false
    → IsHeapFrom ss r.items 0 → IsReordered q r → Taken ss p r v
taken ss p q r v o er same gone heap re =
    let sized = o.sized in
    let kept = re.reserved in
    record {
      order = record { sized = omega arith; heap = heap };
      shows = same_ranked _ _ (kept ∙ er) refl (member_set-same q.items r.items re.same ∙ member_set-taken p.items q.items v same gone);
    }

no_members : (xs : List ℕ) → length xs ≡ 0 → member_set xs ≡ set.empty
unfolding member_set
no_members [] h = refl
no_members (x ∷ xs) h = absurd (omega arith)

pub none_left : (ss : List ℕ) (p : Placed) → length p.items ≡ 0 → (shown ss p).members ≡ set.empty
none_left ss p e = no_members p.items e
