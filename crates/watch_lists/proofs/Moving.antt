-- An entry that moves to the list of a later literal of its clause.
use Rattle.std.proofs.Common.{◌≡◌, ◌≢◌, ℕ, zero, suc, ◌-◌, ◌<◌, ◌≤◌, ◌⊎◌, List, [], ◌∷◌, ◌++◌, length, take, get_or, Some, refl, sym, ap, ◌∙◌, subst, inl, inr, cond, true, nat_eq, eq-eqb, arith}
use Rattle.std.specs.Prelude.{slice_index, slice_set}
use Rattle.std.specs.List.{swap}
use Rattle.std.proofs.lemmas.List.{get_or_read}
use Rattle.std.proofs.lemmas.List.Edits.{length-swap}
use Rattle.std.proofs.lemmas.Option.{same_Some}
use Rattle.std.proofs.lemmas.Bool.{both_ways, cases_eq}
use Rattle.lits.specs.Clause.{has}
use Rattle.clause_store.specs.Clauses.{Store, IsOnce, IsStore, slot_at, kept_at, is_held, clause_at, with_place, swapped, lits_at, literals_at, with_swap}
use Rattle.watch_lists.specs.Watch.{WatchView, no_watch, node_at}
use Rattle.watch_lists.specs.Watched.{entry_at}
use Rattle.watch_lists.specs.Lists.{RowView, no_row, row_at, watches_at, count_at, with_watches, IsCut, IsRowChanged, put_places, cut_places, last_in, id_at, lits_of, watch_places, IsWatching, IsHere, nobody, AreListed, AreBlockers, AreKept, IsPlaced, CanMove}
use Rattle.watch_lists.proofs.Members.{has-place, differs}
use Rattle.watch_lists.proofs.Placed.{id_at-slot, id_at-is, store-swapped, lits-literals}
use Rattle.watch_lists.proofs.Putting.{places-put, slot-of-clause, held-active}
use Rattle.watch_lists.proofs.FirstTwo.{once-lits}
use Rattle.watch_lists.proofs.Swapping.{swap-slot, swap-lits, swap-literals, at-first, at-third}
use Rattle.watch_lists.proofs.Listing.{Cuts, Puts, EachEntry, listed_same, listed_cut, listed_put, entries_cut, entries_put, cuts_count, puts_count, puts_others, puts_long}
use Rattle.watch_lists.proofs.Rooms.{room_left, room_enough}
use Rattle.watch_lists.proofs.Watching.{watching-one, watching-has, watching-tied, literal-has, watching-fits, put-long, cut-long, room-same}

-- ---- Lists

-- a list with each literal once has different ones at different places
once-places : (ls : List ℕ) (i j : ℕ) → IsOnce ls → i < j → j < length ls → slice_index ls i ≢ slice_index ls j
once-places [] i j o lt lt2 e = omega arith
once-places (x ∷ xs) zero zero o lt lt2 e = omega arith
once-places (x ∷ xs) zero (suc j) o lt lt2 e = both_ways _ o.0 (subst (λ z. has xs z ≡ true) (sym e) (has-place xs j (omega arith)))
once-places (x ∷ xs) (suc i) zero o lt lt2 e = omega arith
once-places (x ∷ xs) (suc i) (suc j) o lt lt2 e = once-places xs i j o.1 (omega arith) (omega arith) e

-- lists that are the same below a place have the same front
same-front : (i : ℕ) (es fs : List WatchView) → i ≤ length es → i ≤ length fs → ((k : ℕ) → k < i → entry_at es k ≡ entry_at fs k) → take i es ≡ take i fs
same-front zero es fs le le2 h = refl
same-front (suc i) [] fs le le2 h = absurd (omega arith)
same-front (suc i) (e ∷ es) [] le le2 h = absurd (omega arith)
same-front (suc i) (e ∷ es) (f ∷ fs) le le2 h = let first = h 0 (omega arith) in let rest = same-front i es fs (omega arith) (omega arith) (λ k lt. h (suc k) (omega arith)) in λ j. first j ∷ rest j

cut-front : (old new : List WatchView) (i : ℕ) → i < length old → IsCut old new i → take i new ≡ take i old
cut-front old new i lt c = let shorter = c.shorter in same-front i new old (omega arith) (omega arith) (λ k below. c.others k (omega arith) (omega arith))

-- ---- The exchange at the clause

-- two places of the list of the clause at a slot are exchanged
pub record Exchanges (m n : Store) (s p k : ℕ) : Type 0 where
  pub stored : IsStore m
  pub slot : slot_at m (id_at m s) ≡ Some s
  pub low : p ≤ 1
  pub later : 2 ≤ k
  pub in_bounds : k < length (lits_of m s)
  pub is : n ≡ with_swap m (id_at m s) p k

module _ (m n : Store) (s p k : ℕ) (x : Exchanges m n s p k) where
  within-place : p < length (lits_of m s)
  within-place = let a = x.low in let b = x.later in let d = x.in_bounds in omega arith

  exchanged-stored : IsStore n
  exchanged-stored = subst IsStore (sym x.is) (store-swapped m (id_at m s) s p k x.stored x.slot within-place x.in_bounds)

  exchanged-places : (end : ℕ) → ((q : ℕ) → is_held m q ≡ true → node_at (kept_at m q) 1 < end) → (q : ℕ) → is_held n q ≡ true → node_at (kept_at n q) 1 < end
  exchanged-places end h = places-put m n (id_at m s) (with_place (swapped p k) (clause_at m (id_at m s))) end x.is
      (subst (λ z. node_at z 1 < end) (sym (slot-of-clause m (id_at m s))) (h (id_at m s) (held-active m (id_at m s) s x.slot))) h

  exchanged-slots : (q : ℕ) → slot_at n q ≡ slot_at m q
  exchanged-slots q = ap (λ z. slot_at z q) x.is ∙ swap-slot m (id_at m s) p k q

  exchanged-literals : (q : ℕ) → literals_at n q ≡ literals_at m q
  exchanged-literals q = ap (λ z. literals_at z q) x.is ∙ swap-literals m (id_at m s) p k q

  -- an active clause's id stays
  exchanged-id : (t : ℕ) → slot_at m (id_at m t) ≡ Some t → id_at n t ≡ id_at m t
  exchanged-id t e = id_at-is n (id_at m t) t exchanged-stored (exchanged-slots (id_at m t) ∙ e)

  exchanged-slot : (t : ℕ) → slot_at m (id_at m t) ≡ Some t → slot_at n (id_at n t) ≡ Some t
  exchanged-slot t e = exchanged-slots (id_at n t) ∙ ap (slot_at m) (exchanged-id t e) ∙ e

  slot-before : (t : ℕ) → slot_at n (id_at n t) ≡ Some t → slot_at m (id_at m t) ≡ Some t
  slot-before t e = id_at-slot m (id_at n t) t (sym (exchanged-slots (id_at n t)) ∙ e)

  lits-by : (t : ℕ) → slot_at m (id_at m t) ≡ Some t → lits_of n t ≡ cond (nat_eq (id_at m s) (id_at m t)) (swap (lits_of m t) p k) (lits_of m t)
  lits-by t e = ap (lits_at n) (exchanged-id t e) ∙ ap (λ z. lits_at z (id_at m t)) x.is ∙ swap-lits m (id_at m s) p k (id_at m t)

  lits-here : lits_of n s ≡ swap (lits_of m s) p k
  lits-here = lits-by s x.slot ∙ ap (λ b. cond b (swap (lits_of m s) p k) (lits_of m s)) (eq-eqb (id_at m s) (id_at m s) refl)

  lits-there : (t : ℕ) → slot_at m (id_at m t) ≡ Some t → t ≢ s → lits_of n t ≡ lits_of m t
  lits-there t e ne = lits-by t e ∙ ap (λ b. cond b (swap (lits_of m t) p k) (lits_of m t)) (differs (id_at m s) (id_at m t) (λ f. ne (same_Some t s (sym e ∙ ap (slot_at m) (sym f) ∙ x.slot))))

  exchanged-long : (t : ℕ) → slot_at m (id_at m t) ≡ Some t → length (lits_of n t) ≡ length (lits_of m t)
  exchanged-long t e = elim (cases_eq t s) [
    | inl a ↦ subst (λ z. length (lits_of n z) ≡ length (lits_of m z)) (sym a) (ap length lits-here ∙ length-swap (lits_of m s) p k)
    | inr ne ↦ ap length (lits-there t e ne)
  ]

  -- and so do the watched literals but one
  exchanged-lit : (t q : ℕ) → slot_at m (id_at m t) ≡ Some t → q ≤ 1 → (t ≡ s → q ≡ p → ⊥) → slice_index (lits_of n t) q ≡ slice_index (lits_of m t) q
  exchanged-lit t q e low other = elim (cases_eq t s) [
    | inl a ↦ subst (λ z. slice_index (lits_of n z) q ≡ slice_index (lits_of m z) q) (sym a)
        (ap (λ z. slice_index z q) lits-here ∙ at-third (lits_of m s) p k q within-place x.in_bounds (other a) (let b = x.later in omega arith))
    | inr ne ↦ ap (λ z. slice_index z q) (lits-there t e ne)
  ]

  watching-after : (t q l : ℕ) → IsWatching m t q l → (t ≡ s → q ≡ p → ⊥) → IsWatching n t q l
  watching-after t q l w other = record {
    slot = exchanged-slot t w.slot;
    long = subst (λ z. 2 ≤ z) (sym (exchanged-long t w.slot)) w.long;
    low = w.low;
    lit = exchanged-lit t q w.slot w.low other ∙ w.lit;
  }

  watching-before : (t q l : ℕ) → IsWatching n t q l → (t ≡ s → q ≡ p → ⊥) → IsWatching m t q l
  watching-before t q l w other = record {
    slot = slot-before t w.slot;
    long = subst (λ z. 2 ≤ z) (exchanged-long t (slot-before t w.slot)) w.long;
    low = w.low;
    lit = sym (exchanged-lit t q (slot-before t w.slot) w.low other) ∙ w.lit;
  }

  watching-moved : IsWatching n s p (slice_index (lits_of m s) k)
  watching-moved = record {
    slot = exchanged-slot s x.slot;
    long = let a = exchanged-long s x.slot in let b = x.later in let d = x.in_bounds in omega arith;
    low = x.low;
    lit = ap (λ z. slice_index z p) lits-here ∙ at-first (lits_of m s) p k within-place x.in_bounds;
  }

  exchanged-has : (t l : ℕ) → slot_at m (id_at m t) ≡ Some t → has (lits_of n t) l ≡ has (lits_of m t) l
  exchanged-has t l e = lits-literals n (id_at n t) t l exchanged-stored (exchanged-slot t e) ∙ ap (λ z. has z l) (exchanged-literals (id_at n t) ∙ ap (literals_at m) (exchanged-id t e)) ∙ sym (lits-literals m (id_at m t) t l x.stored e)

-- ---- The entry

-- it is what the code reads
pub entry-read : (m : Store) (rows : List RowView) (places : List ℕ) (l i k : ℕ) → CanMove m rows places l i k → (code : ℕ) (row : RowView) (es : List WatchView) (e : WatchView) → code ≡ l → row ≡ get_or rows code row → es ≡ row.watches → e ≡ get_or es i e
    → e ≡ entry_at (watches_at rows l) i
entry-read m rows places l i k can code row es e code_is row_is es_are e_is =
    let w : IsWatching m (entry_at (watches_at rows l) i).slot (watch_places m (entry_at (watches_at rows l) i).slot l) l = (can.kept.listed.back l i can.within).0 in
    let reserved : l < length rows = can.kept.reserved (id_at m (entry_at (watches_at rows l) i).slot) l (literal-has m (entry_at (watches_at rows l) i).slot l can.kept.stored w.slot (watching-has m (entry_at (watches_at rows l) i).slot (watch_places m (entry_at (watches_at rows l) i).slot l) l w)) in
    let here : row ≡ row_at rows l = get_or_read rows l row reserved (subst (λ z. row ≡ get_or rows z row) code_is row_is) no_row in
    let list : es ≡ watches_at rows l = es_are ∙ ap (λ z. z.watches) here in
    get_or_read (watches_at rows l) i e can.within (subst (λ z. e ≡ get_or z i e) list e_is) no_watch

pub few : (m : Store) (rows : List RowView) (places : List ℕ) (l i k : ℕ) → CanMove m rows places l i k → length (watches_at rows l) ≤ count_at rows l
few m rows places l i k can = room_enough (IsHere nobody m) m rows places l can.kept.stored can.kept.listed (λ t q a h. h.0) (can.kept.rooms l)

-- the last entry of its list
pub last-placed : (m : Store) (rows : List RowView) (places : List ℕ) (l i k : ℕ) → CanMove m rows places l i k → IsPlaced m places (last_in (watches_at rows l)).slot l (length (watches_at rows l) - 1)
last-placed m rows places l i k can =
    let within : i < length (watches_at rows l) = can.within in
    let w = (can.kept.listed.back l (length (watches_at rows l) - 1) (omega arith)).0 in
    record { slot = w.slot; long = w.long; fits = can.kept.fits (id_at m (last_in (watches_at rows l)).slot) (last_in (watches_at rows l)).slot w.slot; here = can.kept.listed.placed l (length (watches_at rows l) - 1) (omega arith) }

module _ (m : Store) (rows : List RowView) (places : List ℕ) (l i k : ℕ) (can : CanMove m rows places l i k) (s p : ℕ) (s_is : s ≡ (entry_at (watches_at rows l) i).slot) (p_is : p ≡ watch_places m s l) where
  kept : AreKept nobody m rows places
  kept = can.kept

  watching : IsWatching m s p l
  watching = subst (λ z. IsWatching m s z l) (sym p_is) (subst (λ z. IsWatching m z (watch_places m z l) l) (sym s_is) (kept.listed.back l i can.within).0)

  in_bounds : k < length (lits_of m s)
  in_bounds = subst (λ z. k < length (lits_of m z)) (sym s_is) can.in_bounds

  low : p ≤ 1
  low = watching.low

  later : 2 ≤ k
  later = can.later

  -- what is within its list is within that of each id with its slot
  within-each : (j : ℕ) → j < length (lits_of m s) → (q : ℕ) → slot_at m q ≡ Some s → j < length (lits_at m q)
  within-each j lt q e = subst (λ z. j < length (lits_at m z)) (kept.stored.slots_apart (id_at m s) q s watching.slot e) lt

  pub slot-known : slot_at m (id_at m s) ≡ Some s
  slot-known = watching.slot

  pub long-known : 2 ≤ length (lits_of m s)
  long-known = watching.long

  pub within-other : (q : ℕ) → slot_at m q ≡ Some s → 1 - p < length (lits_at m q)
  within-other = within-each (1 - p) (let a = later in let b = in_bounds in omega arith)

  pub within-left : (q : ℕ) → slot_at m q ≡ Some s → p < length (lits_at m q)
  within-left = within-each p (let a = later in let b = in_bounds in let d = low in omega arith)

  pub within-joined : (q : ℕ) → slot_at m q ≡ Some s → k < length (lits_at m q)
  within-joined = within-each k in_bounds

  once : IsOnce (lits_of m s)
  once = once-lits m (id_at m s) s kept.stored watching.slot

  module _ (joined : ℕ) (joined_is : joined ≡ slice_index (lits_of m s) k) (rows1 : List RowView) (places1 : List ℕ) (list1 : IsCut (watches_at rows l) (watches_at rows1 l) i) (row1 : IsRowChanged l rows rows1) (places1_are : places1 ≡ cut_places places (watches_at rows l) (watch_places m (last_in (watches_at rows l)).slot l) i) where
    cuts : Cuts rows rows1 s l i
    cuts = record { within = can.within; slot = sym s_is; row = row1; cut = list1 }

    Here1 : ℕ → ℕ → ℕ → Type 0
    Here1 t q a = IsHere nobody m t q a × (t ≡ s → q ≡ p → ⊥)

    long1 : length places1 ≡ length places
    long1 = ap length places1_are ∙ cut-long places (watches_at rows l) (watch_places m (last_in (watches_at rows l)).slot l) i

    listed1 : AreListed Here1 (watch_places m) rows1 places1
    unfolding Here1
    listed1 = subst (AreListed Here1 (watch_places m) rows1) (sym places1_are) (listed_cut (IsHere nobody m) (watch_places m) rows rows1 places s p l i (λ t q a b h g. watching-one m t q a b h.0 g.0) (λ t q a h. watching-fits m places kept.fits t q a h.0) kept.listed cuts (sym p_is))

    watching1 : (t q a : ℕ) → Here1 t q a → IsWatching m t q a
    unfolding Here1
    watching1 t q a h = h.0.0

    has-joined : has (lits_of m s) joined ≡ true
    has-joined = ap (has (lits_of m s)) joined_is ∙ has-place (lits_of m s) k in_bounds

    -- it isn't watched yet
    apart : (q a : ℕ) → IsWatching m s q a → a ≢ joined
    apart q a w e = let b = w.low in let d = later in once-places (lits_of m s) q k once (omega arith) in_bounds (w.lit ∙ e ∙ joined_is)

    pub reserved-joined : joined < length rows1
    reserved-joined = subst (λ z. joined < z) (sym row1.long) (kept.reserved (id_at m s) joined (literal-has m s joined kept.stored watching.slot has-joined))

    pub room-joined : length (watches_at rows1 joined) < count_at rows1 joined
    room-joined = room_left Here1 m rows1 places1 s joined kept.stored listed1 watching1 (λ q h. apart q joined (watching1 s q joined h) refl) watching.slot has-joined (room-same m m joined _ _ (λ q. refl) (cuts_count l rows rows1 row1 joined) (kept.rooms joined))

    module _ (e : WatchView) (other : ℕ) (other_is : other ≡ slice_index (lits_of m s) (1 - p)) (e_slot : e.slot ≡ s) (e_blocker : e.blocker ≡ other) where
      pub fits-moved : node_at e.slot p < length places1
      fits-moved = subst (λ z. node_at e.slot p < z) (sym long1) (subst (λ z. node_at z p < length places) (sym e_slot) (watching-fits m places kept.fits s p l watching))

      module _ (n : Store) (n_is : n ≡ with_swap m (id_at m s) p k) (rows2 : List RowView) (places2 : List ℕ)
          (rows2_are : rows2 ≡ slice_set rows1 joined (with_watches (row_at rows1 joined) (watches_at rows1 joined ++ e ∷ []))) (places2_are : places2 ≡ put_places places1 (watches_at rows1 joined) e.slot p) where
        exchange : Exchanges m n s p k
        exchange = record { stored = kept.stored; slot = watching.slot; low = low; later = later; in_bounds = in_bounds; is = n_is }

        puts : Puts rows1 rows2 joined e
        puts = record { reserved = reserved-joined; is = rows2_are }

        Here2 : ℕ → ℕ → ℕ → Type 0
        Here2 t q a = Here1 t q a ⊎ ((t ≡ e.slot) × (q ≡ p) × (a ≡ joined))

        long2 : length places2 ≡ length places
        long2 = ap length places2_are ∙ put-long places1 (watches_at rows1 joined) e.slot p ∙ long1

        stored : IsStore n
        stored = exchanged-stored m n s p k exchange

        absent : (a : ℕ) → Here1 e.slot p a → ⊥
        unfolding Here1
        absent a h = h.1 e_slot refl

        -- the other entries have the same places in the new order
        listed1-after : AreListed Here1 (watch_places n) rows1 places1
        unfolding Here1
        listed1-after = listed_same Here1 Here1 (watch_places m) (watch_places n) rows1 places1 (λ t q a h. h) (λ t q a h. h) (λ t q a h. watching-tied n t q a stored (watching-after m n s p k exchange t q a h.0.0 h.1)) listed1

        moved : IsWatching n s p joined
        moved = subst (IsWatching n s p) (sym joined_is) (watching-moved m n s p k exchange)

        tied-moved : watch_places n e.slot joined ≡ p
        tied-moved = watching-tied n e.slot p joined stored (subst (λ z. IsWatching n z p joined) (sym e_slot) moved)

        listed2 : AreListed Here2 (watch_places n) rows2 places2
        unfolding Here2
        listed2 = subst (AreListed Here2 (watch_places n) rows2) (sym places2_are) (listed_put Here1 (watch_places n) rows1 rows2 places1 joined p e listed1-after absent low fits-moved tied-moved puts)

        to : (t q a : ℕ) → Here2 t q a → IsHere nobody n t q a
        unfolding Here2 Here1
        to t q a h = elim h [
          | inl x ↦ (watching-after m n s p k exchange t q a x.0.0 x.1, refl)
          | inr x ↦ (subst (λ z. IsWatching n z q a) (sym (x.0 ∙ e_slot)) (subst (λ z. IsWatching n s z a) (sym x.1) (subst (IsWatching n s p) (sym x.2) moved)), refl)
        ]

        stays : (t q a : ℕ) → IsWatching n t q a → (t ≡ s → q ≡ p → ⊥) → Here2 t q a
        unfolding Here2 Here1
        stays t q a w o = inl ((watching-before m n s p k exchange t q a w o, refl), o)

        from : (t q a : ℕ) → IsHere nobody n t q a → Here2 t q a
        unfolding Here2
        from t q a h = elim (cases_eq t s) [
          | inl b ↦ elim (cases_eq q p) [
            | inl d ↦ inr (b ∙ sym e_slot, d, watching-one n s p a joined (subst (λ z. IsWatching n z p a) b (subst (λ z. IsWatching n t z a) d h.0)) moved)
            | inr ne ↦ stays t q a h.0 (λ _. ne)
          ]
          | inr ne ↦ stays t q a h.0 (λ b _. ne b)
        ]

        listed3 : AreListed (IsHere nobody n) (watch_places n) rows2 places2
        listed3 = listed_same Here2 (IsHere nobody n) (watch_places n) (watch_places n) rows2 places2 to from (λ t q a h. watching-tied n t q a stored h.0) listed2

        Fits : ℕ → WatchView → Type 0
        Fits a g = has (lits_of m g.slot) g.blocker ≡ true

        has-other : Fits joined e
        unfolding Fits
        has-other = (λ j. has (lits_of m (e_slot j)) (e_blocker j)) ∙ ap (has (lits_of m s)) other_is ∙ has-place (lits_of m s) (1 - p) (let a = later in let b = in_bounds in omega arith)

        each2 : EachEntry Fits rows2
        unfolding Fits
        each2 = entries_put Fits rows1 rows2 joined e puts has-other (entries_cut Fits rows rows1 s l i cuts kept.blockers)

        blockers2 : AreBlockers n rows2
        unfolding Fits
        blockers2 a j lt = exchanged-has m n s p k exchange (entry_at (watches_at rows2 a) j).slot (entry_at (watches_at rows2 a) j).blocker (slot-before m n s p k exchange (entry_at (watches_at rows2 a) j).slot (listed3.back a j lt).0.slot) ∙ each2 a j lt

        pub moved-kept : AreKept nobody n rows2 places2
        moved-kept = record {
          stored = stored;
          listed = listed3;
          blockers = blockers2;
          reserved = λ q a h. subst (λ z. a < z) (sym (puts_long rows1 rows2 joined e puts ∙ row1.long)) (kept.reserved q a (ap (λ z. has z a) (sym (exchanged-literals m n s p k exchange q)) ∙ h));
          fits = λ q t h. subst (λ z. node_at t 1 < z) (sym long2) (kept.fits q t (sym (exchanged-slots m n s p k exchange q) ∙ h));
          keeps = λ q h. subst (λ z. node_at (kept_at n q) 1 < z) (sym long2) (exchanged-places m n s p k exchange (length places) kept.keeps q h);
          rooms = λ a. room-same m n a _ _ (exchanged-literals m n s p k exchange) (puts_count rows1 rows2 joined e puts a ∙ cuts_count l rows rows1 row1 a) (kept.rooms a);
        }

        pub moved-front : take i (watches_at rows2 l) ≡ take i (watches_at rows l)
        moved-front = ap (λ z. take i z.watches) (puts_others rows1 rows2 joined e puts l (apart p l watching)) ∙ cut-front (watches_at rows l) (watches_at rows1 l) i can.within list1
