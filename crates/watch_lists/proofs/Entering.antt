-- Both entries of a clause are put into their lists.
use Rattle.std.proofs.Common.{◌≡◌, ◌≢◌, ℕ, ◌+◌, ◌*◌, ◌<◌, ◌≤◌, ◌⊎◌, List, [], ◌∷◌, ◌++◌, length, Some, refl, sym, ap, ◌∙◌, subst, inl, inr, true, nat_eq, eqb-true, eq-eqb, arith}
use Rattle.std.specs.Prelude.{slice_index, slice_set}
use Rattle.std.proofs.lemmas.Bool.{cases_Bool, both_ways}
use Rattle.lits.specs.Clause.{has}
use Rattle.clause_store.specs.Clauses.{Store, slot_at, kept_at}
use Rattle.watch_lists.specs.Watch.{WatchView, node_at}
use Rattle.watch_lists.specs.Lists.{RowView, row_at, watches_at, count_at, with_watches, put_places, id_at, lits_of, watch_places, IsWatching, IsHere, nobody, AreListed, AreKept}
use Rattle.watch_lists.proofs.Members.{differs}
use Rattle.watch_lists.proofs.FirstTwo.{has-first, has-second, firsts-apart, once-lits}
use Rattle.watch_lists.proofs.Listing.{Puts, listed_same, listed_put, entries_put, puts_count, puts_long}
use Rattle.watch_lists.proofs.Rooms.{room_left}
use Rattle.watch_lists.proofs.Watching.{low_cases, literal-has, watching-tied, put-long, room-same}

module _ (m : Store) (rows : List RowView) (places : List ℕ) (s : ℕ) (kept : AreKept (nat_eq s) m rows places) (slot : slot_at m (id_at m s) ≡ Some s) where
  -- a clause of fewer than two literals has no entries
  pub entered-short : length (lits_of m s) < 2 → AreKept nobody m rows places
  entered-short short = record {
    stored = kept.stored;
    listed = listed_same (IsHere (nat_eq s) m) (IsHere nobody m) (watch_places m) (watch_places m) rows places (λ t q l h. (h.0, refl)) (λ t q l h. (h.0, differs s t (other t q l h.0))) (λ t q l h. watching-tied m t q l kept.stored h.0) kept.listed;
    blockers = kept.blockers;
    reserved = kept.reserved;
    fits = kept.fits;
    keeps = kept.keeps;
    rooms = kept.rooms;
  }
    where
      other : (t q l : ℕ) → IsWatching m t q l → s ≢ t
      other t q l w e = let long : 2 ≤ length (lits_of m s) = subst (λ z. 2 ≤ length (lits_of m z)) (sym e) w.long in omega arith

  away : (q l : ℕ) → IsHere (nat_eq s) m s q l → ⊥
  away q l h = both_ways (nat_eq s s) h.1 (eq-eqb s s refl)

  module _ (one two : ℕ) (long : 2 ≤ length (lits_of m s)) (first : one ≡ slice_index (lits_of m s) 0) (second : two ≡ slice_index (lits_of m s) 1) where
    has-one : has (lits_of m s) one ≡ true
    has-one = ap (has (lits_of m s)) first ∙ has-first (lits_of m s) long

    has-two : has (lits_of m s) two ≡ true
    has-two = ap (has (lits_of m s)) second ∙ has-second (lits_of m s) long

    apart : two ≢ one
    apart e = both_ways (nat_eq (slice_index (lits_of m s) 1) (slice_index (lits_of m s) 0)) (firsts-apart (lits_of m s) (once-lits m (id_at m s) s kept.stored slot) long) (eq-eqb _ _ (sym second ∙ e ∙ first))

    pub reserved-one : one < length rows
    reserved-one = kept.reserved (id_at m s) one (literal-has m s one kept.stored slot has-one)

    pub room-one : length (watches_at rows one) < count_at rows one
    room-one = room_left (IsHere (nat_eq s) m) m rows places s one kept.stored kept.listed (λ t q k h. h.0) (λ q h. away q one h) slot has-one (kept.rooms one)

    watching-first : (t q k : ℕ) → t ≡ s → q ≡ 0 → k ≡ one → IsWatching m t q k
    watching-first t q k a b c = record {
      slot = subst (λ z. slot_at m (id_at m z) ≡ Some z) (sym a) slot;
      long = subst (λ z. 2 ≤ length (lits_of m z)) (sym a) long;
      low = omega arith;
      lit = (λ i. slice_index (lits_of m (a i)) (b i)) ∙ sym first ∙ sym c;
    }

    watching-second : (t q k : ℕ) → t ≡ s → q ≡ 1 → k ≡ two → IsWatching m t q k
    watching-second t q k a b c = record {
      slot = subst (λ z. slot_at m (id_at m z) ≡ Some z) (sym a) slot;
      long = subst (λ z. 2 ≤ length (lits_of m z)) (sym a) long;
      low = omega arith;
      lit = (λ i. slice_index (lits_of m (a i)) (b i)) ∙ sym second ∙ sym c;
    }

    module _ (rows1 : List RowView) (places1 : List ℕ) (e : WatchView) (e_slot : e.slot ≡ s) (e_blocker : e.blocker ≡ two)
        (rows1_are : rows1 ≡ slice_set rows one (with_watches (row_at rows one) (watches_at rows one ++ e ∷ []))) (places1_are : places1 ≡ put_places places (watches_at rows one) e.slot 0) where
      puts1 : Puts rows rows1 one e
      puts1 = record { reserved = reserved-one; is = rows1_are }

      Here1 : ℕ → ℕ → ℕ → Type 0
      Here1 t q k = IsHere (nat_eq s) m t q k ⊎ ((t ≡ e.slot) × (q ≡ 0) × (k ≡ one))

      long1 : length places1 ≡ length places
      long1 = ap length places1_are ∙ put-long places (watches_at rows one) e.slot 0

      fit : (p : ℕ) → p ≤ 1 → node_at s p < length places
      fit p low = let f : 2 * s + 1 < length places = kept.fits (id_at m s) s slot in omega arith

      fit-one : node_at e.slot 0 < length places
      fit-one = subst (λ z. node_at z 0 < length places) (sym e_slot) (fit 0 (omega arith))

      tied-one : watch_places m e.slot one ≡ 0
      tied-one = watching-tied m e.slot 0 one kept.stored (watching-first e.slot 0 one e_slot refl refl)

      listed1 : AreListed Here1 (watch_places m) rows1 places1
      unfolding Here1
      listed1 = subst (AreListed Here1 (watch_places m) rows1) (sym places1_are) (listed_put (IsHere (nat_eq s) m) (watch_places m) rows rows1 places one 0 e kept.listed (λ k h. away 0 k (subst (λ z. IsHere (nat_eq s) m z 0 k) e_slot h)) (omega arith) fit-one tied-one puts1)

      watching1 : (t q k : ℕ) → Here1 t q k → IsWatching m t q k
      unfolding Here1
      watching1 t q k h = elim h [
        | inl x ↦ x.0
        | inr x ↦ watching-first t q k (x.0 ∙ e_slot) x.1 x.2
      ]

      pub reserved-two : two < length rows1
      reserved-two = subst (λ z. two < z) (sym (puts_long rows rows1 one e puts1)) (kept.reserved (id_at m s) two (literal-has m s two kept.stored slot has-two))

      absent1 : (q : ℕ) → Here1 s q two → ⊥
      unfolding Here1
      absent1 q h = elim h [
        | inl x ↦ away q two x
        | inr x ↦ apart x.2
      ]

      pub room-two : length (watches_at rows1 two) < count_at rows1 two
      room-two = room_left Here1 m rows1 places1 s two kept.stored listed1 watching1 absent1 slot has-two (room-same m m two _ _ (λ q. refl) (puts_count rows rows1 one e puts1 two) (kept.rooms two))

      module _ (rows2 : List RowView) (places2 : List ℕ) (f : WatchView) (f_slot : f.slot ≡ s) (f_blocker : f.blocker ≡ one)
          (rows2_are : rows2 ≡ slice_set rows1 two (with_watches (row_at rows1 two) (watches_at rows1 two ++ f ∷ []))) (places2_are : places2 ≡ put_places places1 (watches_at rows1 two) f.slot 1) where
        puts2 : Puts rows1 rows2 two f
        puts2 = record { reserved = reserved-two; is = rows2_are }

        Here2 : ℕ → ℕ → ℕ → Type 0
        Here2 t q k = Here1 t q k ⊎ ((t ≡ f.slot) × (q ≡ 1) × (k ≡ two))

        long2 : length places2 ≡ length places
        long2 = ap length places2_are ∙ put-long places1 (watches_at rows1 two) f.slot 1 ∙ long1

        fit-two : node_at f.slot 1 < length places1
        fit-two = subst (λ z. node_at z 1 < length places1) (sym f_slot) (subst (λ z. node_at s 1 < z) (sym long1) (fit 1 (omega arith)))

        tied-two : watch_places m f.slot two ≡ 1
        tied-two = watching-tied m f.slot 1 two kept.stored (watching-second f.slot 1 two f_slot refl refl)

        first-second : (q : ℕ) → q ≡ 1 → q ≡ 0 → ⊥
        first-second q e g = omega arith

        absent2 : (k : ℕ) → Here1 f.slot 1 k → ⊥
        unfolding Here1
        absent2 k h = elim h [
          | inl x ↦ away 1 k (subst (λ z. IsHere (nat_eq s) m z 1 k) f_slot x)
          | inr x ↦ first-second 1 refl x.1
        ]

        listed2 : AreListed Here2 (watch_places m) rows2 places2
        unfolding Here2
        listed2 = subst (AreListed Here2 (watch_places m) rows2) (sym places2_are) (listed_put Here1 (watch_places m) rows1 rows2 places1 two 1 f listed1 absent2 (omega arith) fit-two tied-two puts2)

        to : (t q k : ℕ) → Here2 t q k → IsHere nobody m t q k
        unfolding Here2
        to t q k h = elim h [
          | inl x ↦ (watching1 t q k x, refl)
          | inr x ↦ (watching-second t q k (x.0 ∙ f_slot) x.1 x.2, refl)
        ]

        from : (t q k : ℕ) → IsHere nobody m t q k → Here2 t q k
        unfolding Here2 Here1
        from t q k h = elim (cases_Bool (nat_eq s t)) [
          | inl y ↦ let a : s ≡ t = eqb-true s t y in
              let lit : slice_index (lits_of m s) q ≡ k = subst (λ z. slice_index (lits_of m z) q ≡ k) (sym a) h.0.lit in
              elim (low_cases q h.0.low) [
                | inl b ↦ inl (inr (sym a ∙ sym e_slot, b, sym lit ∙ ap (slice_index (lits_of m s)) b ∙ sym first))
                | inr b ↦ inr (sym a ∙ sym f_slot, b, sym lit ∙ ap (slice_index (lits_of m s)) b ∙ sym second)
              ]
          | inr n ↦ inl (inl (h.0, n))
        ]

        rows-long : length rows2 ≡ length rows
        rows-long = puts_long rows1 rows2 two f puts2 ∙ puts_long rows rows1 one e puts1

        pub entered : AreKept nobody m rows2 places2
        entered = record {
          stored = kept.stored;
          listed = listed_same Here2 (IsHere nobody m) (watch_places m) (watch_places m) rows2 places2 to from (λ t q k h. watching-tied m t q k kept.stored h.0) listed2;
          blockers = entries_put (λ l g. has (lits_of m g.slot) g.blocker ≡ true) rows1 rows2 two f puts2 ((λ i. has (lits_of m (f_slot i)) (f_blocker i)) ∙ has-one)
              (entries_put (λ l g. has (lits_of m g.slot) g.blocker ≡ true) rows rows1 one e puts1 ((λ i. has (lits_of m (e_slot i)) (e_blocker i)) ∙ has-two) kept.blockers);
          reserved = λ q l h. subst (λ z. l < z) (sym rows-long) (kept.reserved q l h);
          fits = λ q t h. subst (λ z. node_at t 1 < z) (sym long2) (kept.fits q t h);
          keeps = λ q h. subst (λ z. node_at (kept_at m q) 1 < z) (sym long2) (kept.keeps q h);
          rooms = λ l. room-same m m l _ _ (λ q. refl) (puts_count rows1 rows2 two f puts2 l ∙ puts_count rows rows1 one e puts1 l) (kept.rooms l);
        }
