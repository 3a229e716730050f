-- Both entries of a clause are taken out of their lists.
use Rattle.std.proofs.Common.{◌≡◌, ◌≢◌, ℕ, ◌+◌, ◌-◌, ◌<◌, ◌≤◌, List, length, Option, Some, None, refl, sym, ap, ◌∙◌, subst, inl, inr, cond, true, false, Bool, nat_eq, eq-eqb, arith}
use Rattle.std.specs.Prelude.{slice_index, nat_le}
use Rattle.std.proofs.lemmas.Bool.{both_ways, leb-true, le-leb}
use Rattle.lits.specs.Clause.{has}
use Rattle.clause_store.specs.Clauses.{Store, slot_at, kept_at}
use Rattle.watch_lists.specs.declared.lists.Sides.{Sides}
use Rattle.watch_lists.specs.Watch.{node_at}
use Rattle.watch_lists.specs.Watched.{entry_at, watch_place}
use Rattle.watch_lists.specs.Lists.{RowView, row_at, watches_at, count_at, IsCut, IsRowChanged, cut_places, last_in, id_at, lits_of, watch_places, IsWatching, IsHere, nobody, place_in, StandsIn, AreListed, AreKept, AreBeside, IsPlaced, CanPart}
use Rattle.watch_lists.proofs.Members.{differs, unlike}
use Rattle.watch_lists.proofs.FirstTwo.{firsts-apart, once-lits}
use Rattle.watch_lists.proofs.Listing.{Cuts, listed_same, listed_cut, entries_cut, cuts_count}
use Rattle.watch_lists.proofs.Rooms.{slots-apart, room_enough}
use Rattle.watch_lists.proofs.Watching.{low_cases, watching-one, watching-has, watching-tied, literal-has, watching-fits, cut-long, cut-same, room-same}

if_both : (b : Bool) (x r : Sides) → Some x ≡ cond b (Some r) None → (b ≡ true) × (x ≡ r)
if_both true x r e = (refl, cc)
if_both false x r e = absurd (cc)

if_none : (b : Bool) (r : Sides) → None ≡ cond b (Some r) None → b ≡ false
if_none true r e = absurd (cc)
if_none false r e = refl

-- a clause of fewer than two literals has no entries
pub parted-short : (m n : Store) (rows : List RowView) (places : List ℕ) (s : ℕ) (sides : Option Sides) → CanPart m n rows places s sides → sides ≡ None → AreKept (nat_eq s) m rows places
parted-short m n rows places s sides can e = record {
  stored = can.kept.stored;
  listed = listed_same (IsHere nobody m) (IsHere (nat_eq s) m) (watch_places m) (watch_places m) rows places (λ t q l h. (h.0, differs s t (other t q l h.0))) (λ t q l h. (h.0, refl)) (λ t q l h. watching-tied m t q l can.kept.stored h.0) can.kept.listed;
  blockers = can.kept.blockers;
  reserved = can.kept.reserved;
  fits = can.kept.fits;
  keeps = can.kept.keeps;
  rooms = can.kept.rooms;
}
  where
    short : nat_le 2 (length (lits_of m s)) ≡ false
    short = if_none (nat_le 2 (length (lits_of m s))) (record { one = slice_index (lits_of m s) 0; one_at = place_in places s 0; two = slice_index (lits_of m s) 1; two_at = place_in places s 1 }) (sym e ∙ can.is)

    other : (t q l : ℕ) → IsWatching m t q l → s ≢ t
    other t q l w a = both_ways _ short (le-leb 2 (length (lits_of m s)) (subst (λ z. 2 ≤ length (lits_of m z)) (sym a) w.long))

-- the last entry of a list, where another is taken out
record Last (m n : Store) (places : List ℕ) (l t at : ℕ) : Type 0 where
  pub placed : IsPlaced n places t l at
  pub same : watch_places n t l ≡ watch_places m t l

last_of : (R : ℕ → ℕ → ℕ → Type 0) (m n : Store) (rows : List RowView) (places : List ℕ) (s l i : ℕ) → AreListed R (watch_places m) rows places → ((t q a : ℕ) → R t q a → IsWatching m t q a) → AreBeside m n s → ((q t : ℕ) → slot_at m q ≡ Some t → node_at t 1 < length places)
    → i < length (watches_at rows l) → (entry_at (watches_at rows l) i).slot ≡ s → i + 1 < length (watches_at rows l) → Last m n places l (last_in (watches_at rows l)).slot (length (watches_at rows l) - 1)
last_of R m n rows places s l i k watching b fits lt slot more =
    let end : length (watches_at rows l) - 1 < length (watches_at rows l) = omega arith in
    let w = watching _ _ l (k.back l (length (watches_at rows l) - 1) end) in
    let apart : nat_eq s (last_in (watches_at rows l)).slot ≡ false = differs s (last_in (watches_at rows l)).slot (λ e.
    let same : i ≡ length (watches_at rows l) - 1 = slots-apart R rows places l k i (length (watches_at rows l) - 1) lt end (slot ∙ e) in
    absurd (omega arith)) in
    let lits = b.lits (last_in (watches_at rows l)).slot apart w.slot in
    let same : watch_places n (last_in (watches_at rows l)).slot l ≡ watch_places m (last_in (watches_at rows l)).slot l = ap (λ ls. watch_place ls l) lits in
    record {
      placed = record {
        slot = b.slot (last_in (watches_at rows l)).slot apart w.slot;
        long = subst (λ ls. 2 ≤ length ls) (sym lits) w.long;
        fits = fits (id_at m (last_in (watches_at rows l)).slot) (last_in (watches_at rows l)).slot w.slot;
        here = ap (place_in places (last_in (watches_at rows l)).slot) same ∙ k.placed l (length (watches_at rows l) - 1) end;
      };
      same = same;
    }

module _ (m n : Store) (rows : List RowView) (places : List ℕ) (s : ℕ) (sides : Option Sides) (can : CanPart m n rows places s sides) (x : Sides) (some : sides ≡ Some x) where
  kept : AreKept nobody m rows places
  kept = can.kept

  known : (nat_le 2 (length (lits_of m s)) ≡ true) × (x ≡ record { one = slice_index (lits_of m s) 0; one_at = place_in places s 0; two = slice_index (lits_of m s) 1; two_at = place_in places s 1 })
  known = if_both (nat_le 2 (length (lits_of m s))) x (record { one = slice_index (lits_of m s) 0; one_at = place_in places s 0; two = slice_index (lits_of m s) 1; two_at = place_in places s 1 }) (sym some ∙ can.is)

  long : 2 ≤ length (lits_of m s)
  long = leb-true 2 (length (lits_of m s)) known.0

  one_is : x.one ≡ slice_index (lits_of m s) 0
  one_is = ap (λ z. z.one) known.1

  two_is : x.two ≡ slice_index (lits_of m s) 1
  two_is = ap (λ z. z.two) known.1

  one_at_is : x.one_at ≡ place_in places s 0
  one_at_is = ap (λ z. z.one_at) known.1

  two_at_is : x.two_at ≡ place_in places s 1
  two_at_is = ap (λ z. z.two_at) known.1

  apart : x.two ≢ x.one
  apart e = both_ways (nat_eq (slice_index (lits_of m s) 1) (slice_index (lits_of m s) 0)) (firsts-apart (lits_of m s) (once-lits m (id_at m s) s kept.stored can.slot) long) (eq-eqb _ _ (sym two_is ∙ e ∙ one_is))

  watching-first : IsWatching m s 0 x.one
  watching-first = record { slot = can.slot; long = long; low = omega arith; lit = sym one_is }

  watching-second : IsWatching m s 1 x.two
  watching-second = record { slot = can.slot; long = long; low = omega arith; lit = sym two_is }

  stands-first : StandsIn rows places s 0 x.one
  stands-first = kept.listed.here s 0 x.one (watching-first, refl)

  stands-second : StandsIn rows places s 1 x.two
  stands-second = kept.listed.here s 1 x.two (watching-second, refl)

  pub within-one : x.one_at < length (watches_at rows x.one)
  within-one = subst (λ z. z < length (watches_at rows x.one)) (sym one_at_is) stands-first.within

  pub reserved-one : x.one < length rows
  reserved-one = kept.reserved (id_at m s) x.one (literal-has m s x.one kept.stored can.slot (watching-has m s 0 x.one watching-first))

  pub few-one : length (watches_at rows x.one) ≤ count_at rows x.one
  few-one = room_enough (IsHere nobody m) m rows places x.one kept.stored kept.listed (λ t q k h. h.0) (kept.rooms x.one)

  slot-one : (entry_at (watches_at rows x.one) x.one_at).slot ≡ s
  slot-one = subst (λ z. (entry_at (watches_at rows x.one) z).slot ≡ s) (sym one_at_is) stands-first.slot

  last-of-one : x.one_at + 1 < length (watches_at rows x.one) → Last m n places x.one (last_in (watches_at rows x.one)).slot (length (watches_at rows x.one) - 1)
  last-of-one more = last_of (IsHere nobody m) m n rows places s x.one x.one_at kept.listed (λ t q a h. h.0) can.beside kept.fits within-one slot-one more

  pub last-one : x.one_at + 1 < length (watches_at rows x.one) → IsPlaced n places (last_in (watches_at rows x.one)).slot x.one (length (watches_at rows x.one) - 1)
  last-one more = (last-of-one more).placed

  module _ (rows1 : List RowView) (places1 : List ℕ) (list1 : IsCut (watches_at rows x.one) (watches_at rows1 x.one) x.one_at) (row1 : IsRowChanged x.one rows rows1)
      (places1_are : places1 ≡ cut_places places (watches_at rows x.one) (watch_places n (last_in (watches_at rows x.one)).slot x.one) x.one_at) where
    cuts1 : Cuts rows rows1 s x.one x.one_at
    cuts1 = record { within = within-one; slot = slot-one; row = row1; cut = list1 }

    Here1 : ℕ → ℕ → ℕ → Type 0
    Here1 t q k = IsHere nobody m t q k × (t ≡ s → q ≡ 0 → ⊥)

    long1 : length places1 ≡ length places
    long1 = ap length places1_are ∙ cut-long places (watches_at rows x.one) (watch_places n (last_in (watches_at rows x.one)).slot x.one) x.one_at

    table1 : places1 ≡ cut_places places (watches_at rows x.one) (watch_places m (last_in (watches_at rows x.one)).slot x.one) x.one_at
    table1 = places1_are ∙ cut-same places (watches_at rows x.one) _ _ x.one_at (λ more. (last-of-one more).same)

    listed1 : AreListed Here1 (watch_places m) rows1 places1
    unfolding Here1
    listed1 = subst (AreListed Here1 (watch_places m) rows1) (sym table1)
        (listed_cut (IsHere nobody m) (watch_places m) rows rows1 places s 0 x.one x.one_at (λ t q a b h g. watching-one m t q a b h.0 g.0) (λ t q a h. watching-fits m places kept.fits t q a h.0) kept.listed cuts1 (watching-tied m s 0 x.one kept.stored watching-first))

    watching1 : (t q k : ℕ) → Here1 t q k → IsWatching m t q k
    unfolding Here1
    watching1 t q k h = h.0.0

    same-row : row_at rows1 x.two ≡ row_at rows x.two
    same-row = row1.others x.two apart

    pub within-two : x.two_at < length (watches_at rows1 x.two)
    within-two = subst (λ z. x.two_at < length z.watches) (sym same-row) (subst (λ z. z < length (watches_at rows x.two)) (sym two_at_is) stands-second.within)

    pub reserved-two : x.two < length rows1
    reserved-two = subst (λ z. x.two < z) (sym row1.long) (kept.reserved (id_at m s) x.two (literal-has m s x.two kept.stored can.slot (watching-has m s 1 x.two watching-second)))

    pub few-two : length (watches_at rows1 x.two) ≤ count_at rows1 x.two
    few-two = room_enough Here1 m rows1 places1 x.two kept.stored listed1 watching1 (room-same m m x.two _ _ (λ q. refl) (cuts_count x.one rows rows1 row1 x.two) (kept.rooms x.two))

    fits1 : (q t : ℕ) → slot_at m q ≡ Some t → node_at t 1 < length places1
    fits1 q t h = subst (λ z. node_at t 1 < z) (sym long1) (kept.fits q t h)

    slot-two : (entry_at (watches_at rows1 x.two) x.two_at).slot ≡ s
    slot-two = subst (λ z. (entry_at z.watches x.two_at).slot ≡ s) (sym same-row) (subst (λ z. (entry_at (watches_at rows x.two) z).slot ≡ s) (sym two_at_is) stands-second.slot)

    last-of-two : x.two_at + 1 < length (watches_at rows1 x.two) → Last m n places1 x.two (last_in (watches_at rows1 x.two)).slot (length (watches_at rows1 x.two) - 1)
    last-of-two more = last_of Here1 m n rows1 places1 s x.two x.two_at listed1 watching1 can.beside fits1 within-two slot-two more

    pub last-two : x.two_at + 1 < length (watches_at rows1 x.two) → IsPlaced n places1 (last_in (watches_at rows1 x.two)).slot x.two (length (watches_at rows1 x.two) - 1)
    last-two more = (last-of-two more).placed

    module _ (rows2 : List RowView) (places2 : List ℕ) (list2 : IsCut (watches_at rows1 x.two) (watches_at rows2 x.two) x.two_at) (row2 : IsRowChanged x.two rows1 rows2)
        (places2_are : places2 ≡ cut_places places1 (watches_at rows1 x.two) (watch_places n (last_in (watches_at rows1 x.two)).slot x.two) x.two_at) where
      cuts2 : Cuts rows1 rows2 s x.two x.two_at
      cuts2 = record { within = within-two; slot = slot-two; row = row2; cut = list2 }

      long2 : length places2 ≡ length places1
      long2 = ap length places2_are ∙ cut-long places1 (watches_at rows1 x.two) (watch_places n (last_in (watches_at rows1 x.two)).slot x.two) x.two_at

      table2 : places2 ≡ cut_places places1 (watches_at rows1 x.two) (watch_places m (last_in (watches_at rows1 x.two)).slot x.two) x.two_at
      table2 = places2_are ∙ cut-same places1 (watches_at rows1 x.two) _ _ x.two_at (λ more. (last-of-two more).same)

      Here2 : ℕ → ℕ → ℕ → Type 0
      Here2 t q k = Here1 t q k × (t ≡ s → q ≡ 1 → ⊥)

      listed2 : AreListed Here2 (watch_places m) rows2 places2
      unfolding Here2
      listed2 = subst (AreListed Here2 (watch_places m) rows2) (sym table2)
          (listed_cut Here1 (watch_places m) rows1 rows2 places1 s 1 x.two x.two_at (λ t q a b h g. watching-one m t q a b (watching1 t q a h) (watching1 t q b g)) (λ t q a h. watching-fits m places1 fits1 t q a (watching1 t q a h)) listed1 cuts2 (watching-tied m s 1 x.two kept.stored watching-second))

      to : (t q k : ℕ) → Here2 t q k → IsHere (nat_eq s) m t q k
      unfolding Here2 Here1
      to t q k h = (
        h.0.0.0,
        differs s t (λ e. elim (low_cases q h.0.0.0.low) [
          | inl a ↦ h.0.1 (sym e) a
          | inr a ↦ h.1 (sym e) a
        ]),
      )

      from : (t q k : ℕ) → IsHere (nat_eq s) m t q k → Here2 t q k
      unfolding Here2 Here1
      from t q k h = (((h.0, refl), λ e a. unlike s t h.1 (sym e)), λ e a. unlike s t h.1 (sym e))

      pub parted : AreKept (nat_eq s) m rows2 places2
      parted = record {
        stored = kept.stored;
        listed = listed_same Here2 (IsHere (nat_eq s) m) (watch_places m) (watch_places m) rows2 places2 to from (λ t q k h. watching-tied m t q k kept.stored h.0) listed2;
        blockers = entries_cut (λ l g. has (lits_of m g.slot) g.blocker ≡ true) rows1 rows2 s x.two x.two_at cuts2 (entries_cut (λ l g. has (lits_of m g.slot) g.blocker ≡ true) rows rows1 s x.one x.one_at cuts1 kept.blockers);
        reserved = λ q l h. subst (λ z. l < z) (sym (row2.long ∙ row1.long)) (kept.reserved q l h);
        fits = λ q t h. subst (λ z. node_at t 1 < z) (sym long2) (fits1 q t h);
        keeps = λ q h. subst (λ z. node_at (kept_at m q) 1 < z) (sym (long2 ∙ long1)) (kept.keeps q h);
        rooms = λ l. room-same m m l _ _ (λ q. refl) (cuts_count x.two rows1 rows2 row2 l ∙ cuts_count x.one rows rows1 row1 l) (kept.rooms l);
      }
