-- The lists stay those of the clauses where clauses come and go.
use Rattle.std.proofs.Common.{◌≡◌, ℕ, ◌-◌, ◌<◌, ◌≤◌, List, [], ◌∷◌, length, Some, None, refl, sym, ap, ◌∙◌, subst, inl, inr, arith, cond, true, false, Bool, nat_eq, eqb-true, eq-eqb}
use Rattle.std.specs.Prelude.{slice_index, option_map, option_and_then, unwrap_or}
use Rattle.std.proofs.lemmas.Option.{same_Some, none-some}
use Rattle.std.proofs.lemmas.Bool.{cases_Bool, both_ways, and_parts}
use Rattle.std.specs.FinMap.{get, insert, remove}
use Rattle.lits.specs.Clause.{has, set_of}
use Rattle.clause_store.specs.Clauses.{ClauseEntry, Store, IsOnce, IsStore, IsRestored, is_weakened, slot_at, kept_at, place_at, lits_at, literals_at, active_entry, weakened_entry}
use Rattle.clause_store.proofs.Stored.{get_cut, set_of_set}
use Rattle.watch_lists.specs.Watch.{node_at}
use Rattle.watch_lists.specs.Watched.{entry_at}
use Rattle.watch_lists.specs.Lists.{RowView, watches_at, count_at, id_at, lits_of, watch_places, place_in, HavePlaces, IsHere, nobody, AreListed, AreBlockers, HasRoom, AreKept, AreBeside, AreRaised, AreLowered}
use Rattle.watch_lists.proofs.Members.{has-here, has-there, member_cases, differs}
use Rattle.watch_lists.proofs.Placed.{active, id_at-slot, id_at-is, lits-literals, store-with, store-without}
use Rattle.watch_lists.proofs.Putting.{Puts, puts-restored, places-put, places-cut, held-active, place-put, literals-put, slot-put}
use Rattle.watch_lists.proofs.Listing.{listed_same}
use Rattle.watch_lists.proofs.Watching.{watching-tied}

-- ---- The same lists in other rows, and other tables

pub listed_rows : {f : ℕ → ℕ → ℕ} (R : ℕ → ℕ → ℕ → Type 0) (rows new : List RowView) (places : List ℕ) → ((l : ℕ) → watches_at new l ≡ watches_at rows l) → AreListed R f rows places → AreListed R f new places
listed_rows {f} R rows new places e k = record {
  here = λ s p l r. let h = k.here s p l r in record {
    within = subst (λ es. place_in places s p < length es) (sym (e l)) h.within;
    slot = subst (λ es. (entry_at es (place_in places s p)).slot ≡ s) (sym (e l)) h.slot;
  };
  tied = k.tied;
  back = λ l i. subst (λ es. i < length es → R (entry_at es i).slot (f (entry_at es i).slot l) l) (sym (e l)) (k.back l i);
  placed = λ l i. subst (λ es. i < length es → place_in places (entry_at es i).slot (f (entry_at es i).slot l) ≡ i) (sym (e l)) (k.placed l i);
  low = k.low;
}

pub listed_places : {f : ℕ → ℕ → ℕ} (R : ℕ → ℕ → ℕ → Type 0) (rows : List RowView) (places new : List ℕ) → ((n : ℕ) → n < length places → slice_index new n ≡ slice_index places n) → ((s p l : ℕ) → R s p l → node_at s p < length places)
    → AreListed R f rows places → AreListed R f rows new
listed_places {f} R rows places new e fits k = record {
  here = λ s p l r. let h = k.here s p l r in let at : place_in new s p ≡ place_in places s p = e (node_at s p) (fits s p l r) in record {
    within = subst (λ i. i < length (watches_at rows l)) (sym at) h.within;
    slot = subst (λ i. (entry_at (watches_at rows l) i).slot ≡ s) (sym at) h.slot;
  };
  tied = k.tied;
  back = k.back;
  placed = λ l i lt. e (node_at (entry_at (watches_at rows l) i).slot (f (entry_at (watches_at rows l) i).slot l)) (fits _ _ l (k.back l i lt)) ∙ k.placed l i lt;
  low = k.low;
}

pub blockers_rows : (m : Store) (rows new : List RowView) → ((l : ℕ) → watches_at new l ≡ watches_at rows l) → AreBlockers m rows → AreBlockers m new
blockers_rows m rows new e k l i = subst (λ es. i < length es → has (lits_of m (entry_at es i).slot) (entry_at es i).blocker ≡ true) (sym (e l)) (k l i)

here-fits : (away : ℕ → Bool) (m : Store) (rows : List RowView) (places : List ℕ) → AreKept away m rows places → (s p l : ℕ) → IsHere away m s p l → node_at s p < length places
here-fits away m rows places k s p l h = let f = k.fits (id_at m s) s h.0.slot in let low = h.0.low in omega arith

-- the rows have the same lists, and room enough
pub kept_rows : (away : ℕ → Bool) (m : Store) (rows new : List RowView) (places : List ℕ) → AreKept away m rows places → length rows ≤ length new → ((l : ℕ) → watches_at new l ≡ watches_at rows l) → ((l : ℕ) → HasRoom m l (count_at new l)) → AreKept away m new places
kept_rows away m rows new places k long e rooms = record {
  stored = k.stored;
  listed = listed_rows (IsHere away m) rows new places e k.listed;
  blockers = blockers_rows m rows new e k.blockers;
  reserved = λ q l h. let r = k.reserved q l h in omega arith;
  fits = k.fits;
  keeps = k.keeps;
  rooms = rooms;
}

pub kept_places : (away : ℕ → Bool) (m : Store) (rows : List RowView) (places new : List ℕ) → AreKept away m rows places → length places ≤ length new → ((n : ℕ) → n < length places → slice_index new n ≡ slice_index places n) → AreKept away m rows new
kept_places away m rows places new k longer e = record {
  stored = k.stored;
  listed = listed_places (IsHere away m) rows places new e (here-fits away m rows places k) k.listed;
  blockers = k.blockers;
  reserved = k.reserved;
  fits = λ q s h. let f = k.fits q s h in omega arith;
  keeps = λ q h. let f = k.keeps q h in omega arith;
  rooms = k.rooms;
}

pub room_more : (m : Store) (l a b : ℕ) → a ≤ b → HasRoom m l a → HasRoom m l b
room_more m l a b le r = record { ids = r.ids; each = r.each; few = let f = r.few in omega arith }

pub room_same : (m n : Store) (l a : ℕ) → ((q : ℕ) → literals_at n q ≡ literals_at m q) → HasRoom m l a → HasRoom n l a
room_same m n l a e r = record { ids = r.ids; each = λ q h. r.each q (subst (λ ls. has ls l ≡ true) (e q) h); few = r.few }

-- more room, and a longer table
pub kept_raised : (m : Store) (rows new : List RowView) (places places' : List ℕ) → AreKept nobody m rows places → AreRaised [] rows new → length places ≤ length places' → ((n : ℕ) → n < length places → slice_index places' n ≡ slice_index places n) → AreKept nobody m new places'
kept_raised m rows new places places' k r longer e = kept_rows nobody m rows new places' (kept_places nobody m rows places places' k longer e) (let n = r.long in omega arith) r.watches (λ l. room_more m l (count_at rows l) (count_at new l) (r.counts l) (k.rooms l))

-- ---- One clause more or less

-- the one store has a clause at a slot that the other hasn't, and all others are the same
pub record Beside (m n : Store) (id s : ℕ) : Type 0 where
  pub stored : IsStore m
  pub stored_less : IsStore n
  pub others : (q : ℕ) → nat_eq id q ≡ false → place_at n q ≡ place_at m q
  pub none : slot_at n id ≡ None
  pub slot : slot_at m id ≡ Some s

module _ (m n : Store) (id s : ℕ) (b : Beside m n id s) where
  elsewhere : (t : ℕ) → nat_eq s t ≡ false → slot_at m (id_at m t) ≡ Some t → nat_eq id (id_at m t) ≡ false
  elsewhere t apart e = differs id (id_at m t) (λ same. both_ways _ apart (eq-eqb s t (same_Some s t (sym b.slot ∙ ap (slot_at m) same ∙ e))))

  slot_less : (t : ℕ) → nat_eq s t ≡ false → slot_at m (id_at m t) ≡ Some t → slot_at n (id_at m t) ≡ Some t
  slot_less t apart e = ap (option_map (λ p. p.slot)) (b.others (id_at m t) (elsewhere t apart e)) ∙ e

  pub id_less : (t : ℕ) → nat_eq s t ≡ false → slot_at m (id_at m t) ≡ Some t → id_at n t ≡ id_at m t
  id_less t apart e = id_at-is n (id_at m t) t b.stored_less (slot_less t apart e)

  pub lits_less : (t : ℕ) → nat_eq s t ≡ false → slot_at m (id_at m t) ≡ Some t → lits_of n t ≡ lits_of m t
  lits_less t apart e = ap (lits_at n) (id_less t apart e) ∙ ap (λ o. unwrap_or (option_map (λ p. p.lits) o) []) (b.others (id_at m t) (elsewhere t apart e))

  pub are_beside : AreBeside m n s
  are_beside = record { slot = λ t apart e. ap (slot_at n) (id_less t apart e) ∙ slot_less t apart e; lits = lits_less }

  -- an id of the smaller one is of the bigger one
  other : (q t : ℕ) → slot_at n q ≡ Some t → nat_eq id q ≡ false
  other q t e = differs id q (λ same. none-some t (sym b.none ∙ ap (slot_at n) same ∙ e))

  pub slot_more : (q t : ℕ) → slot_at n q ≡ Some t → slot_at m q ≡ Some t
  slot_more q t e = sym (ap (option_map (λ p. p.slot)) (b.others q (other q t e))) ∙ e

  pub apart_more : (q t : ℕ) → slot_at n q ≡ Some t → nat_eq s t ≡ false
  apart_more q t e = differs s t (λ same. both_ways _ (other q t e) (eq-eqb id q (b.stored.slots_apart id q s b.slot (slot_more q t e ∙ ap (λ z. Some z) (sym same)))))

  pub here_to : (t p l : ℕ) → IsHere (nat_eq s) m t p l → IsHere nobody n t p l
  here_to t p l h =
      let lits : lits_of n t ≡ lits_of m t = lits_less t h.1 h.0.slot in (
        record {
          slot = ap (slot_at n) (id_less t h.1 h.0.slot) ∙ slot_less t h.1 h.0.slot;
          long = subst (λ ls. 2 ≤ length ls) (sym lits) h.0.long;
          low = h.0.low;
          lit = ap (λ ls. slice_index ls p) lits ∙ h.0.lit;
        },
        refl,
      )

  pub here_from : (t p l : ℕ) → IsHere nobody n t p l → IsHere (nat_eq s) m t p l
  here_from t p l h =
      let apart : nat_eq s t ≡ false = apart_more (id_at n t) t h.0.slot in
      let slot : slot_at m (id_at m t) ≡ Some t = id_at-slot m (id_at n t) t (slot_more (id_at n t) t h.0.slot) in
      let lits : lits_of n t ≡ lits_of m t = lits_less t apart slot in (
        record {
          slot = slot;
          long = subst (λ ls. 2 ≤ length ls) lits h.0.long;
          low = h.0.low;
          lit = ap (λ ls. slice_index ls p) (sym lits) ∙ h.0.lit;
        },
        apart,
      )

  -- the clause has left the store, whose entries stood in no list
  pub kept_less : (rows : List RowView) (places : List ℕ) → AreKept (nat_eq s) m rows places → ((q l : ℕ) → has (literals_at n q) l ≡ true → has (literals_at m q) l ≡ true) → HavePlaces n places → ((l : ℕ) → HasRoom n l (count_at rows l)) → AreKept nobody n rows places
  kept_less rows places k within keeps rooms = record {
    stored = b.stored_less;
    listed = listed_same (IsHere (nat_eq s) m) (IsHere nobody n) (watch_places m) (watch_places n) rows places here_to here_from (λ t p l h. watching-tied n t p l b.stored_less h.0) k.listed;
    blockers = λ l i lt. let h = k.listed.back l i lt in subst (λ ls. has ls (entry_at (watches_at rows l) i).blocker ≡ true) (sym (lits_less (entry_at (watches_at rows l) i).slot h.1 h.0.slot)) (k.blockers l i lt);
    reserved = λ q l h. k.reserved q l (within q l h);
    fits = λ q t e. k.fits q t (slot_more q t e);
    keeps = keeps;
    rooms = rooms;
  }

  -- the clause has come into the store, and isn't in the lists yet
  pub kept_more : (rows : List RowView) (places : List ℕ) → AreKept nobody n rows places → ((q l : ℕ) → has (literals_at m q) l ≡ true → l < length rows) → node_at s 1 < length places → HavePlaces m places → ((l : ℕ) → HasRoom m l (count_at rows l)) → AreKept (nat_eq s) m rows places
  kept_more rows places k within fits keeps rooms = record {
    stored = b.stored;
    listed = listed_same (IsHere nobody n) (IsHere (nat_eq s) m) (watch_places n) (watch_places m) rows places here_from here_to (λ t p l h. watching-tied m t p l b.stored h.0) k.listed;
    blockers = λ l i lt. let h = here_from _ _ l (k.listed.back l i lt) in subst (λ ls. has ls (entry_at (watches_at rows l) i).blocker ≡ true) (lits_less (entry_at (watches_at rows l) i).slot h.1 h.0.slot) (k.blockers l i lt);
    reserved = within;
    fits = λ q t e. elim (cases_Bool (nat_eq id q)) [
      | inl y ↦ subst (λ z. node_at z 1 < length places) (same_Some s t (sym b.slot ∙ ap (slot_at m) (eqb-true id q y) ∙ e)) fits
      | inr d ↦ k.fits q t (ap (option_map (λ p. p.slot)) (b.others q d) ∙ e)
    ];
    keeps = keeps;
    rooms = rooms;
  }

-- ---- A clause is put into the store

pub beside-put : (m n : Store) (id s : ℕ) (set ls : List ℕ) → IsStore m → Puts m n id s set ls → Beside n m id s
beside-put m n id s set ls st p = record {
  stored = subst IsStore (sym p.is) (store-with m id (active_entry set ls s) st (subst (λ z. set_of z ≡ z) p.same_set (set_of_set ls))
      (λ q e. let is : record { slot = s; lits = ls; one = None; two = None } ≡ q = same_Some _ q e in (ap (λ z. set_of z.lits) (sym is) ∙ p.same_set, subst (λ z. IsOnce z.lits) is p.once, λ a d h. p.fresh a (h ∙ ap (λ z. Some z.slot) (sym is)))));
  stored_less = st;
  others = λ q d. sym (ap (λ z. place_at z q) p.is ∙ place-put m id (active_entry set ls s) q ∙ ap (λ c. cond c (active_entry set ls s).place (place_at m q)) d);
  none = p.before;
  slot = slot-put m n id s set ls p.is;
}

module _ (m n : Store) (id : ℕ) (h : ClauseEntry) (is : n ≡ insert m id h) where
  pub put-here : (q : ℕ) → nat_eq id q ≡ true → literals_at n q ≡ h.literals
  put-here q y = ap (λ z. literals_at z q) is ∙ literals-put m id h q ∙ ap (λ c. cond c h.literals (literals_at m q)) y

  pub put-there : (q : ℕ) → nat_eq id q ≡ false → literals_at n q ≡ literals_at m q
  put-there q d = ap (λ z. literals_at z q) is ∙ literals-put m id h q ∙ ap (λ c. cond c h.literals (literals_at m q)) d

  -- with the same set all sets are the same
  pub put-same : h.literals ≡ literals_at m id → (q : ℕ) → literals_at n q ≡ literals_at m q
  put-same e q = elim (cases_Bool (nat_eq id q)) [
    | inl y ↦ put-here q y ∙ e ∙ ap (literals_at m) (eqb-true id q y)
    | inr d ↦ put-there q d
  ]

  pub put-reserved : (end : ℕ) → ((l : ℕ) → has h.literals l ≡ true → l < end) → ((q l : ℕ) → has (literals_at m q) l ≡ true → l < end) → (q l : ℕ) → has (literals_at n q) l ≡ true → l < end
  put-reserved end f g q l e = elim (cases_Bool (nat_eq id q)) [
    | inl y ↦ f l (sym (ap (λ ls. has ls l) (put-here q y)) ∙ e)
    | inr d ↦ g q l (sym (ap (λ ls. has ls l) (put-there q d)) ∙ e)
  ]

  pub put-room : (l a b : ℕ) → a ≤ b → (has h.literals l ≡ true → a < b) → HasRoom m l a → HasRoom n l b
  put-room l a b le more r = elim (cases_Bool (has h.literals l)) [
    | inl y ↦ record {
      ids = id ∷ r.ids;
      each = λ q e. elim (cases_Bool (nat_eq id q)) [
        | inl z ↦ subst (λ k. has (id ∷ r.ids) k ≡ true) (eqb-true id q z) (has-here id r.ids)
        | inr d ↦ has-there id q r.ids (r.each q (sym (ap (λ ls. has ls l) (put-there q d)) ∙ e))
      ];
      few = let f = r.few in let lt = more y in omega arith;
    }
    | inr w ↦ record {
      ids = r.ids;
      each = λ q e. elim (cases_Bool (nat_eq id q)) [
        | inl z ↦ absurd (both_ways _ w (sym (ap (λ ls. has ls l) (put-here q z)) ∙ e))
        | inr d ↦ r.each q (sym (ap (λ ls. has ls l) (put-there q d)) ∙ e)
      ];
      few = let f = r.few in omega arith;
    }
  ]

-- the literals of the clause that was put
pub put-lits : (m n : Store) (id s l : ℕ) (set ls : List ℕ) → IsStore m → Puts m n id s set ls → has (lits_of n s) l ≡ has set l
put-lits m n id s l set ls st p =
    let b = beside-put m n id s set ls st p in
    let slot : slot_at n id ≡ Some s = b.slot in
    ap (λ q. has (lits_at n q) l) (id_at-is n id s b.stored slot) ∙ lits-literals n id s l b.stored slot ∙ ap (λ z. has z l) (put-here m n id (active_entry set ls s) p.is id (eq-eqb id id refl))

-- what is known when a clause was put and room was made
pub record Adds (m n : Store) (rows new : List RowView) (places places' : List ℕ) (id s : ℕ) (set ls : List ℕ) : Type 0 where
  pub kept : AreKept nobody m rows places
  pub puts : Puts m n id s set ls
  pub within : (l : ℕ) → has set l ≡ true → l < length rows
  pub raised : AreRaised (lits_of n s) rows new
  pub longer : length places ≤ length places'
  pub same : (k : ℕ) → k < length places → slice_index places' k ≡ slice_index places k
  pub fits : node_at s 1 < length places'

pub kept_added : (m n : Store) (rows new : List RowView) (places places' : List ℕ) (id s : ℕ) (set ls : List ℕ) → Adds m n rows new places places' id s set ls → AreKept (nat_eq s) n new places'
kept_added m n rows new places places' id s set ls a =
    let r = a.raised in
    let none : AreRaised [] rows new = record { long = r.long; watches = r.watches; counts = r.counts; more = λ l h. absurd (both_ways false refl h) } in
    let before : AreKept nobody m new places' = kept_raised m rows new places places' a.kept none a.longer a.same in
    kept_more n m id s (beside-put m n id s set ls a.kept.stored a.puts) new places' before
    (put-reserved m n id (active_entry set ls s) a.puts.is (length new) (λ l h. subst (λ z. l < z) (sym r.long) (a.within l h)) (λ q l h. subst (λ z. l < z) (sym r.long) (a.kept.reserved q l h)))
    a.fits (places-put m n id (active_entry set ls s) (length places') a.puts.is a.fits before.keeps)
    (λ l. put-room m n id (active_entry set ls s) a.puts.is l (count_at rows l) (count_at new l) (r.counts l) (λ h. r.more l (put-lits m n id s l set ls a.kept.stored a.puts ∙ h)) (a.kept.rooms l))

-- a clause that was weakened has room
pub kept_restored : (m n : Store) (rows : List RowView) (places : List ℕ) (id s : ℕ) (ls : List ℕ) → AreKept nobody m rows places → Puts m n id s (literals_at m id) ls → node_at s 1 < length places → AreKept (nat_eq s) n rows places
kept_restored m n rows places id s ls k p fits =
    let sets : (q : ℕ) → literals_at n q ≡ literals_at m q = put-same m n id (active_entry (literals_at m id) ls s) p.is refl in
    kept_more n m id s (beside-put m n id s (literals_at m id) ls k.stored p) rows places k (λ q l h. k.reserved q l (subst (λ z. has z l ≡ true) (sets q) h)) fits (places-put m n id (active_entry (literals_at m id) ls s) (length places) p.is fits k.keeps) (λ l. room_same m n l (count_at rows l) sets (k.rooms l))

-- the same where its slot is found by its id
pub kept_back : (m n : Store) (rows : List RowView) (places : List ℕ) (id s : ℕ) → AreKept nobody m rows places → IsRestored m id n → is_weakened m id ≡ true → slot_at n id ≡ Some s → AreKept (nat_eq s) n rows places
kept_back m n rows places id s k r w e =
    let p : Puts m n id r.slot (literals_at m id) r.lits = puts-restored m n id r w in
    let same : r.slot ≡ s = same_Some r.slot s (sym (slot-put m n id r.slot (literals_at m id) r.lits p.is) ∙ e) in
    subst (λ z. AreKept (nat_eq z) n rows places) same (kept_restored m n rows places id r.slot r.lits k p (subst (λ z. node_at z 1 < length places) (sym r.same_slot) (k.keeps id (and_parts _ _ w).0)))

-- ---- A clause leaves

pub beside-weakened : (m n : Store) (id s : ℕ) → IsStore m → slot_at m id ≡ Some s → n ≡ insert m id (weakened_entry (literals_at m id) (kept_at m id)) → Beside m n id s
beside-weakened m n id s st e is =
    let a = active m id s e in
    let same : literals_at m id ≡ a.h.literals = ap (λ o. unwrap_or (option_map (λ h. h.literals) o) []) a.is in record {
      stored = st;
      stored_less = subst IsStore (sym is) (store-with m id (weakened_entry (literals_at m id) (kept_at m id)) st (subst (λ z. set_of z ≡ z) (sym same) (st.sets id a.h a.is)) (λ p f. absurd (none-some p f)));
      others = λ q d. ap (λ z. place_at z q) is ∙ place-put m id (weakened_entry (literals_at m id) (kept_at m id)) q ∙ ap (λ c. cond c None (place_at m q)) d;
      none = ap (λ z. slot_at z id) is ∙ ap (option_map (λ p. p.slot)) (place-put m id (weakened_entry (literals_at m id) (kept_at m id)) id ∙ ap (λ c. cond c None (place_at m id)) (eq-eqb id id refl));
      slot = e;
    }

pub kept_weakened : (m n : Store) (rows : List RowView) (places : List ℕ) (id s : ℕ) → IsStore m → slot_at m id ≡ Some s → n ≡ insert m id (weakened_entry (literals_at m id) (kept_at m id)) → AreKept (nat_eq s) m rows places → AreKept nobody n rows places
kept_weakened m n rows places id s st e is k =
    let sets : (q : ℕ) → literals_at n q ≡ literals_at m q = put-same m n id (weakened_entry (literals_at m id) (kept_at m id)) is refl in
    kept_less m n id s (beside-weakened m n id s st e is) rows places k (λ q l h. subst (λ z. has z l ≡ true) (sets q) h)
    (places-put m n id (weakened_entry (literals_at m id) (kept_at m id)) (length places) is (k.keeps id (held-active m id s e)) k.keeps) (λ l. room_same m n l (count_at rows l) sets (k.rooms l))

place-cut : (m : Store) (id q : ℕ) → place_at (remove m id) q ≡ cond (nat_eq id q) None (place_at m q)
place-cut m id q = ap (option_and_then (λ z. z.place)) (get_cut m id q) ∙ by_case (nat_eq id q)
  where
    by_case : (b : Bool) → option_and_then (λ z. z.place) (cond b None (get m q)) ≡ cond b None (place_at m q)
    by_case true = refl
    by_case false = refl

literals-cut : (m : Store) (id q : ℕ) → literals_at (remove m id) q ≡ cond (nat_eq id q) [] (literals_at m q)
literals-cut m id q = ap (λ o. unwrap_or (option_map (λ z. z.literals) o) []) (get_cut m id q) ∙ by_case (nat_eq id q)
  where
    by_case : (b : Bool) → unwrap_or (option_map (λ z. z.literals) (cond b None (get m q))) [] ≡ cond b [] (literals_at m q)
    by_case true = refl
    by_case false = refl

pub beside-removed : (m n : Store) (id s : ℕ) → IsStore m → slot_at m id ≡ Some s → n ≡ remove m id → Beside m n id s
beside-removed m n id s st e is = record {
  stored = st;
  stored_less = subst IsStore (sym is) (store-without m id st);
  others = λ q d. ap (λ z. place_at z q) is ∙ place-cut m id q ∙ ap (λ c. cond c None (place_at m q)) d;
  none = ap (λ z. slot_at z id) is ∙ ap (option_map (λ p. p.slot)) (place-cut m id id ∙ ap (λ c. cond c None (place_at m id)) (eq-eqb id id refl));
  slot = e;
}

-- a list of ids without one
abbrev without : ℕ → List ℕ → List ℕ
without id [] = []
without id (q ∷ qs) = cond (nat_eq id q) (without id qs) (q ∷ without id qs)

without-few : (id : ℕ) (qs : List ℕ) → length (without id qs) ≤ length qs
without-few id [] = omega arith
without-few id (q ∷ qs) = elim (cases_Bool (nat_eq id q)) [
  | inl y ↦ rw y (let r = without-few id qs in omega arith)
  | inr d ↦ rw d (let r = without-few id qs in omega arith)
]

without-fewer : (id : ℕ) (qs : List ℕ) → has qs id ≡ true → length (without id qs) < length qs
without-fewer id [] h = absurd (both_ways false refl h)
without-fewer id (q ∷ qs) h = elim (cases_Bool (nat_eq id q)) [
  | inl y ↦ rw y (let r = without-few id qs in omega arith)
  | inr d ↦ rw d (elim (member_cases q id qs h) [
    | inl e ↦ absurd (both_ways _ d (eq-eqb id q e))
    | inr e ↦ let r = without-fewer id qs e in omega arith
  ])
]

without-has : (id q : ℕ) (qs : List ℕ) → nat_eq id q ≡ false → has qs q ≡ true → has (without id qs) q ≡ true
without-has id q [] d h = h
without-has id q (p ∷ qs) d h = elim (cases_Bool (nat_eq id p)) [
  | inl y ↦ rw y (elim (member_cases p q qs h) [
    | inl e ↦ absurd (both_ways _ d (ap (nat_eq id) e ∙ y))
    | inr e ↦ without-has id q qs d e
  ])
  | inr z ↦ rw z (elim (member_cases p q qs h) [
    | inl e ↦ subst (λ k. has (p ∷ without id qs) k ≡ true) (sym e) (has-here p (without id qs))
    | inr e ↦ has-there p q (without id qs) (without-has id q qs d e)
  ])
]

module _ (m n : Store) (id : ℕ) (is : n ≡ remove m id) where
  -- what is left is of another clause
  cut-other : (q l : ℕ) → has (literals_at n q) l ≡ true → nat_eq id q ≡ false
  cut-other q l h = elim (cases_Bool (nat_eq id q)) [
    | inl y ↦ absurd (both_ways false refl (sym (ap (λ ls. has ls l) (ap (λ z. literals_at z q) is ∙ literals-cut m id q ∙ ap (λ c. cond c [] (literals_at m q)) y)) ∙ h))
    | inr d ↦ d
  ]

  cut-within : (q l : ℕ) → has (literals_at n q) l ≡ true → has (literals_at m q) l ≡ true
  cut-within q l h = sym (ap (λ ls. has ls l) (ap (λ z. literals_at z q) is ∙ literals-cut m id q ∙ ap (λ c. cond c [] (literals_at m q)) (cut-other q l h))) ∙ h

  cut-room : (l a : ℕ) → HasRoom m l a → HasRoom n l (cond (has (literals_at m id) l) (a - 1) a)
  cut-room l a r = elim (cases_Bool (has (literals_at m id) l)) [
    | inl y ↦ rw y (record { ids = without id r.ids; each = λ q h. without-has id q r.ids (cut-other q l h) (r.each q (cut-within q l h)); few = let f = r.few in let w = without-fewer id r.ids (r.each id y) in omega arith })
    | inr d ↦ rw d (record { ids = r.ids; each = λ q h. r.each q (cut-within q l h); few = r.few })
  ]

-- what is known when the room was given up and the clause was removed
pub record Drops (m n : Store) (rows new : List RowView) (places : List ℕ) (id s : ℕ) (ls : List ℕ) : Type 0 where
  pub stored : IsStore m
  pub slot : slot_at m id ≡ Some s
  pub is : n ≡ remove m id
  pub kept : AreKept (nat_eq s) m rows places
  pub lits : lits_at m id ≡ ls
  pub lowered : AreLowered ls rows new

pub kept_dropped : (m n : Store) (rows new : List RowView) (places : List ℕ) (id s : ℕ) (ls : List ℕ) → Drops m n rows new places id s ls → AreKept nobody n new places
kept_dropped m n rows new places id s ls d =
    let r = d.lowered in
    let k = d.kept in
    let literals : (l : ℕ) → has ls l ≡ has (literals_at m id) l = λ l. ap (λ z. has z l) (sym d.lits) ∙ lits-literals m id s l d.stored d.slot in
    let less : AreKept nobody n rows places = kept_less m n id s (beside-removed m n id s d.stored d.slot d.is) rows places k (cut-within m n id d.is) (places-cut m n id (length places) d.is k.keeps) (λ l. let h = k.rooms l in record { ids = h.ids; each = λ q e. h.each q (cut-within m n id d.is q l e); few = h.few }) in
    kept_rows nobody n rows new places less (let e = r.long in omega arith) r.watches
    (λ l. subst (HasRoom n l) (sym (r.counts l ∙ ap (λ c. cond c (count_at rows l - 1) (count_at rows l)) (literals l))) (cut-room m n id d.is l (count_at rows l) (k.rooms l)))
