-- What callers may rest on.
use Rattle.std.proofs.Common.{◌≡◌, ℕ, suc, zero, ◌<◌, ◌≤◌, List, [], ◌∷◌, length, map, Bool, true, false, Some, refl, sym, ap, ◌∙◌, subst, inl, inr, arith, leb-true}
use Rattle.std.specs.Prelude.{slice_index}
use Rattle.std.proofs.Math.ListN.{get_or-map}
use Rattle.std.proofs.lemmas.List.{length-map}
use Rattle.std.proofs.lemmas.Bool.{and_parts, false_from_ne_true}
use Rattle.lits.specs.Clause.{has}
use Rattle.clause_store.specs.Clauses.{Store, IsOnce, slot_at, lits_at}
use Rattle.watch_lists.specs.Watch.{WatchView}
use Rattle.watch_lists.specs.Watched.{IsWatch, IsWatched, list_at, entry_at, slots_in, is_watch}
use Rattle.watch_lists.specs.Lists.{RowView, AreKept, IsWatching, nobody, seen, watches_at, no_row, place_in, id_at, lits_of, watch_places}
use Rattle.watch_lists.proofs.Members.{has-here, has-there, member_cases}
use Rattle.watch_lists.proofs.Placed.{id_at-slot, id_at-is}
use Rattle.watch_lists.proofs.FirstTwo.{first_watch, second_watch, watch_cases}
use Rattle.watch_lists.proofs.Rooms.{slots-apart}

-- ---- The lists that callers see

pub seen_list : (rows : List RowView) (l : ℕ) → list_at (map (λ r. r.watches) rows) l ≡ watches_at rows l
seen_list rows l = get_or-map (λ r. r.watches) rows l no_row

pub seen_wide : (rows : List RowView) → length (map (λ r. r.watches) rows) ≡ length rows
seen_wide rows = length-map rows (λ r. r.watches)

-- ---- The slots of a list

pub has-slot : (es : List WatchView) (i : ℕ) → i < length es → has (slots_in es) (entry_at es i).slot ≡ true
has-slot [] i lt = absurd (omega arith)
has-slot (e ∷ es) zero lt = has-here e.slot (slots_in es)
has-slot (e ∷ es) (suc i) lt = has-there e.slot (entry_at es i).slot (slots_in es) (has-slot es i (omega arith))

-- where a slot stands in a list
pub record Stands (es : List WatchView) (s : ℕ) : Type 0 where
  pub at : ℕ
  pub within : at < length es
  pub slot : (entry_at es at).slot ≡ s

pub slot-place : (es : List WatchView) (s : ℕ) → has (slots_in es) s ≡ true → Stands es s
slot-place [] s h = cc
slot-place (e ∷ es) s h = elim (member_cases e.slot s (slots_in es) h) [
  | inl f ↦ record { at = 0; within = omega arith; slot = sym f }
  | inr f ↦ let r = slot-place es s f in let lt : r.at < length es = r.within in record { at = suc r.at; within = omega arith; slot = r.slot }
]

once-slots : (es : List WatchView) → ((i j : ℕ) → i < length es → j < length es → (entry_at es i).slot ≡ (entry_at es j).slot → i ≡ j) → IsOnce (slots_in es)
once-slots [] apart = tt
once-slots (e ∷ es) apart = (
  false_from_ne_true _ (λ h. let r = slot-place es e.slot h in let lt : r.at < length es = r.within in let same : suc r.at ≡ 0 = apart (suc r.at) 0 (omega arith) (omega arith) r.slot in absurd (omega arith)),
  once-slots es (λ i j lt lt2 f. let same : suc i ≡ suc j = apart (suc i) (suc j) (omega arith) (omega arith) f in omega arith),
)

-- ---- Watches

both-true : (a b : Bool) → (a ≡ true → b ≡ true) → (b ≡ true → a ≡ true) → a ≡ b
both-true true b f g = sym (f refl)
both-true false true f g = g refl
both-true false false f g = refl

place-watch : (ls : List ℕ) (p l : ℕ) → 2 ≤ length ls → p ≤ 1 → slice_index ls p ≡ l → is_watch ls l ≡ true
place-watch ls zero l big low e = subst (λ z. is_watch ls z ≡ true) e (first_watch ls big)
place-watch ls (suc p) l big low e =
    let n : p ≡ 0 = omega arith in
    subst (λ z. is_watch ls z ≡ true) (sym (ap (λ z. slice_index ls (suc z)) n) ∙ e) (second_watch ls big)

pub watching-watch : (m : Store) (s p l : ℕ) → IsWatching m s p l → is_watch (lits_of m s) l ≡ true
watching-watch m s p l w = place-watch (lits_of m s) p l w.long w.low w.lit

long-watch : (ls : List ℕ) (l : ℕ) → is_watch ls l ≡ true → 2 ≤ length ls
long-watch ls l h = leb-true 2 (length ls) (and_parts _ _ h).0

-- an entry of a list is that of a clause
entry-slot : (m : Store) (rows : List RowView) (places : List ℕ) → AreKept nobody m rows places → (l i : ℕ) → i < length (watches_at rows l) → IsWatching m (entry_at (watches_at rows l) i).slot (watch_places m (entry_at (watches_at rows l) i).slot l) l
entry-slot m rows places k l i lt = (k.listed.back l i lt).0

kept-watches : (m : Store) (rows : List RowView) (places : List ℕ) → AreKept nobody m rows places → (id s l : ℕ) → slot_at m id ≡ Some s → has (slots_in (watches_at rows l)) s ≡ is_watch (lits_at m id) l
kept-watches m rows places k id s l e = both-true _ _ to from
  where
    here : id_at m s ≡ id
    here = id_at-is m id s k.stored e

    to : has (slots_in (watches_at rows l)) s ≡ true → is_watch (lits_at m id) l ≡ true
    to h =
        let r = slot-place (watches_at rows l) s h in
        let w : IsWatching m s (watch_places m s l) l = subst (λ z. IsWatching m z (watch_places m z l) l) r.slot (entry-slot m rows places k l r.at r.within) in
        subst (λ z. is_watch (lits_at m z) l ≡ true) here (watching-watch m s (watch_places m s l) l w)

    stands : (p : ℕ) → p ≤ 1 → 2 ≤ length (lits_of m s) → slice_index (lits_of m s) p ≡ l → has (slots_in (watches_at rows l)) s ≡ true
    stands p low big f =
        let st = k.listed.here s p l (record { slot = id_at-slot m id s e; long = big; low = low; lit = f }, refl) in
        subst (λ z. has (slots_in (watches_at rows l)) z ≡ true) st.slot (has-slot (watches_at rows l) (place_in places s p) st.within)

    from : is_watch (lits_at m id) l ≡ true → has (slots_in (watches_at rows l)) s ≡ true
    from h =
        let g : is_watch (lits_of m s) l ≡ true = subst (λ z. is_watch (lits_at m z) l ≡ true) (sym here) h in
        let big = long-watch (lits_of m s) l g in
        elim (watch_cases (lits_of m s) l g) [
          | inl f ↦ stands 0 (omega arith) big f
          | inr f ↦ stands 1 (omega arith) big f
        ]

kept-entries : (m : Store) (rows : List RowView) (places : List ℕ) → AreKept nobody m rows places → (id l i : ℕ) → i < length (watches_at rows l) → slot_at m id ≡ Some (entry_at (watches_at rows l) i).slot → IsWatch (lits_at m id) l (entry_at (watches_at rows l) i)
kept-entries m rows places k id l i lt e =
    let w = entry-slot m rows places k l i lt in
    subst (λ z. IsWatch (lits_at m z) l (entry_at (watches_at rows l) i)) (id_at-is m id (entry_at (watches_at rows l) i).slot k.stored e)
    (record { long = w.long; lit = w.lit; blocker = k.blockers l i lt })

pub kept_sound : (m : Store) (rows : List RowView) (places : List ℕ) → AreKept nobody m rows places → IsWatched (seen m rows)
kept_sound m rows places k = record {
  store = k.stored;
  reserved = λ id l h. subst (λ z. l < z) (sym (seen_wide rows)) (k.reserved id l h);
  once = λ l. subst (λ es. IsOnce (slots_in es)) (sym (seen_list rows l)) (once-slots (watches_at rows l) (slots-apart _ rows places l k.listed));
  watches = λ id s l e. subst (λ es. has (slots_in es) s ≡ is_watch (lits_at m id) l) (sym (seen_list rows l)) (kept-watches m rows places k id s l e);
  slots = λ l s h.
      let r = slot-place (watches_at rows l) s (subst (λ es. has (slots_in es) s ≡ true) (seen_list rows l) h) in
      (id_at m s, subst (λ z. slot_at m (id_at m z) ≡ Some z) r.slot (entry-slot m rows places k l r.at r.within).slot);
  entries = λ id l i lt e. subst (λ es. IsWatch (lits_at m id) l (entry_at es i)) (sym (seen_list rows l))
      (kept-entries m rows places k id l i (subst (λ es. i < length es) (seen_list rows l) lt) (subst (λ es. slot_at m id ≡ Some (entry_at es i).slot) (seen_list rows l) e));
}
