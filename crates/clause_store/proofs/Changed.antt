-- One entry of the pool changed: its list in another order, or its links.
use Rattle.std.proofs.Common.{◌≡◌, ℕ, ◌<◌, List, [], length, Option, Some, refl, sym, ap, ◌∙◌, subst, inl, inr, cond, Bool, true, false, nat_eq, eqb-true, eq-eqb}
use Rattle.std.specs.Prelude.{option_map, option_and_then, unwrap_or}
use Rattle.std.specs.List.{swap}
use Rattle.std.specs.List.Sorted.{IsPermutation}
use Rattle.std.proofs.lemmas.List.Sorted.{IsPermutation-swap, IsPermutation-sym, Contains-permutation}
use Rattle.std.proofs.lemmas.List.Edits.{length-swap}
use Rattle.std.proofs.lemmas.Bool.{cases_Bool}
use Rattle.std.proofs.lemmas.Option.{same_Some}
use Rattle.std.specs.FinMap.{get, insert}
use Rattle.lits.specs.Clause.{set_of}
use Rattle.lits.proofs.Sets.{has-same, same_from}
use Rattle.lits.proofs.Ascending.{set_of-same}
use Rattle.lit_pool.specs.Entry.{Entry, Entries, entry_at, link_of, relinked as entry_relinked, with_swap as pool_with_swap, with_link as pool_with_link}
use Rattle.lit_pool.specs.declared.Which.{Which}
use Rattle.lit_pool.specs.declared.Which.TheVariants as which
use Rattle.clause_store.specs.declared.table.ClauseRow.{ClauseRow}
use Rattle.clause_store.specs.declared.rows.SlotInfo.{SlotInfo}
use Rattle.clause_store.specs.declared.table.Table.{Table}
use Rattle.clause_store.specs.Clauses.{Place, Store, IsOnce, slot_at, lits_at, link_at, place_link, clause_at, weakened_entry, relinked, swapped, with_place, with_swap, with_link}
use Rattle.clause_store.specs.Index.{key_of}
use Rattle.clause_store.specs.Rows.{place_of, held_of, store_of, row, row_slot, with_state, IsRow, AreRows}
use Rattle.clause_store.proofs.Lists.{size-once, firsts-whole, once-firsts}
use Rattle.clause_store.proofs.Stored.{get-store_of, slot_at-row, lits_at-row, found, Found, slots_differ, get_insert_other, get_insert_same, store_put, rows_put}

-- ---- A list with two places exchanged

swap-contains : (xs : List ℕ) (a b : ℕ) → a < length xs → b < length xs → IsPermutation xs (swap xs a b)
swap-contains xs a b lt lt2 = IsPermutation-swap xs (swap xs a b) a b lt lt2 refl

pub swap-set : (xs : List ℕ) (a b : ℕ) → a < length xs → b < length xs → set_of (swap xs a b) ≡ set_of xs
swap-set xs a b lt lt2 =
    let p = swap-contains xs a b lt lt2 in
    set_of-same (swap xs a b) xs (same_from (swap xs a b) xs (has-same (swap xs a b) xs
    (λ l m. Contains-permutation (swap xs a b) xs l (IsPermutation-sym xs (swap xs a b) p) m) (λ l m. Contains-permutation xs (swap xs a b) l p m)))

pub swap-once : (xs : List ℕ) (a b : ℕ) → a < length xs → b < length xs → IsOnce xs → IsOnce (swap xs a b)
swap-once xs a b lt lt2 o =
    let size : length (set_of (swap xs a b)) ≡ length (swap xs a b) = ap length (swap-set xs a b lt lt2) ∙ size-once xs o ∙ sym (length-swap xs a b) in
    subst IsOnce (sym (firsts-whole (swap xs a b) size)) (once-firsts (swap xs a b) [] tt)

-- ---- One entry changed

-- what is known when an active clause's entry is changed
pub record Changes (indexed : Bool) (p : Entries) (es : Table) (ids : List SlotInfo) (id s : ℕ) (e : Entry) (f : Place → Place) : Type 0 where
  pub all : AreRows indexed p ids es
  pub slot : slot_at (store_of p es) id ≡ Some s
  pub shape : place_of e s ≡ f (place_of (entry_at p s) s)
  pub same_set : set_of e.lits ≡ set_of (entry_at p s).lits
  pub once : IsOnce (entry_at p s).lits → IsOnce e.lits

module _ {indexed : Bool} (p : Entries) (es : Table) (ids : List SlotInfo) (id s : ℕ) (e : Entry) (f : Place → Place) (h : Changes indexed p es ids id s e f) where
  here : Found true (row es id) s
  here = found true (row es id) s (sym (slot_at-row p es id) ∙ h.slot)

  same_rows : (q : ℕ) → row es q ≡ cond (nat_eq id q) (Some here.k) (row es q)
  same_rows q = elim (cases_Bool (nat_eq id q)) [
    | inl y ↦ rw y (ap (row es) (sym (eqb-true id q y)) ∙ here.is)
    | inr n ↦ rw n refl
  ]

  others : (q : ℕ) (r : ClauseRow) → nat_eq id q ≡ false → row es q ≡ Some r → get (insert p s e) r.slot ≡ get p r.slot
  others q r n g = get_insert_other p s r.slot e (λ same. slots_differ p es ids q id r here.k h.all n g here.is (same ∙ sym here.slot))

  entry-here : get (insert p s e) here.k.slot ≡ Some e
  entry-here = ap (get (insert p s e)) here.slot ∙ get_insert_same p s e

  clause-here : clause_at (store_of p es) id ≡ held_of (get p s) here.k
  clause-here = ap (λ o. unwrap_or o (weakened_entry [] 0)) (get-store_of p es id ∙ ap (option_map (λ k. held_of (get p k.slot) k)) here.is) ∙ ap (λ z. held_of (get p z) here.k) here.slot

  held-here : held_of (Some e) here.k ≡ with_place f (held_of (get p s) here.k)
  held-here = joined here.k here.slot here.on
    where
      joined : (k : ClauseRow) → k.slot ≡ s → k.active ≡ true → held_of (Some e) k ≡ with_place f (held_of (get p s) k)
      joined k same on = rw (on, same) (λ i. record { literals = h.same_set i; slot = s; place = Some (h.shape i) })

  pub store-changed : store_of (insert p s e) es ≡ insert (store_of p es) id (with_place f (clause_at (store_of p es) id))
  store-changed = store_put p (insert p s e) es es id here.k (with_place f (clause_at (store_of p es) id)) same_rows others
      (ap (λ o. held_of o here.k) entry-here ∙ held-here ∙ sym (ap (with_place f) clause-here))

  pub rows-changed : AreRows indexed (insert p s e) ids es
  rows-changed =
      let r : IsRow indexed (get p s) ids id here.k = subst (λ z. IsRow indexed (get p z) ids id here.k) here.slot (h.all id here.k here.is) in
      let n : IsRow indexed (Some e) ids id here.k = record { live = refl; listed = r.listed; once = h.once r.once; keyed = λ t. r.keyed t ∙ ap key_of (sym h.same_set) } in
      rows_put p (insert p s e) es es ids id here.k same_rows others (subst (λ o. IsRow indexed o ids id here.k) (sym entry-here) n) h.all

pub link_at-row : (p : Entries) (es : Table) (id s : ℕ) (w : Which) → slot_at (store_of p es) id ≡ Some s → link_at (store_of p es) id w ≡ link_of (entry_at p s) w
link_at-row p es id s w e =
    let f = found true (row es id) s (sym (slot_at-row p es id) ∙ e) in
    ap (λ o. option_and_then (place_link w) (option_and_then (λ h. h.place) o)) (get-store_of p es id ∙ ap (option_map (λ k. held_of (get p k.slot) k)) f.is) ∙ joined f.k f.slot f.on w
  where
    joined : (k : ClauseRow) → k.slot ≡ s → k.active ≡ true → (w : Which) → option_and_then (place_link w) (held_of (get p k.slot) k).place ≡ link_of (entry_at p s) w
    joined k same on which.One = rw (on, same) refl
    joined k same on which.Two = rw (on, same) refl

-- ---- The two changes

swap_changes : {indexed : Bool} (p : Entries) (es : Table) (ids : List SlotInfo) (id s a b : ℕ) → AreRows indexed p ids es → slot_at (store_of p es) id ≡ Some s → a < length (entry_at p s).lits → b < length (entry_at p s).lits
    → Changes indexed p es ids id s (record { lits = swap (entry_at p s).lits a b; one = (entry_at p s).one; two = (entry_at p s).two }) (swapped a b)
swap_changes p es ids id s a b h e lt lt2 = record { all = h; slot = e; shape = refl; same_set = swap-set (entry_at p s).lits a b lt lt2; once = swap-once (entry_at p s).lits a b lt lt2 }

link_changes : {indexed : Bool} (p : Entries) (es : Table) (ids : List SlotInfo) (id s : ℕ) (w : Which) (to : Option ℕ) → AreRows indexed p ids es → slot_at (store_of p es) id ≡ Some s
    → Changes indexed p es ids id s (entry_relinked (entry_at p s) w to) (relinked w to)
link_changes p es ids id s which.One to h e = record { all = h; slot = e; shape = refl; same_set = refl; once = λ o. o }
link_changes p es ids id s which.Two to h e = record { all = h; slot = e; shape = refl; same_set = refl; once = λ o. o }

module _ {indexed : Bool} (p p' : Entries) (es : Table) (ids : List SlotInfo) (m : Store) (id s : ℕ) (v : store_of p es ≡ m) (h : AreRows indexed p ids es) (e : slot_at m id ≡ Some s) where
  slot_inside : slot_at (store_of p es) id ≡ Some s
  slot_inside = ap (λ z. slot_at z id) v ∙ e

  -- the literals of the entry are those of the clause
  pub length_inside : length (entry_at p s).lits ≡ length (lits_at m id)
  length_inside = ap length (sym (lits_at-row p es id s (sym (slot_at-row p es id) ∙ slot_inside))) ∙ ap (λ z. length (lits_at z id)) v

  pub rows-swapped : (a b : ℕ) → a < length (entry_at p s).lits → b < length (entry_at p s).lits → p' ≡ pool_with_swap p s a b → AreRows indexed p' ids es
  rows-swapped a b lt lt2 new = subst (λ z. AreRows indexed z ids es) (sym new) (rows-changed p es ids id s _ _ (swap_changes p es ids id s a b h slot_inside lt lt2))

  pub store-swapped : (a b : ℕ) → a < length (entry_at p s).lits → b < length (entry_at p s).lits → p' ≡ pool_with_swap p s a b → store_of p' es ≡ with_swap m id a b
  store-swapped a b lt lt2 new = ap (λ z. store_of z es) new ∙ store-changed p es ids id s _ _ (swap_changes p es ids id s a b h slot_inside lt lt2) ∙ ap (λ z. with_swap z id a b) v

  pub rows-relinked : (w : Which) (to : Option ℕ) → p' ≡ pool_with_link p s w to → AreRows indexed p' ids es
  rows-relinked w to new = subst (λ z. AreRows indexed z ids es) (sym new) (rows-changed p es ids id s _ _ (link_changes p es ids id s w to h slot_inside))

  pub store-relinked : (w : Which) (to : Option ℕ) → p' ≡ pool_with_link p s w to → store_of p' es ≡ with_link m id w to
  store-relinked w to new = ap (λ z. store_of z es) new ∙ store-changed p es ids id s _ _ (link_changes p es ids id s w to h slot_inside) ∙ ap (λ z. with_link z id w to) v

-- the slot of a row that is active now
pub slot-switched : (p : Entries) (es es' : Table) (id s t : ℕ) (k : ClauseRow) → row es id ≡ Some k → k.slot ≡ s
    → ((q : ℕ) → row es' q ≡ cond (nat_eq id q) (option_map (with_state true) (row es q)) (row es q)) → slot_at (store_of p es') id ≡ Some t → s ≡ t
slot-switched p es es' id s t k here slot rows e =
    let r : row es' id ≡ Some (with_state true k) = rows id ∙ ap (λ b. cond b (option_map (with_state true) (row es id)) (row es id)) (eq-eqb id id refl) ∙ ap (option_map (with_state true)) here in
    sym slot ∙ same_Some k.slot t (sym (ap (row_slot true) r) ∙ sym (slot_at-row p es' id) ∙ e)
