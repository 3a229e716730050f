-- How a change of the rows and of the pool changes the map, and what holds inside.
use Rattle.std.proofs.Common.{◌≡◌, ◌≢◌, ℕ, suc, zero, ◌+◌, ◌<◌, ◌≤◌, ◌⊎◌, List, [], ◌∷◌, ◌++◌, length, map, append_assoc, Option, Some, None, refl, sym, ap, ◌∙◌, subst, inl, inr, arith, cond, true, false, Bool, not, nat_eq, ◌||◌, ◌&&◌, eqb-true, eq-eqb, IsTrue}
use Rattle.std.specs.Prelude.{is_some, option_map, option_and_then, unwrap_or, IfSome, IfNone, OnOk, OnErr, Result, Ok, Err, is_err}
use Rattle.std.proofs.lemmas.Option.{same_Some, none-some}
use Rattle.std.proofs.lemmas.Bool.{cases_Bool, both_ways, and_parts}
use Rattle.std.proofs.lemmas.Bool.Decides.{nat_tests}
use Rattle.std.specs.Ordering.{nat_cmp, eq_by_cmp}
use Rattle.std.specs.Cmp.{nat_cmp_total, unsigned_tied}
use Rattle.std.specs.Option.{option_or}
use Rattle.std.specs.FinMap.{empty, get, insert, remove, find, get-insert, get-remove, get-from_entries, get-empty, same_map, nat_cmp-IsAntisymmetric}
use Rattle.lits.specs.Clause.{set_of}
use Rattle.lits.proofs.Ascending.{ascends_set_of, set_of-unique}
use Rattle.lit_pool.specs.Entry.{Entry, Entries, new_entry, entry_at, with_link}
use Rattle.lit_pool.specs.declared.Which.TheVariants as which
use Rattle.lit_pool.proofs.Slots.{get-insert_slot, get-remove_slot}
use Rattle.clause_store.specs.declared.table.ClauseRow.{ClauseRow}
use Rattle.clause_store.specs.declared.table.Cell.{Cell}
use Rattle.clause_store.specs.declared.rows.SlotInfo.{SlotInfo}
use Rattle.clause_store.specs.declared.table.Table.{Table}
use Rattle.clause_store.specs.declared.index.Pairs.{Pairs}
use Rattle.clause_store.specs.Clauses.{ClauseEntry, Place, Store, IsOnce, firsts, slot_at, kept_at, lits_at, literals_at, new_clause, active_entry, is_active, is_held, is_weakened, IsFresh, IsStore, IsRestored, IsActiveWith, IsWeakenedWith}
use Rattle.clause_store.specs.Index.{has_pair, key_of}
use Rattle.clause_store.specs.Rows.{entry_of, place_of, held_of, store_of, row_if, listed, entries, dense_row, far_row, row, literals_in, IsRowWith, is_state, stands, row_slot, with_state, noted, kept_of, IsListed, SameListed, IsRow, ArePooled, AreRows, IsIndex, IsStoreInside}
use Rattle.clause_store.proofs.Lists.{set_of-firsts, once-firsts}

-- ---- The entries of a table

ties : (q : ℕ) → eq_by_cmp nat_cmp q q ≡ true
ties q = grind (arith, nat_tests)

untied : (q k : ℕ) → q ≢ k → eq_by_cmp nat_cmp q k ≡ false
untied q k ne = grind (arith, nat_tests)

tied : (q k : ℕ) → eq_by_cmp nat_cmp q k ≡ nat_eq q k
tied q k = grind (arith, nat_tests)

-- the row of the far part
find-far : (q : ℕ) (es : List (ℕ × ClauseRow)) → find nat_cmp q es ≡ far_row es q
find-far q [] = refl
find-far q (e ∷ es) = ap (λ b. cond b (Some e.1) (find nat_cmp q es)) (tied q e.0) ∙ ap (λ o. cond (nat_eq q e.0) (Some e.1) o) (find-far q es)

find-skip : (n q : ℕ) (o : Option ClauseRow) (es : List (ℕ × ClauseRow)) → q ≢ n → find nat_cmp q (row_if n o ++ es) ≡ find nat_cmp q es
find-skip n q None es ne = refl
find-skip n q (Some k) es ne = rw (untied q n ne) refl

-- the dense part has no id before its first
find-past : (n q : ℕ) (cs : List Cell) (es : List (ℕ × ClauseRow)) → q < n → find nat_cmp q (listed n cs ++ es) ≡ find nat_cmp q es
find-past n q [] es lt = refl
find-past n q (c ∷ cs) es lt = ap (find nat_cmp q) (append_assoc (row_if n (kept_of c)) (listed (suc n) cs) es) ∙ find-skip n q (kept_of c) (listed (suc n) cs ++ es) (omega arith) ∙ find-past (suc n) q cs es (omega arith)

-- the row of the dense part where it has one, else what stands behind it
find-dense : (n j q : ℕ) (cs : List Cell) (es : List (ℕ × ClauseRow)) → q ≡ n + j → find nat_cmp q (listed n cs ++ es) ≡ option_or (dense_row cs j) (find nat_cmp q es)
find-dense n j q [] es e = refl
find-dense n zero q (c ∷ cs) es e = ap (find nat_cmp q) (append_assoc (row_if n (kept_of c)) (listed (suc n) cs) es) ∙ at (kept_of c) (find-past (suc n) q cs es (omega arith))
  where
    at : (o : Option ClauseRow) → find nat_cmp q (listed (suc n) cs ++ es) ≡ find nat_cmp q es → find nat_cmp q (row_if n o ++ (listed (suc n) cs ++ es)) ≡ option_or o (find nat_cmp q es)
    at None h = h
    at (Some k) h = let same_id : q ≡ n = omega arith in rw (same_id, ties n) refl
find-dense n (suc j) q (c ∷ cs) es e = ap (find nat_cmp q) (append_assoc (row_if n (kept_of c)) (listed (suc n) cs) es) ∙ find-skip n q (kept_of c) (listed (suc n) cs ++ es) (omega arith) ∙ find-dense (suc n) j q cs es (omega arith)

find-entries : (t : Table) (q : ℕ) → find nat_cmp q (entries t) ≡ row t q
find-entries t q = find-dense 0 q q t.dense.items t.far.entries (omega arith) ∙ ap (λ o. option_or (dense_row t.dense.items q) o) (find-far q t.far.entries)

-- ---- The map at an id

find-map : (pool : Entries) (es : List (ℕ × ClauseRow)) (q : ℕ) → find nat_cmp q (map (λ e. (e.0, held_of (get pool e.1.slot) e.1)) es) ≡ option_map (λ k. held_of (get pool k.slot) k) (find nat_cmp q es)
find-map pool [] q = refl
find-map pool (e ∷ es) q = elim (cases_Bool (eq_by_cmp nat_cmp q e.0)) [
  | inl y ↦ rw y refl
  | inr n ↦ rw n (find-map pool es q)
]

pub get-store_of : (pool : Entries) (es : Table) (q : ℕ) → get (store_of pool es) q ≡ option_map (λ k. held_of (get pool k.slot) k) (row es q)
unfolding store_of
get-store_of pool es q = get-from_entries nat_cmp_total _ q ∙ find-map pool (entries es) q ∙ ap (option_map (λ k. held_of (get pool k.slot) k)) (find-entries es q)

pub same : (m n : Store) → ((q : ℕ) → get m q ≡ get n q) → m ≡ n
same m n h = same_map nat_cmp_total nat_cmp-IsAntisymmetric m n h

pub store_of-nil : (pool : Entries) (t : Table) → ((q : ℕ) → row t q ≡ None) → store_of pool t ≡ empty
store_of-nil pool t none = same _ _ (λ q. get-store_of pool t q ∙ ap (option_map (λ k. held_of (get pool k.slot) k)) (none q) ∙ sym (get-empty nat_cmp q))

ids_apart : (a b : ℕ) → nat_eq a b ≡ false → nat_eq b a ≡ false
ids_apart a b h = grind (arith, nat_tests)

pub get_put : (m : Store) (id : ℕ) (h : ClauseEntry) (q : ℕ) → get (insert m id h) q ≡ cond (nat_eq id q) (Some h) (get m q)
get_put m id h q = get-insert nat_cmp_total m id h q ∙ ap (λ b. cond b (Some h) (get m q)) (unsigned_tied q id ∙ flip q id)
  where
    flip : (q id : ℕ) → nat_eq q id ≡ nat_eq id q
    flip q id = grind (arith, nat_tests)

pub get_cut : (m : Store) (id q : ℕ) → get (remove m id) q ≡ cond (nat_eq id q) None (get m q)
get_cut m id q = get-remove nat_cmp_total m id q ∙ ap (λ b. cond b None (get m q)) (unsigned_tied q id ∙ flip q id)
  where
    flip : (q id : ℕ) → nat_eq q id ≡ nat_eq id q
    flip q id = grind (arith, nat_tests)

-- one row put, where the entries of the others stay
pub store_put : (p p' : Entries) (es es' : Table) (id : ℕ) (k : ClauseRow) (h : ClauseEntry)
    → ((q : ℕ) → row es' q ≡ cond (nat_eq id q) (Some k) (row es q))
    → ((q : ℕ) (r : ClauseRow) → nat_eq id q ≡ false → row es q ≡ Some r → get p' r.slot ≡ get p r.slot)
    → held_of (get p' k.slot) k ≡ h
    → store_of p' es' ≡ insert (store_of p es) id h
store_put p p' es es' id k h rows entries here = same _ _ (λ q.
    get-store_of p' es' q ∙ ap (λ o. option_map (λ k. held_of (get p' k.slot) k) o) (rows q) ∙ at q ∙ sym (get_put (store_of p es) id h q))
  where
    others : (q : ℕ) (o : Option ClauseRow) → row es q ≡ o → nat_eq id q ≡ false → option_map (λ k. held_of (get p' k.slot) k) o ≡ option_map (λ k. held_of (get p k.slot) k) o
    others q None e n = refl
    others q (Some r) e n = ap (λ g. Some (held_of g r)) (entries q r n e)

    at : (q : ℕ) → option_map (λ k. held_of (get p' k.slot) k) (cond (nat_eq id q) (Some k) (row es q)) ≡ cond (nat_eq id q) (Some h) (get (store_of p es) q)
    at q = elim (cases_Bool (nat_eq id q)) [
      | inl y ↦ rw y (ap (λ z. Some z) here)
      | inr n ↦ rw n (others q (row es q) refl n ∙ sym (get-store_of p es q))
    ]

-- one row taken out, where the entries of the others stay
pub store_cut : (p p' : Entries) (es es' : Table) (id : ℕ)
    → ((q : ℕ) → row es' q ≡ cond (nat_eq id q) None (row es q))
    → ((q : ℕ) (r : ClauseRow) → nat_eq id q ≡ false → row es q ≡ Some r → get p' r.slot ≡ get p r.slot)
    → store_of p' es' ≡ remove (store_of p es) id
store_cut p p' es es' id rows entries = same _ _ (λ q.
    get-store_of p' es' q ∙ ap (λ o. option_map (λ k. held_of (get p' k.slot) k) o) (rows q) ∙ at q ∙ sym (get_cut (store_of p es) id q))
  where
    others : (q : ℕ) (o : Option ClauseRow) → row es q ≡ o → nat_eq id q ≡ false → option_map (λ k. held_of (get p' k.slot) k) o ≡ option_map (λ k. held_of (get p k.slot) k) o
    others q None e n = refl
    others q (Some r) e n = ap (λ g. Some (held_of g r)) (entries q r n e)

    at : (q : ℕ) → option_map (λ k. held_of (get p' k.slot) k) (cond (nat_eq id q) None (row es q)) ≡ cond (nat_eq id q) None (get (store_of p es) q)
    at q = elim (cases_Bool (nat_eq id q)) [
      | inl y ↦ rw y refl
      | inr n ↦ rw n (others q (row es q) refl n ∙ sym (get-store_of p es q))
    ]

-- the same rows
pub store_same : (p : Entries) (es es' : Table) → ((q : ℕ) → row es' q ≡ row es q) → store_of p es' ≡ store_of p es
store_same p es es' rows = same _ _ (λ q. get-store_of p es' q ∙ ap (λ o. option_map (λ k. held_of (get p k.slot) k) o) (rows q) ∙ sym (get-store_of p es q))

-- ---- What holds inside

pub inside-same : {indexed : Bool} (p : Entries) (es es' : Table) (a a' w w' : Pairs) (ids : List SlotInfo)
    → ((q : ℕ) → row es' q ≡ row es q) → ((k i : ℕ) → has_pair a' k i ≡ has_pair a k i) → ((k i : ℕ) → has_pair w' k i ≡ has_pair w k i)
    → IsStoreInside indexed p es a w ids → IsStoreInside indexed p es' a' w' ids
inside-same p es es' a a' w w' ids rows in_a in_w h = record {
  rows = λ q k e. h.rows q k (sym (rows q) ∙ e);
  active_index = λ t key q. in_a key q ∙ h.active_index t key q ∙ ap (stands ids true key) (sym (rows q));
  weakened_index = λ t key q. in_w key q ∙ h.weakened_index t key q ∙ ap (stands ids false key) (sym (rows q));
}

-- the same fields under other names
pub inside-framed : (i j : Bool) (p : Entries) (es : Table) (a w v : Pairs) (ids : List SlotInfo) → j ≡ i → v ≡ w → IsStoreInside i p es a w ids → IsStoreInside j p es a v ids
inside-framed i j p es a w v ids e f h = subst (λ b. IsStoreInside b p es a v ids) (sym e) (subst (λ x. IsStoreInside i p es a x ids) (sym f) h)

-- the slots of two rows differ
pub slots_differ : {indexed : Bool} (p : Entries) (es : Table) (ids : List SlotInfo) (q r : ℕ) (k j : ClauseRow) → AreRows indexed p ids es → nat_eq r q ≡ false → row es q ≡ Some k → row es r ≡ Some j → k.slot ≢ j.slot
slots_differ p es ids q r k j h n e f same_slot =
    let a : IsListed ids k.slot q = (h q k e).listed in
    let b : IsListed ids j.slot r = (h r j f).listed in
    let c : q ≡ r = sym a.1 ∙ ap (λ s. (noted ids s).id) same_slot ∙ b.1 in
    both_ways _ n (eq-eqb r q (sym c))

-- a slot that isn't live is no row's
pub slot_dead : {indexed : Bool} (p : Entries) (es : Table) (ids : List SlotInfo) (s q : ℕ) (k : ClauseRow) → AreRows indexed p ids es → get p s ≡ None → row es q ≡ Some k → k.slot ≢ s
slot_dead p es ids s q k h dead e same_slot =
    let l : is_some (get p s) ≡ true = subst (λ z. is_some (get p z) ≡ true) same_slot (h q k e).live in
    both_ways _ (ap is_some dead) l

pub get_insert_other : (p : Entries) (s t : ℕ) (e : Entry) → t ≢ s → get (insert p s e) t ≡ get p t
get_insert_other p s t e ne = get-insert_slot p s e t ∙ ap (λ b. cond b (Some e) (get p t)) (differs t s ne)
  where
    differs : (t s : ℕ) → t ≢ s → nat_eq t s ≡ false
    differs t s ne = grind (arith, nat_tests)

pub get_insert_same : (p : Entries) (s : ℕ) (e : Entry) → get (insert p s e) s ≡ Some e
get_insert_same p s e = get-insert_slot p s e s ∙ ap (λ b. cond b (Some e) (get p s)) (eq-eqb s s refl)

pub get_remove_other : (p : Entries) (s t : ℕ) → t ≢ s → get (remove p s) t ≡ get p t
get_remove_other p s t ne = get-remove_slot p s t ∙ ap (λ b. cond b None (get p t)) (differs t s ne)
  where
    differs : (t s : ℕ) → t ≢ s → nat_eq t s ≡ false
    differs t s ne = grind (arith, nat_tests)

-- an entry added and freed
pub freed : (p : Entries) (s : ℕ) (e : Entry) → get p s ≡ None → remove (insert p s e) s ≡ p
freed p s e dead = same_map nat_cmp_total nat_cmp-IsAntisymmetric _ _ (λ q. get-remove_slot (insert p s e) s q ∙ ap (λ o. cond (nat_eq q s) None o) (get-insert_slot p s e q) ∙ at q)
  where
    at : (q : ℕ) → cond (nat_eq q s) None (cond (nat_eq q s) (Some e) (get p q)) ≡ get p q
    at q = elim (cases_Bool (nat_eq q s)) [
      | inl y ↦ rw y (sym (subst (λ z. get p z ≡ None) (sym (eqb-true q s y)) dead))
      | inr n ↦ rw n refl
    ]

-- an id noted at a slot that isn't live
module _ {indexed : Bool} (p : Entries) (es : Table) (ids ids' : List SlotInfo) (s : ℕ) (h : AreRows indexed p ids es) (dead : get p s ≡ None) (note : SameListed ids ids' s) where
  note_of : (q : ℕ) (k : ClauseRow) → row es q ≡ Some k → (k.slot < length ids') × (noted ids' k.slot ≡ noted ids k.slot)
  note_of q k e = note k.slot (slot_dead p es ids s q k h dead e) (h q k e).listed.0

  pub rows-noted : AreRows indexed p ids' es
  rows-noted = λ q k e. let r = h q k e in let n = note_of q k e in record { live = r.live; listed = (n.0, ap (λ z. z.id) n.1 ∙ r.listed.1); once = r.once; keyed = λ t. ap (λ z. z.key) n.1 ∙ r.keyed t }

  pub index-noted : (state : Bool) (x : Pairs) → IsIndex indexed ids state x es → IsIndex indexed ids' state x es
  index-noted state x g = λ t c q. g t c q ∙ stands-noted c q (row es q) refl
    where
      stands-noted : (c q : ℕ) (o : Option ClauseRow) → row es q ≡ o → stands ids state c o ≡ stands ids' state c o
      stands-noted c q None e = refl
      stands-noted c q (Some k) e = ap (λ z. nat_eq z.key c && is_state state k.active) (sym (note_of q k e).1)

pub inside-noted : {indexed : Bool} (p : Entries) (es : Table) (a w : Pairs) (ids ids' : List SlotInfo) (s : ℕ) → IsStoreInside indexed p es a w ids → get p s ≡ None → SameListed ids ids' s → IsStoreInside indexed p es a w ids'
inside-noted p es a w ids ids' s h dead note = record {
  rows = rows-noted p es ids ids' s h.rows dead note;
  active_index = index-noted p es ids ids' s h.rows dead note true a h.active_index;
  weakened_index = index-noted p es ids ids' s h.rows dead note false w h.weakened_index;
}

-- rows with one put, where the entries of the others stay
pub rows_put : {indexed : Bool} (p p' : Entries) (es es' : Table) (ids : List SlotInfo) (id : ℕ) (k : ClauseRow)
    → ((q : ℕ) → row es' q ≡ cond (nat_eq id q) (Some k) (row es q))
    → ((q : ℕ) (r : ClauseRow) → nat_eq id q ≡ false → row es q ≡ Some r → get p' r.slot ≡ get p r.slot)
    → IsRow indexed (get p' k.slot) ids id k → AreRows indexed p ids es → AreRows indexed p' ids es'
rows_put {indexed} p p' es es' ids id k rows entries here h = λ q r e. by_case q r (cases_Bool (nat_eq id q)) e
  where
    by_case : (q : ℕ) (r : ClauseRow) → (nat_eq id q ≡ true) ⊎ (nat_eq id q ≡ false) → row es' q ≡ Some r → IsRow indexed (get p' r.slot) ids q r
    by_case q r (inl y) e =
        let g : Some k ≡ Some r = ap (λ b. cond b (Some k) (row es q)) (sym y) ∙ sym (rows q) ∙ e in
        subst (λ z. IsRow indexed (get p' z.slot) ids q z) (same_Some k r g) (subst (λ z. IsRow indexed (get p' k.slot) ids z k) (eqb-true id q y) here)
    by_case q r (inr n) e =
        let g : row es q ≡ Some r = ap (λ b. cond b (Some k) (row es q)) (sym n) ∙ sym (rows q) ∙ e in
        subst (λ z. IsRow indexed z ids q r) (sym (entries q r n g)) (h q r g)

rows_cut : {indexed : Bool} (p p' : Entries) (es es' : Table) (ids : List SlotInfo) (id : ℕ)
    → ((q : ℕ) → row es' q ≡ cond (nat_eq id q) None (row es q))
    → ((q : ℕ) (r : ClauseRow) → nat_eq id q ≡ false → row es q ≡ Some r → get p' r.slot ≡ get p r.slot)
    → AreRows indexed p ids es → AreRows indexed p' ids es'
rows_cut {indexed} p p' es es' ids id rows entries h = λ q r e. by_case q r (cases_Bool (nat_eq id q)) e
  where
    by_case : (q : ℕ) (r : ClauseRow) → (nat_eq id q ≡ true) ⊎ (nat_eq id q ≡ false) → row es' q ≡ Some r → IsRow indexed (get p' r.slot) ids q r
    by_case q r (inl y) e =
        let g : None ≡ Some r = ap (λ b. cond b None (row es q)) (sym y) ∙ sym (rows q) ∙ e in absurd (none-some r g)
    by_case q r (inr n) e =
        let g : row es q ≡ Some r = ap (λ b. cond b None (row es q)) (sym n) ∙ sym (rows q) ∙ e in
        subst (λ z. IsRow indexed z ids q r) (sym (entries q r n g)) (h q r g)

-- ---- The indices

-- an index with a pair, and the row of its id as it stands
index_put : {indexed : Bool} (ids : List SlotInfo) (state : Bool) (s s' : Pairs) (es es' : Table) (key id : ℕ) (k : ClauseRow) → IsIndex indexed ids state s es
    → (IsTrue indexed → (c i : ℕ) → has_pair s' c i ≡ ((nat_eq key c && nat_eq id i) || has_pair s c i))
    → ((q : ℕ) → row es' q ≡ cond (nat_eq id q) (Some k) (row es q))
    → (IsTrue indexed → (noted ids k.slot).key ≡ key) → is_state state k.active ≡ true → ((c : ℕ) → stands ids state c (row es id) ≡ false)
    → IsIndex indexed ids state s' es'
index_put ids state s s' es es' key id k h pairs rows keyed_if on off = λ t c q. pairs t c q ∙ ap (λ b. (nat_eq key c && nat_eq id q) || b) (h t c q) ∙ at (keyed_if t) c q ∙ ap (stands ids state c) (sym (rows q))
  where
    at : (noted ids k.slot).key ≡ key → (c q : ℕ) → ((nat_eq key c && nat_eq id q) || stands ids state c (row es q)) ≡ stands ids state c (cond (nat_eq id q) (Some k) (row es q))
    at keyed c q = elim (cases_Bool (nat_eq id q)) [
      | inl y ↦ let o : stands ids state c (row es q) ≡ false = subst (λ z. stands ids state c (row es z) ≡ false) (eqb-true id q y) (off c) in rw (y, o, keyed, on) (regroup (nat_eq key c))
      | inr n ↦ rw n (drop_and (nat_eq key c) (stands ids state c (row es q)))
    ]
      where
        regroup : (b : Bool) → ((b && true) || false) ≡ (b && true)
        regroup true = refl
        regroup false = refl

        drop_and : (b d : Bool) → ((b && false) || d) ≡ d
        drop_and true d = refl
        drop_and false d = refl

-- an index without the pair of a row that has left its state
index_cut : {indexed : Bool} (ids : List SlotInfo) (state : Bool) (s s' : Pairs) (es es' : Table) (key id : ℕ) (k : ClauseRow) → IsIndex indexed ids state s es
    → row es id ≡ Some k → (IsTrue indexed → (noted ids k.slot).key ≡ key)
    → (IsTrue indexed → (c i : ℕ) → has_pair s' c i ≡ (not (nat_eq key c && nat_eq id i) && has_pair s c i))
    → ((c : ℕ) → stands ids state c (row es' id) ≡ false) → ((q : ℕ) → nat_eq id q ≡ false → row es' q ≡ row es q)
    → IsIndex indexed ids state s' es'
index_cut ids state s s' es es' key id k h here keyed_if pairs off others = λ t c q. pairs t c q ∙ ap (λ b. not (nat_eq key c && nat_eq id q) && b) (h t c q) ∙ at (keyed_if t) c q
  where
    gone : (a b : Bool) → (not (a && true) && (a && b)) ≡ false
    gone true b = refl
    gone false b = refl

    stays : (a b : Bool) → (not (a && false) && b) ≡ b
    stays true b = refl
    stays false b = refl

    at : (noted ids k.slot).key ≡ key → (c q : ℕ) → (not (nat_eq key c && nat_eq id q) && stands ids state c (row es q)) ≡ stands ids state c (row es' q)
    at keyed c q = elim (cases_Bool (nat_eq id q)) [
      | inl y ↦ let f : row es q ≡ Some k = subst (λ z. row es z ≡ Some k) (eqb-true id q y) here in
          let o : stands ids state c (row es' q) ≡ false = subst (λ z. stands ids state c (row es' z) ≡ false) (eqb-true id q y) (off c) in rw (y, f, o, keyed) (gone (nat_eq key c) (is_state state k.active))
      | inr n ↦ rw (n, others q n) (stays (nat_eq key c) (stands ids state c (row es q)))
    ]

-- an index that a change of one row doesn't touch
index_kept : {indexed : Bool} (ids : List SlotInfo) (state : Bool) (s : Pairs) (es es' : Table) (id : ℕ) → IsIndex indexed ids state s es
    → ((c : ℕ) → stands ids state c (row es' id) ≡ stands ids state c (row es id)) → ((q : ℕ) → nat_eq id q ≡ false → row es' q ≡ row es q)
    → IsIndex indexed ids state s es'
index_kept ids state s es es' id h here others = λ t c q. h t c q ∙ at c q
  where
    at : (c q : ℕ) → stands ids state c (row es q) ≡ stands ids state c (row es' q)
    at c q = elim (cases_Bool (nat_eq id q)) [
      | inl y ↦ sym (subst (λ z. stands ids state c (row es' z) ≡ stands ids state c (row es z)) (eqb-true id q y) (here c))
      | inr n ↦ ap (stands ids state c) (sym (others q n))
    ]

-- ---- What a row says of the map

-- the row in a state with a slot
pub record Found (state : Bool) (o : Option ClauseRow) (s : ℕ) : Type 0 where
  pub k : ClauseRow
  pub is : o ≡ Some k
  pub on : is_state state k.active ≡ true
  pub slot : k.slot ≡ s

pub found : (state : Bool) (o : Option ClauseRow) (s : ℕ) → row_slot state o ≡ Some s → Found state o s
found state None s e = absurd (none-some s e)
found state (Some k) s e = elim (cases_Bool (is_state state k.active)) [
  | inl y ↦ record { k = k; is = refl; on = y; slot = same_Some k.slot s (let f : Some k.slot ≡ Some s = rw y at e in f) }
  | inr n ↦ absurd (none-some s (let f : None ≡ Some s = rw n at e in f))
]

slot_of_row : (p : Entries) (o : Option ClauseRow) → option_map (λ z. z.slot) (option_and_then (λ h. h.place) (option_map (λ k. held_of (get p k.slot) k) o)) ≡ row_slot true o
slot_of_row p None = refl
slot_of_row p (Some k) = elim (cases_Bool k.active) [ inl y ↦ rw y refl | inr n ↦ rw n refl ]

pub slot_at-row : (p : Entries) (es : Table) (q : ℕ) → slot_at (store_of p es) q ≡ row_slot true (row es q)
slot_at-row p es q = ap (λ o. option_map (λ z. z.slot) (option_and_then (λ h. h.place) o)) (get-store_of p es q) ∙ slot_of_row p (row es q)

pub held-row : (p : Entries) (es : Table) (q : ℕ) → is_held (store_of p es) q ≡ is_some (row es q)
held-row p es q = ap is_some (get-store_of p es q) ∙ mapped (row es q)
  where
    mapped : (o : Option ClauseRow) → is_some (option_map (λ k. held_of (get p k.slot) k) o) ≡ is_some o
    mapped None = refl
    mapped (Some k) = refl

pub weakened-row : (p : Entries) (es : Table) (q : ℕ) → is_weakened (store_of p es) q ≡ is_some (row_slot false (row es q))
weakened-row p es q = ap (λ b. b && not (is_active (store_of p es) q)) (held-row p es q) ∙ ap (λ o. is_some (row es q) && not (is_some o)) (slot_at-row p es q) ∙ by_row (row es q)
  where
    by_row : (o : Option ClauseRow) → (is_some o && not (is_some (row_slot true o))) ≡ is_some (row_slot false o)
    by_row None = refl
    by_row (Some k) = elim (cases_Bool k.active) [ inl y ↦ rw y refl | inr n ↦ rw n refl ]

pub literals_at-row : (p : Entries) (es : Table) (q : ℕ) → literals_at (store_of p es) q ≡ unwrap_or (literals_in p es q) []
literals_at-row p es q = ap (λ o. unwrap_or (option_map (λ h. h.literals) o) []) (get-store_of p es q) ∙ by_row (row es q)
  where
    by_row : (o : Option ClauseRow) → unwrap_or (option_map (λ h. h.literals) (option_map (λ k. held_of (get p k.slot) k) o)) [] ≡ unwrap_or (option_map (λ k. set_of (entry_of (get p k.slot)).lits) o) []
    by_row None = refl
    by_row (Some k) = refl

pub lits_at-row : (p : Entries) (es : Table) (q s : ℕ) → row_slot true (row es q) ≡ Some s → lits_at (store_of p es) q ≡ (entry_of (get p s)).lits
lits_at-row p es q s e =
    ap (λ o. unwrap_or (option_map (λ z. z.lits) (option_and_then (λ h. h.place) o)) []) (get-store_of p es q) ∙ by_row (row es q) e
  where
    by_row : (o : Option ClauseRow) → row_slot true o ≡ Some s → unwrap_or (option_map (λ z. z.lits) (option_and_then (λ h. h.place) (option_map (λ k. held_of (get p k.slot) k) o))) [] ≡ (entry_of (get p s)).lits
    by_row None f = absurd (none-some s f)
    by_row (Some k) f = elim (cases_Bool k.active) [
      | inl y ↦ let g : Some k.slot ≡ Some s = rw y at f in rw y (ap (λ z. (entry_of (get p z)).lits) (same_Some k.slot s g))
      | inr n ↦ let g : None ≡ Some s = rw n at f in absurd (none-some s g)
    ]

pub pooled : {indexed : Bool} (p : Entries) (es : Table) (ids : List SlotInfo) → AreRows indexed p ids es → ArePooled p es
pooled p es ids h = λ q k e. let r = h q k e in (r.live, r.once)

pub set_of_set : (ls : List ℕ) → set_of (set_of ls) ≡ set_of ls
set_of_set ls = sym (set_of-unique (set_of ls) (set_of ls) (ascends_set_of ls) (λ l. refl))

pub is_store : {indexed : Bool} (p : Entries) (es : Table) (ids : List SlotInfo) → AreRows indexed p ids es → IsStore (store_of p es)
is_store p es ids h = record { slots_apart = apart; same_literals = lists; sets = sets }
  where
    apart : (a b s : ℕ) → slot_at (store_of p es) a ≡ Some s → slot_at (store_of p es) b ≡ Some s → a ≡ b
    apart a b s e f =
        let x = found true (row es a) s (sym (slot_at-row p es a) ∙ e) in
        let y = found true (row es b) s (sym (slot_at-row p es b) ∙ f) in
        elim (cases_Bool (nat_eq b a)) [
          | inl t ↦ sym (eqb-true b a t)
          | inr n ↦ absurd (slots_differ p es ids a b x.k y.k h n x.is y.is (x.slot ∙ sym y.slot))
        ]

    listed : (o : Option ClauseRow) (c : ClauseEntry) (z : Place) → ((k : ClauseRow) → o ≡ Some k → IsOnce (entry_of (get p k.slot)).lits) → option_map (λ k. held_of (get p k.slot) k) o ≡ Some c → c.place ≡ Some z → (set_of z.lits ≡ c.literals) × IsOnce z.lits
    listed None c z once e f = absurd (none-some c e)
    listed (Some k) c z once e f =
        let here : held_of (get p k.slot) k ≡ c = same_Some _ c e in
        let g : (held_of (get p k.slot) k).place ≡ Some z = ap (λ h. h.place) here ∙ f in
        elim (cases_Bool k.active) [
          | inl y ↦ let place : Some (place_of (entry_of (get p k.slot)) k.slot) ≡ Some z = rw y at g in
              let lits : (entry_of (get p k.slot)).lits ≡ z.lits = ap (λ w. w.lits) (same_Some _ z place) in
              (ap set_of (sym lits) ∙ ap (λ w. w.literals) here, subst IsOnce lits (once k refl))
          | inr n ↦ let none : None ≡ Some z = rw n at g in absurd (none-some z none)
        ]

    lists : (id : ℕ) (c : ClauseEntry) (z : Place) → get (store_of p es) id ≡ Some c → c.place ≡ Some z → (set_of z.lits ≡ c.literals) × IsOnce z.lits
    lists id c z e f = listed (row es id) c z (λ k r. (h id k r).once) (sym (get-store_of p es id) ∙ e) f

    ascending : (o : Option ClauseRow) (c : ClauseEntry) → option_map (λ k. held_of (get p k.slot) k) o ≡ Some c → set_of c.literals ≡ c.literals
    ascending None c e = absurd (none-some c e)
    ascending (Some k) c e = let here : held_of (get p k.slot) k ≡ c = same_Some _ c e in subst (λ w. set_of w.literals ≡ w.literals) here (set_of_set (entry_of (get p k.slot)).lits)

    sets : (id : ℕ) (c : ClauseEntry) → get (store_of p es) id ≡ Some c → set_of c.literals ≡ c.literals
    sets id c e = ascending (row es id) c (sym (get-store_of p es id) ∙ e)

-- ---- Ids by set

-- the set of a row in a state
row_literals : (state : Bool) (p : Entries) (es : Table) (set : List ℕ) (i : ℕ) → is_some (row_slot state (row es i)) ≡ true → literals_at (store_of p es) i ≡ set → literals_in p es i ≡ Some set
row_literals state p es set i on e = lits (row es i) on (sym (literals_at-row p es i) ∙ e)
  where
    lits : (o : Option ClauseRow) → is_some (row_slot state o) ≡ true → unwrap_or (option_map (λ k. set_of (entry_of (get p k.slot)).lits) o) [] ≡ set → option_map (λ k. set_of (entry_of (get p k.slot)).lits) o ≡ Some set
    lits None f g = cc
    lits (Some k) f g = ap (λ z. Some z) g

-- a pair of an index whose row has the set is that of an id in this state
pub index_at : {indexed : Bool} (ids : List SlotInfo) (state : Bool) (p : Entries) (es : Table) (s : Pairs) (set : List ℕ) (i : ℕ) → IsIndex indexed ids state s es → IsTrue indexed
    → has_pair s (key_of set) i ≡ true → literals_in p es i ≡ Some set → IsRowWith state p es set i
index_at ids state p es s set i h t m e = (on (row es i) (sym (h t (key_of set) i) ∙ m), e)
  where
    on : (o : Option ClauseRow) → stands ids state (key_of set) o ≡ true → is_some (row_slot state o) ≡ true
    on None f = cc
    on (Some k) f = let g : is_state state k.active ≡ true = (and_parts (nat_eq (noted ids k.slot).key (key_of set)) _ f).1 in rw g refl

-- the index has the id of a row in its state
pub index_from : {indexed : Bool} (state : Bool) (p : Entries) (es : Table) (ids : List SlotInfo) (s : Pairs) (set : List ℕ) (i : ℕ) → AreRows indexed p ids es → IsIndex indexed ids state s es → IsTrue indexed
    → IsRowWith state p es set i → has_pair s (key_of set) i ≡ true
index_from state p es ids s set i rows h t w = h t (key_of set) i ∙ stand (row es i) refl w.0 w.1
  where
    stand : (o : Option ClauseRow) → row es i ≡ o → is_some (row_slot state o) ≡ true → option_map (λ k. set_of (entry_of (get p k.slot)).lits) o ≡ Some set → stands ids state (key_of set) o ≡ true
    stand None r f g = cc
    stand (Some k) r f g =
        let keyed : (noted ids k.slot).key ≡ key_of set = (rows i k r).keyed t ∙ ap key_of (same_Some _ set g) in
        elim (cases_Bool (is_state state k.active)) [
          | inl y ↦ rw (y, eq-eqb (noted ids k.slot).key (key_of set) keyed) refl
          | inr n ↦ absurd (both_ways _ (let z : false ≡ true = rw n at f in sym z) refl)
        ]

-- the id of a row is noted of a slot
pub row_noted : {indexed : Bool} (state : Bool) (p : Entries) (es : Table) (ids : List SlotInfo) (set : List ℕ) (i : ℕ) → AreRows indexed p ids es → IsRowWith state p es set i → (s : ℕ) × (s < length ids) × ((noted ids s).id ≡ i)
row_noted state p es ids set i h w = at (row es i) refl w.0
  where
    at : (o : Option ClauseRow) → row es i ≡ o → is_some (row_slot state o) ≡ true → (s : ℕ) × (s < length ids) × ((noted ids s).id ≡ i)
    at None r f = cc
    at (Some k) r f = let l = (h i k r).listed in (k.slot, l.0, l.1)

-- what is least among the ids that are noted is least among those of the rows
pub least_id : {indexed : Bool} (state : Bool) (p : Entries) (es : Table) (ids : List SlotInfo) (set : List ℕ) (i : ℕ) → AreRows indexed p ids es
    → ((s : ℕ) → s < length ids → IsRowWith state p es set (noted ids s).id → i ≤ (noted ids s).id) → (x : ℕ) → IsRowWith state p es set x → i ≤ x
least_id state p es ids set i rows h x w =
    let n = row_noted state p es ids set x rows w in
    subst (λ z. i ≤ z) n.2 (h n.0 n.1 (subst (λ z. IsRowWith state p es set z) (sym n.2) w))

-- where no id that is noted is such a row's, none is
pub none_id : {indexed : Bool} (state : Bool) (p : Entries) (es : Table) (ids : List SlotInfo) (set : List ℕ) → AreRows indexed p ids es
    → ((s : ℕ) → s < length ids → IsRowWith state p es set (noted ids s).id → ⊥) → (x : ℕ) → IsRowWith state p es set x → ⊥
none_id state p es ids set rows h x w =
    let n = row_noted state p es ids set x rows w in
    h n.0 n.1 (subst (λ z. IsRowWith state p es set z) (sym n.2) w)

-- ---- The changes

switched : (b : Bool) (es es' : Table) (id : ℕ) (k : ClauseRow) → row es id ≡ Some k
    → ((q : ℕ) → row es' q ≡ cond (nat_eq id q) (option_map (with_state b) (row es q)) (row es q))
    → (q : ℕ) → row es' q ≡ cond (nat_eq id q) (Some (with_state b k)) (row es q)
switched b es es' id k here rows q = rows q ∙ elim (cases_Bool (nat_eq id q)) [
  | inl y ↦ let f : row es q ≡ Some k = subst (λ z. row es z ≡ Some k) (eqb-true id q y) here in rw (y, f) refl
  | inr n ↦ rw n refl
]

others_of : (es es' : Table) (id : ℕ) (o : Option ClauseRow) → ((q : ℕ) → row es' q ≡ cond (nat_eq id q) o (row es q)) → (q : ℕ) → nat_eq id q ≡ false → row es' q ≡ row es q
others_of es es' id o rows q n = rows q ∙ ap (λ b. cond b o (row es q)) n

here_of : (es es' : Table) (id : ℕ) (o : Option ClauseRow) → ((q : ℕ) → row es' q ≡ cond (nat_eq id q) o (row es q)) → row es' id ≡ o
here_of es es' id o rows = rows id ∙ ap (λ b. cond b o (row es id)) (eq-eqb id id refl)

-- what is known when a row is entered
pub record Adds (indexed : Bool) (p : Entries) (es es' : Table) (a a' w : Pairs) (ids : List SlotInfo) (id key s : ℕ) (ls : List ℕ) : Type 0 where
  pub inside : IsStoreInside indexed p es a w ids
  pub dead : get p s ≡ None
  pub listed : (s < length ids) × (noted ids s ≡ record { id = id; key = key })
  pub free : row es id ≡ None
  pub keyed : IsTrue indexed → key ≡ key_of (set_of ls)
  pub rows : (q : ℕ) → row es' q ≡ cond (nat_eq id q) (Some (record { slot = s; active = true })) (row es q)
  pub pairs : IsTrue indexed → (k i : ℕ) → has_pair a' k i ≡ ((nat_eq key k && nat_eq id i) || has_pair a k i)

module _ {indexed : Bool} (p : Entries) (es es' : Table) (a a' w : Pairs) (ids : List SlotInfo) (id key s : ℕ) (ls : List ℕ) (h : Adds indexed p es es' a a' w ids id key s ls) where
  entries-added : (q : ℕ) (r : ClauseRow) → nat_eq id q ≡ false → row es q ≡ Some r → get (insert p s (new_entry (firsts ls))) r.slot ≡ get p r.slot
  entries-added q r n e = get_insert_other p s r.slot (new_entry (firsts ls)) (slot_dead p es ids s q r h.inside.rows h.dead e)

  pub store-added : store_of (insert p s (new_entry (firsts ls))) es' ≡ insert (store_of p es) id (new_clause ls s)
  store-added =
      let k : ClauseRow = record { slot = s; active = true } in
      let e : get (insert p s (new_entry (firsts ls))) s ≡ Some (new_entry (firsts ls)) = get_insert_same p s (new_entry (firsts ls)) in
      store_put p (insert p s (new_entry (firsts ls))) es es' id k (new_clause ls s) h.rows entries-added
      (ap (λ o. held_of o k) e ∙ (λ i. active_entry (set_of-firsts ls i) (firsts ls) s))

  pub inside-added : IsStoreInside indexed (insert p s (new_entry (firsts ls))) es' a' w ids
  inside-added =
      let k : ClauseRow = record { slot = s; active = true } in
      let e : get (insert p s (new_entry (firsts ls))) s ≡ Some (new_entry (firsts ls)) = get_insert_same p s (new_entry (firsts ls)) in
      let r : IsRow indexed (Some (new_entry (firsts ls))) ids id k = record { live = refl; listed = (h.listed.0, ap (λ z. z.id) h.listed.1); once = once-firsts ls [] tt; keyed = λ t. ap (λ z. z.key) h.listed.1 ∙ h.keyed t ∙ ap key_of (sym (set_of-firsts ls)) } in
      record {
        rows = rows_put p (insert p s (new_entry (firsts ls))) es es' ids id k h.rows entries-added (subst (λ o. IsRow indexed o ids id k) (sym e) r) h.inside.rows;
        active_index = index_put ids true a a' es es' key id k h.inside.active_index h.pairs h.rows (λ t. ap (λ z. z.key) h.listed.1) refl (λ c. ap (stands ids true c) h.free);
        weakened_index = index_kept ids false w es es' id h.inside.weakened_index
            (λ c. ap (stands ids false c) (here_of es es' id (Some k) h.rows) ∙ and_false (nat_eq (noted ids s).key c) ∙ sym (ap (stands ids false c) h.free)) (others_of es es' id (Some k) h.rows);
      }
    where
      and_false : (b : Bool) → (b && false) ≡ false
      and_false true = refl
      and_false false = refl

  pub fresh-added : IsFresh (store_of p es) s
  fresh-added q e =
      let f = found true (row es q) s (sym (slot_at-row p es q) ∙ e) in slot_dead p es ids s q f.k h.inside.rows h.dead f.is f.slot

-- what is known when an active row leaves
pub record Cuts (indexed : Bool) (p : Entries) (es es' : Table) (a a' w : Pairs) (ids : List SlotInfo) (id key : ℕ) (k : ClauseRow) : Type 0 where
  pub inside : IsStoreInside indexed p es a w ids
  pub here : row es id ≡ Some k
  pub on : k.active ≡ true
  pub keyed : IsTrue indexed → (noted ids k.slot).key ≡ key
  pub rows : (q : ℕ) → row es' q ≡ cond (nat_eq id q) None (row es q)
  pub pairs : IsTrue indexed → (c i : ℕ) → has_pair a' c i ≡ (not (nat_eq key c && nat_eq id i) && has_pair a c i)

module _ {indexed : Bool} (p : Entries) (es es' : Table) (a a' w : Pairs) (ids : List SlotInfo) (id key : ℕ) (k : ClauseRow) (h : Cuts indexed p es es' a a' w ids id key k) where
  entries-cut : (q : ℕ) (r : ClauseRow) → nat_eq id q ≡ false → row es q ≡ Some r → get (remove p k.slot) r.slot ≡ get p r.slot
  entries-cut q r n e = get_remove_other p k.slot r.slot (slots_differ p es ids q id r k h.inside.rows n e h.here)

  pub store-cut : store_of (remove p k.slot) es' ≡ remove (store_of p es) id
  store-cut = store_cut p (remove p k.slot) es es' id h.rows entries-cut

  pub inside-cut : IsStoreInside indexed (remove p k.slot) es' a' w ids
  inside-cut = record {
    rows = rows_cut p (remove p k.slot) es es' ids id h.rows entries-cut h.inside.rows;
    active_index = index_cut ids true a a' es es' key id k h.inside.active_index h.here h.keyed h.pairs (λ c. ap (stands ids true c) (here_of es es' id None h.rows)) (others_of es es' id None h.rows);
    weakened_index = index_kept ids false w es es' id h.inside.weakened_index
        (λ c. ap (stands ids false c) (here_of es es' id None h.rows) ∙ sym (ap (stands ids false c) h.here ∙ ap (λ b. nat_eq (noted ids k.slot).key c && is_state false b) h.on ∙ and_false (nat_eq (noted ids k.slot).key c))) (others_of es es' id None h.rows);
  }
    where
      and_false : (b : Bool) → (b && false) ≡ false
      and_false true = refl
      and_false false = refl

-- what is known when a row goes from one state to the other
pub record Switches (indexed : Bool) (p : Entries) (es es' : Table) (from from' to to' : Pairs) (ids : List SlotInfo) (id key : ℕ) (k : ClauseRow) (b : Bool) : Type 0 where
  pub all : AreRows indexed p ids es
  pub from_index : IsIndex indexed ids (not b) from es
  pub to_index : IsIndex indexed ids b to es
  pub here : row es id ≡ Some k
  pub keyed : IsTrue indexed → (noted ids k.slot).key ≡ key
  pub off : k.active ≡ not b
  pub rows : (q : ℕ) → row es' q ≡ cond (nat_eq id q) (option_map (with_state b) (row es q)) (row es q)
  pub cut : IsTrue indexed → (c i : ℕ) → has_pair from' c i ≡ (not (nat_eq key c && nat_eq id i) && has_pair from c i)
  pub put : IsTrue indexed → (c i : ℕ) → has_pair to' c i ≡ ((nat_eq key c && nat_eq id i) || has_pair to c i)

is_state-itself : (b : Bool) → is_state b b ≡ true
is_state-itself true = refl
is_state-itself false = refl

is_state-other : (b : Bool) → is_state b (not b) ≡ false
is_state-other true = refl
is_state-other false = refl

is_state-back : (b : Bool) → is_state (not b) b ≡ false
is_state-back true = refl
is_state-back false = refl

and_none : (a b : Bool) → b ≡ false → (a && b) ≡ false
and_none true b e = e
and_none false b e = refl

module _ {indexed : Bool} (p p' : Entries) (es es' : Table) (from from' to to' : Pairs) (ids : List SlotInfo) (id key : ℕ) (k : ClauseRow) (b : Bool) (h : Switches indexed p es es' from from' to to' ids id key k b)
    (entries : (t : ℕ) → t ≢ k.slot → get p' t ≡ get p t) (e : Entry) (here : get p' k.slot ≡ Some e) (lits : e.lits ≡ (entry_of (get p k.slot)).lits) where
  entries-switched : (q : ℕ) (r : ClauseRow) → nat_eq id q ≡ false → row es q ≡ Some r → get p' r.slot ≡ get p r.slot
  entries-switched q r n f = entries r.slot (slots_differ p es ids q id r k h.all n f h.here)

  rows-switched : (q : ℕ) → row es' q ≡ cond (nat_eq id q) (Some (with_state b k)) (row es q)
  rows-switched = switched b es es' id k h.here h.rows

  pub store-switched : (c : ClauseEntry) → held_of (Some e) (with_state b k) ≡ c → store_of p' es' ≡ insert (store_of p es) id c
  store-switched c f = store_put p p' es es' id (with_state b k) c rows-switched entries-switched (ap (λ o. held_of o (with_state b k)) here ∙ f)

  pub all-switched : AreRows indexed p' ids es'
  all-switched =
      let r = h.all id k h.here in
      let n : IsRow indexed (Some e) ids id (with_state b k) = record { live = refl; listed = r.listed; once = subst IsOnce (sym lits) r.once; keyed = λ t. r.keyed t ∙ ap (λ z. key_of (set_of z)) (sym lits) } in
      rows_put p p' es es' ids id (with_state b k) rows-switched entries-switched (subst (λ o. IsRow indexed o ids id (with_state b k)) (sym here) n) h.all

  pub to-switched : IsIndex indexed ids b to' es'
  to-switched = index_put ids b to to' es es' key id (with_state b k) h.to_index h.put rows-switched h.keyed (is_state-itself b)
      (λ c. ap (stands ids b c) h.here ∙ and_none (nat_eq (noted ids k.slot).key c) (is_state b k.active) (ap (is_state b) h.off ∙ is_state-other b))

  pub from-switched : IsIndex indexed ids (not b) from' es'
  from-switched = index_cut ids (not b) from from' es es' key id k h.from_index h.here h.keyed h.cut
      (λ c. ap (stands ids (not b) c) (here_of es es' id (Some (with_state b k)) rows-switched) ∙ and_none (nat_eq (noted ids k.slot).key c) (is_state (not b) b) (is_state-back b)) (others_of es es' id (Some (with_state b k)) rows-switched)

-- ---- At a slot

pub listed_at : {indexed : Bool} (p : Entries) (es : Table) (ids : List SlotInfo) (m : Store) (id s : ℕ) → store_of p es ≡ m → AreRows indexed p ids es → slot_at m id ≡ Some s → IsListed ids s id
listed_at p es ids m id s v h e =
    let f = found true (row es id) s (sym (slot_at-row p es id) ∙ ap (λ z. slot_at z id) v ∙ e) in
    subst (λ z. IsListed ids z id) f.slot (h id f.k f.is).listed

-- the slot of a row in a state is noted
pub within_noted : {indexed : Bool} (state : Bool) (p : Entries) (es : Table) (ids : List SlotInfo) (id s : ℕ) → AreRows indexed p ids es → row_slot state (row es id) ≡ Some s → s < length ids
within_noted state p es ids id s h e = let f = found state (row es id) s e in subst (λ z. z < length ids) f.slot (h id f.k f.is).listed.0

pub live_at : {indexed : Bool} (p : Entries) (es : Table) (ids : List SlotInfo) (m : Store) (id s : ℕ) → store_of p es ≡ m → AreRows indexed p ids es → slot_at m id ≡ Some s → is_some (get p s) ≡ true
live_at p es ids m id s v h e =
    let f = found true (row es id) s (sym (slot_at-row p es id) ∙ ap (λ z. slot_at z id) v ∙ e) in
    subst (λ z. is_some (get p z) ≡ true) f.slot (h id f.k f.is).live

-- ---- The least id of a set

-- a row of this id with this set
module _ (p : Entries) (es : Table) (m : Store) (set : List ℕ) (v : store_of p es ≡ m) where
  -- an id of a row in a state with this set is that of a clause
  pub active_row : (i : ℕ) → IsRowWith true p es set i → IsActiveWith m set i
  active_row i g = subst (λ z. IsActiveWith z set i) v (ap is_some (slot_at-row p es i) ∙ g.0, literals_at-row p es i ∙ ap (λ o. unwrap_or o []) g.1)

  pub row_active : (i : ℕ) → IsActiveWith m set i → IsRowWith true p es set i
  row_active i g = let q : IsActiveWith (store_of p es) set i = subst (λ z. IsActiveWith z set i) (sym v) g in
      let on : is_some (row_slot true (row es i)) ≡ true = sym (ap is_some (slot_at-row p es i)) ∙ q.0 in
      (on, row_literals true p es set i on q.1)

  pub weakened_row : (i : ℕ) → IsRowWith false p es set i → IsWeakenedWith m set i
  weakened_row i g = subst (λ z. IsWeakenedWith z set i) v (weakened-row p es i ∙ g.0, literals_at-row p es i ∙ ap (λ o. unwrap_or o []) g.1)

  pub row_weakened : (i : ℕ) → IsWeakenedWith m set i → IsRowWith false p es set i
  row_weakened i g = let q : IsWeakenedWith (store_of p es) set i = subst (λ z. IsWeakenedWith z set i) (sym v) g in
      let on : is_some (row_slot false (row es i)) ≡ true = sym (weakened-row p es i) ∙ q.0 in
      (on, row_literals false p es set i on q.1)

-- ---- Answers by case

pub some_of : (P Q : ℕ → Type 0) (o : Option ℕ) → IfSome o P → ((i : ℕ) → P i → Q i) → IfSome o Q
some_of P Q None h f = tt
some_of P Q (Some i) h f = f i h

pub none_of : (P Q : Type 0) (o : Option ℕ) → IfNone o P → (P → Q) → IfNone o Q
none_of P Q None h f = f h
none_of P Q (Some i) h f = tt

pub on_err : {T E : Type 0} (r : Result T E) (P : Type 0) → is_err r ≡ true → OnErr r P → P
on_err (Ok x) P e h = absurd (both_ways false refl e)
on_err (Err x) P e h = h

pub on_ok : {T E : Type 0} (r : Result T E) (P : Type 0) → is_err r ≡ false → OnOk r P → P
on_ok (Ok x) P e h = h
on_ok (Err x) P e h = absurd (both_ways true e refl)

pub live_added : (p p' : Entries) (s : ℕ) (e : Entry) → p' ≡ insert p s e → is_some (get p' s) ≡ true
live_added p p' s e h = ap (λ z. is_some (get z s)) h ∙ ap is_some (get_insert_same p s e)

pub freed_again : (p q r : Entries) (s : ℕ) (e : Entry) → get p s ≡ None → q ≡ insert p s e → r ≡ remove q s → p ≡ r
freed_again p q r s e dead f g = sym (g ∙ ap (λ z. remove z s) f ∙ freed p s e dead)

pub free_row : (es : Table) (q : ℕ) → is_some (row es q) ≡ false → row es q ≡ None
free_row es q = by_row (row es q)
  where
    by_row : (o : Option ClauseRow) → is_some o ≡ false → o ≡ None
    by_row None e = refl
    by_row (Some k) e = absurd (both_ways true e refl)

-- ---- A row's entry

pub entry_live : {indexed : Bool} (p : Entries) (es : Table) (ids : List SlotInfo) (id : ℕ) (k : ClauseRow) → AreRows indexed p ids es → row es id ≡ Some k → (e : Entry) × (get p k.slot ≡ Some e)
entry_live p es ids id k h r = of (get p k.slot) (h id k r).live
  where
    of : (o : Option Entry) → is_some o ≡ true → (e : Entry) × (o ≡ Some e)
    of None f = cc
    of (Some e) f = (e, refl)

-- the literal set of a row
pub literals_here : (p : Entries) (es : Table) (m : Store) (id : ℕ) (k : ClauseRow) (e : Entry) → store_of p es ≡ m → row es id ≡ Some k → get p k.slot ≡ Some e → set_of e.lits ≡ literals_at m id
literals_here p es m id k e v r g =
    ap (λ o. set_of (entry_of o).lits) (sym g) ∙ sym (ap (λ o. unwrap_or (option_map (λ k. set_of (entry_of (get p k.slot)).lits) o) []) r) ∙ sym (literals_at-row p es id) ∙ ap (λ z. literals_at z id) v

-- the slot that keeps a row's clause
pub kept_here : (p : Entries) (es : Table) (m : Store) (id : ℕ) (k : ClauseRow) → store_of p es ≡ m → row es id ≡ Some k → k.slot ≡ kept_at m id
kept_here p es m id k v r = sym (ap (λ o. unwrap_or (option_map (λ h. h.slot) (option_map (λ k. held_of (get p k.slot) k) o)) 0) r)
    ∙ sym (ap (λ o. unwrap_or (option_map (λ h. h.slot) o) 0) (get-store_of p es id)) ∙ ap (λ z. kept_at z id) v

pub is_off : (b : Bool) → is_state false b ≡ true → b ≡ false
is_off true h = sym h
is_off false h = refl

-- an entry without its links
pub unlinked_other : (p : Entries) (s t : ℕ) → t ≢ s → get (with_link (with_link p s which.One None) s which.Two None) t ≡ get p t
unlinked_other p s t ne = get_insert_other (with_link p s which.One None) s t _ ne ∙ get_insert_other p s t _ ne

pub unlinked_at : (p : Entries) (s : ℕ) (e : Entry) → get p s ≡ Some e → get (with_link (with_link p s which.One None) s which.Two None) s ≡ Some (record { lits = e.lits; one = None; two = None })
unlinked_at p s e g =
    let first : entry_at (with_link p s which.One None) s ≡ record { lits = e.lits; one = None; two = e.two } =
    ap entry_of (get_insert_same p s _) ∙ ap (λ o. record { lits = (entry_of o).lits; one = None; two = (entry_of o).two }) g in
    get_insert_same (with_link p s which.One None) s _ ∙ ap (λ z. Some (record { lits = z.lits; one = z.one; two = None })) first

-- a slot of a weakened row is no active clause's
pub is_fresh : {indexed : Bool} (p : Entries) (es : Table) (ids : List SlotInfo) (id : ℕ) (k : ClauseRow) → AreRows indexed p ids es → row es id ≡ Some k → is_state false k.active ≡ true → IsFresh (store_of p es) k.slot
is_fresh p es ids id k h r off q e =
    let f = found true (row es q) k.slot (sym (slot_at-row p es q) ∙ e) in
    elim (cases_Bool (nat_eq id q)) [
      | inl y ↦ let same_row : Some f.k ≡ Some k = sym f.is ∙ ap (row es) (sym (eqb-true id q y)) ∙ r in
          both_ways _ (is_off k.active off) (sym (ap (λ z. z.active) (same_Some f.k k same_row)) ∙ f.on)
      | inr n ↦ slots_differ p es ids q id f.k k h n f.is r f.slot
    ]

pub restored : {indexed : Bool} (p : Entries) (es : Table) (ids : List SlotInfo) (m : Store) (id : ℕ) (k : ClauseRow) (e : Entry) → store_of p es ≡ m → AreRows indexed p ids es → row es id ≡ Some k → is_state false k.active ≡ true → get p k.slot ≡ Some e
    → (n : Store) → ((c : ClauseEntry) → held_of (Some (record { lits = e.lits; one = None; two = None })) (with_state true k) ≡ c → n ≡ insert (store_of p es) id c) → IsRestored m id n
restored p es ids m id k e v h r off g n change =
    let set : set_of e.lits ≡ literals_at m id = literals_here p es m id k e v r g in
    record {
      slot = k.slot;
      lits = e.lits;
      same_slot = kept_here p es m id k v r;
      fresh = subst (λ z. IsFresh z k.slot) v (is_fresh p es ids id k h r off);
      once = subst (λ o. IsOnce (entry_of o).lits) g (h id k r).once;
      same_literals = set;
      changed = change (active_entry (literals_at m id) e.lits k.slot) (λ i. active_entry (set i) e.lits k.slot) ∙ ap (λ z. insert z id (active_entry (literals_at m id) e.lits k.slot)) v;
    }

pub live_found : (p p' : Entries) (s : ℕ) (e : Entry) → p' ≡ insert p s e → is_some (get p' s) ≡ true
live_found p p' s e h = live_added p p' s e h
