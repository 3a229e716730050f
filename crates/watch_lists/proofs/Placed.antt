-- The clause at a slot, and stores in which one clause was changed.
use Rattle.std.proofs.Common.{◌≡◌, ◌≢◌, ℕ, ◌<◌, List, [], ◌∷◌, length, Option, Some, None, refl, sym, ap, ◌∙◌, subst, inl, inr, cond, true, false, Bool, nat_eq, ◌||◌, eqb-true, eq-eqb}
use Rattle.std.specs.Prelude.{is_some, option_map, option_and_then, unwrap_or}
use Rattle.std.proofs.lemmas.Option.{same_Some, none-some}
use Rattle.std.proofs.lemmas.Bool.{cases_Bool, both_ways}
use Rattle.std.specs.List.{list_any}
use Rattle.std.specs.Ordering.{nat_cmp, eq_by_cmp}
use Rattle.std.specs.Cmp.{unsigned_tied}
use Rattle.std.specs.FinMap.{get, insert, remove, keys, contains_key-keys}
use Rattle.lits.specs.Clause.{has, set_of}
use Rattle.lits.proofs.Ascending.{has-set_of}
use Rattle.clause_store.specs.Clauses.{ClauseEntry, Place, Store, IsOnce, IsStore, slot_at, place_at, lits_at, literals_at, clause_at, weakened_entry, swapped, with_place, with_swap}
use Rattle.clause_store.proofs.Stored.{get_put, get_cut}
use Rattle.clause_store.proofs.Changed.{swap-set, swap-once}
use Rattle.watch_lists.specs.Lists.{has_slot, id_among, id_at}
use Rattle.watch_lists.proofs.Members.{member_cases}

-- ---- The id at a slot

slot_from : (o : Option ℕ) (s : ℕ) → has_slot o s ≡ true → o ≡ Some s
slot_from None s h = cc
slot_from (Some t) s h = ap (λ z. Some z) (eqb-true t s h)

id_among-is : (m : Store) (s id : ℕ) (qs : List ℕ) → slot_at m id ≡ Some s → has qs id ≡ true → slot_at m (id_among m s qs) ≡ Some s
id_among-is m s id [] e h = cc
id_among-is m s id (q ∷ qs) e h = elim (cases_Bool (has_slot (slot_at m q) s)) [
  | inl y ↦ subst (λ b. slot_at m (cond b q (id_among m s qs)) ≡ Some s) (sym y) (slot_from (slot_at m q) s y)
  | inr n ↦ subst (λ b. slot_at m (cond b q (id_among m s qs)) ≡ Some s) (sym n) (id_among-is m s id qs e (elim (member_cases q id qs h) [
    | inl f ↦ absurd (both_ways _ (sym (ap (λ o. has_slot o s) (ap (slot_at m) (sym f) ∙ e) ∙ eq-eqb s s refl) ∙ n) refl)
    | inr f ↦ f
  ]))
]

any_tied : (id : ℕ) (qs : List ℕ) → list_any (eq_by_cmp nat_cmp id) qs ≡ has qs id
any_tied id [] = refl
any_tied id (q ∷ qs) = ap (λ b. b || list_any (eq_by_cmp nat_cmp id) qs) (unsigned_tied id q) ∙ ap (λ b. nat_eq id q || b) (any_tied id qs)

held_key : (m : Store) (id s : ℕ) → slot_at m id ≡ Some s → has (keys m) id ≡ true
held_key m id s e = sym (any_tied id (keys m)) ∙ sym (contains_key-keys m id) ∙ present (get m id) e
  where
    present : (o : Option ClauseEntry) → option_map (λ p. p.slot) (option_and_then (λ h. h.place) o) ≡ Some s → is_some o ≡ true
    present None f = absurd (none-some s f)
    present (Some h) f = refl

pub id_at-slot : (m : Store) (id s : ℕ) → slot_at m id ≡ Some s → slot_at m (id_at m s) ≡ Some s
unfolding id_at
id_at-slot m id s e = id_among-is m s id (keys m) e (held_key m id s e)

pub id_at-is : (m : Store) (id s : ℕ) → IsStore m → slot_at m id ≡ Some s → id_at m s ≡ id
id_at-is m id s h e = h.slots_apart (id_at m s) id s (id_at-slot m id s e) e

-- an active clause and its place
pub record Active (m : Store) (id s : ℕ) : Type 0 where
  pub h : ClauseEntry
  pub p : Place
  pub is : get m id ≡ Some h
  pub place : h.place ≡ Some p
  pub slot : p.slot ≡ s

pub active : (m : Store) (id s : ℕ) → slot_at m id ≡ Some s → Active m id s
active m id s e = by_clause (get m id) refl e
  where
    by_place : (h : ClauseEntry) → get m id ≡ Some h → (o : Option Place) → h.place ≡ o → option_map (λ p. p.slot) o ≡ Some s → Active m id s
    by_place h is None f g = absurd (none-some s g)
    by_place h is (Some p) f g = record { h = h; p = p; is = is; place = f; slot = same_Some p.slot s g }

    by_clause : (o : Option ClauseEntry) → get m id ≡ o → option_map (λ p. p.slot) (option_and_then (λ h. h.place) o) ≡ Some s → Active m id s
    by_clause None f g = absurd (none-some s g)
    by_clause (Some h) f g = by_place h f h.place refl g

-- ---- A clause with its place changed

pub place-changed : (m : Store) (id : ℕ) (f : Place → Place) (q : ℕ) → place_at (insert m id (with_place f (clause_at m id))) q ≡ cond (nat_eq id q) (option_map f (place_at m q)) (place_at m q)
place-changed m id f q = ap (option_and_then (λ h. h.place)) (get_put m id (with_place f (clause_at m id)) q) ∙ elim (cases_Bool (nat_eq id q)) [
  | inl y ↦ rw y (held (get m id) ∙ ap (λ z. option_map f (place_at m z)) (eqb-true id q y))
  | inr n ↦ rw n refl
]
  where
    held : (o : Option ClauseEntry) → option_map f (unwrap_or o (weakened_entry [] 0)).place ≡ option_map f (option_and_then (λ h. h.place) o)
    held None = refl
    held (Some h) = refl

-- what a change leaves
pub place-kept : {X : Type 0} (g : Place → X) (m : Store) (id : ℕ) (f : Place → Place) (q : ℕ) → ((p : Place) → g (f p) ≡ g p) → option_map g (place_at (insert m id (with_place f (clause_at m id))) q) ≡ option_map g (place_at m q)
place-kept {X} g m id f q keeps = ap (option_map g) (place-changed m id f q) ∙ by_case (nat_eq id q) (place_at m q)
  where
    by_case : (b : Bool) (o : Option Place) → option_map g (cond b (option_map f o) o) ≡ option_map g o
    by_case true None = refl
    by_case true (Some p) = ap (λ z. Some z) (keeps p)
    by_case false o = refl

-- ---- What holds of a store with one clause put

pub store-with : (m : Store) (id : ℕ) (h : ClauseEntry) → IsStore m → set_of h.literals ≡ h.literals
    → ((p : Place) → h.place ≡ Some p → (set_of p.lits ≡ h.literals) × IsOnce p.lits × ((q : ℕ) → nat_eq id q ≡ false → slot_at m q ≢ Some p.slot)) → IsStore (insert m id h)
store-with m id h st ascending placed = record { slots_apart = apart; same_literals = lists; sets = sets }
  where
    slots : (q : ℕ) → slot_at (insert m id h) q ≡ cond (nat_eq id q) (option_map (λ p. p.slot) h.place) (slot_at m q)
    slots q = ap (λ o. option_map (λ p. p.slot) (option_and_then (λ z. z.place) o)) (get_put m id h q) ∙ by_case (nat_eq id q)
      where
        by_case : (b : Bool) → option_map (λ p. p.slot) (option_and_then (λ z. z.place) (cond b (Some h) (get m q))) ≡ cond b (option_map (λ p. p.slot) h.place) (slot_at m q)
        by_case true = refl
        by_case false = refl

    clash : (q s : ℕ) → nat_eq id q ≡ false → (o : Option Place) → h.place ≡ o → option_map (λ p. p.slot) o ≡ Some s → slot_at m q ≡ Some s → ⊥
    clash q s n None f g e = none-some s g
    clash q s n (Some p) f g e = (placed p f).2 q n (e ∙ sym g)

    apart : (a b s : ℕ) → slot_at (insert m id h) a ≡ Some s → slot_at (insert m id h) b ≡ Some s → a ≡ b
    apart a b s e f = elim (cases_Bool (nat_eq id a)) [
      | inl y ↦ elim (cases_Bool (nat_eq id b)) [
        | inl z ↦ sym (eqb-true id a y) ∙ eqb-true id b z
        | inr n ↦ absurd (clash b s n h.place refl (sym (ap (λ c. cond c (option_map (λ p. p.slot) h.place) (slot_at m a)) y) ∙ sym (slots a) ∙ e) (sym (ap (λ c. cond c (option_map (λ p. p.slot) h.place) (slot_at m b)) n) ∙ sym (slots b) ∙ f))
      ]
      | inr k ↦ elim (cases_Bool (nat_eq id b)) [
        | inl z ↦ absurd (clash a s k h.place refl (sym (ap (λ c. cond c (option_map (λ p. p.slot) h.place) (slot_at m b)) z) ∙ sym (slots b) ∙ f) (sym (ap (λ c. cond c (option_map (λ p. p.slot) h.place) (slot_at m a)) k) ∙ sym (slots a) ∙ e))
        | inr n ↦ st.slots_apart a b s (sym (ap (λ c. cond c (option_map (λ p. p.slot) h.place) (slot_at m a)) k) ∙ sym (slots a) ∙ e) (sym (ap (λ c. cond c (option_map (λ p. p.slot) h.place) (slot_at m b)) n) ∙ sym (slots b) ∙ f)
      ]
    ]

    lists : (q : ℕ) (c : ClauseEntry) (p : Place) → get (insert m id h) q ≡ Some c → c.place ≡ Some p → (set_of p.lits ≡ c.literals) × IsOnce p.lits
    lists q c p e f = elim (cases_Bool (nat_eq id q)) [
      | inl y ↦ let g : h ≡ c = same_Some h c (sym (ap (λ b. cond b (Some h) (get m q)) y) ∙ sym (get_put m id h q) ∙ e) in
          let r = placed p (ap (λ z. z.place) g ∙ f) in (r.0 ∙ ap (λ z. z.literals) g, r.1)
      | inr n ↦ st.same_literals q c p (sym (ap (λ b. cond b (Some h) (get m q)) n) ∙ sym (get_put m id h q) ∙ e) f
    ]

    sets : (q : ℕ) (c : ClauseEntry) → get (insert m id h) q ≡ Some c → set_of c.literals ≡ c.literals
    sets q c e = elim (cases_Bool (nat_eq id q)) [
      | inl y ↦ subst (λ z. set_of z.literals ≡ z.literals) (same_Some h c (sym (ap (λ b. cond b (Some h) (get m q)) y) ∙ sym (get_put m id h q) ∙ e)) ascending
      | inr n ↦ st.sets q c (sym (ap (λ b. cond b (Some h) (get m q)) n) ∙ sym (get_put m id h q) ∙ e)
    ]

pub store-without : (m : Store) (id : ℕ) → IsStore m → IsStore (remove m id)
store-without m id st = record { slots_apart = apart; same_literals = λ q c p e. st.same_literals q c p (clause q c e); sets = λ q c e. st.sets q c (clause q c e) }
  where
    clause : (q : ℕ) (c : ClauseEntry) → get (remove m id) q ≡ Some c → get m q ≡ Some c
    clause q c e = elim (cases_Bool (nat_eq id q)) [
      | inl y ↦ absurd (none-some c (sym (ap (λ b. cond b None (get m q)) y) ∙ sym (get_cut m id q) ∙ e))
      | inr n ↦ sym (ap (λ b. cond b None (get m q)) n) ∙ sym (get_cut m id q) ∙ e
    ]

    slot : (q s : ℕ) → slot_at (remove m id) q ≡ Some s → slot_at m q ≡ Some s
    slot q s e = let a = active (remove m id) q s e in ap (λ o. option_map (λ p. p.slot) (option_and_then (λ h. h.place) o)) (clause q a.h a.is) ∙ ap (option_map (λ p. p.slot)) a.place ∙ ap (λ z. Some z) a.slot

    apart : (a b s : ℕ) → slot_at (remove m id) a ≡ Some s → slot_at (remove m id) b ≡ Some s → a ≡ b
    apart a b s e f = st.slots_apart a b s (slot a s e) (slot b s f)

-- with a place changed that keeps its slot and the members of its list
pub store-placed : (m : Store) (id s : ℕ) (f : Place → Place) → IsStore m → slot_at m id ≡ Some s → ((p : Place) → (f p).slot ≡ p.slot) → ((p : Place) → place_at m id ≡ Some p → set_of (f p).lits ≡ set_of p.lits)
    → ((p : Place) → place_at m id ≡ Some p → IsOnce p.lits → IsOnce (f p).lits) → IsStore (insert m id (with_place f (clause_at m id)))
store-placed m id s f st e slots sets onces =
    let a = active m id s e in
    let c : clause_at m id ≡ a.h = ap (λ o. unwrap_or o (weakened_entry [] 0)) a.is in
    let place : place_at m id ≡ Some a.p = ap (option_and_then (λ h. h.place)) a.is ∙ a.place in
    let old = st.same_literals id a.h a.p a.is a.place in
    subst (λ z. IsStore (insert m id (with_place f z))) (sym c) (store-with m id (with_place f a.h) st (st.sets id a.h a.is) (λ p g.
    let is : f a.p ≡ p = same_Some (f a.p) p (sym (ap (option_map f) a.place) ∙ g) in (
      ap (λ z. set_of z.lits) (sym is) ∙ sets a.p place ∙ old.0,
      subst (λ z. IsOnce z.lits) is (onces a.p place old.1),
      λ q n h. both_ways _ n (eq-eqb id q (st.slots_apart id q s e (h ∙ ap (λ z. Some z) (ap (λ z. z.slot) (sym is) ∙ slots a.p ∙ a.slot)))),
    )))

pub lits_placed : (m : Store) (id : ℕ) (p : Place) → place_at m id ≡ Some p → lits_at m id ≡ p.lits
lits_placed m id p e = ap (λ o. unwrap_or (option_map (λ z. z.lits) o) []) e

pub store-swapped : (m : Store) (id s a b : ℕ) → IsStore m → slot_at m id ≡ Some s → a < length (lits_at m id) → b < length (lits_at m id) → IsStore (with_swap m id a b)
store-swapped m id s a b st e lt lt2 = store-placed m id s (swapped a b) st e (λ p. refl)
    (λ p g. swap-set p.lits a b (subst (λ z. a < length z) (lits_placed m id p g) lt) (subst (λ z. b < length z) (lits_placed m id p g) lt2))
    (λ p g o. swap-once p.lits a b (subst (λ z. a < length z) (lits_placed m id p g) lt) (subst (λ z. b < length z) (lits_placed m id p g) lt2) o)

-- ---- The literals of an active clause

pub lits-literals : (m : Store) (id s l : ℕ) → IsStore m → slot_at m id ≡ Some s → has (lits_at m id) l ≡ has (literals_at m id) l
lits-literals m id s l st e =
    let a = active m id s e in
    let set = (st.same_literals id a.h a.p a.is a.place).0 in
    ap (λ z. has z l) (lits_placed m id a.p (ap (option_and_then (λ h. h.place)) a.is ∙ a.place)) ∙ sym (has-set_of a.p.lits l) ∙ ap (λ z. has z l) (set ∙ sym (ap (λ o. unwrap_or (option_map (λ h. h.literals) o) []) a.is))
