-- What a change of one clause leaves.
use Rattle.std.proofs.Common.{◌≡◌, ◌≢◌, ℕ, ◌<◌, ◌≤◌, ◌⊎◌, List, [], ◌∷◌, ◌++◌, length, Option, Some, None, refl, sym, ap, ◌∙◌, subst, inl, inr, arith, true, false, Bool, Contains, nat_eq, ◌||◌, eq-eqb, get_or, drop}
use Rattle.std.specs.Prelude.{is_some, option_map, IsTrue, Result, Ok, Err, IfOk, IfErr}
use Rattle.clause_store.specs.declared.StoreFault.{StoreFault}
use Rattle.propagation.specs.Watching.{engine_of}
use Rattle.std.proofs.lemmas.Option.{same_Some, none-some}
use Rattle.std.proofs.lemmas.Bool.{cases_Bool, both_ways, and_from, or_left, or_right}
use Rattle.std.proofs.lemmas.Bool.Decides.{nat_tests}
use Rattle.std.specs.Ordering.{nat_cmp, eq_by_cmp}
use Rattle.std.specs.Cmp.{nat_cmp_total}
use Rattle.std.specs.FinMap.{contains_key, empty, get, insert, remove, get-insert, get-remove, get-empty, same_map, nat_cmp-IsAntisymmetric}
use Rattle.lits.specs.Literal.{max_var, var, neg}
use Rattle.lits.specs.Clause.{set_of}
use Rattle.session_rules.specs.Logic.{has, is_unit}
use Rattle.lits.proofs.Members.{here, there, not_in_nil, here_or_there, all_from, has_at, has_from}
use Rattle.clause_store.specs.Clauses.{ClauseEntry, Store, slot_at, is_active, is_held, IsFresh, new_clause}
use Rattle.propagation.specs.declared.TrailEntry.{TrailEntry}
use Rattle.std.proofs.Common.{◌&&◌, not}
use Rattle.std.specs.Prelude.{is_none, unwrap_or}
use Rattle.clause_store.specs.Clauses as held
use Rattle.propagation.specs.Clauses as seen
use Rattle.propagation.specs.Clauses.{Clause, Clauses, clause_of, clauses_of, slot_of, active_at}
use Rattle.propagation.specs.Engine.{EngineView, IsEngine, IsEntry, IsNoReason, IsFree, IsRestored, weakened_clause, literals, with_entry, with_clauses, with_vars, no_engine, added_clause, level_after, is_assumed}
use Rattle.propagation.proofs.ClausesMap.{get-clauses_of, slot_of-clauses_of, same_items, unit_same}

pub ties : (q : ℕ) → eq_by_cmp nat_cmp q q ≡ true
ties q = grind (arith, nat_tests)

pub differs : (q k : ℕ) → q ≢ k → eq_by_cmp nat_cmp q k ≡ false
differs q k ne = grind (arith, nat_tests)

pub cases : (q i : ℕ) → (q ≡ i) ⊎ (q ≢ i)
cases q i = grind arith

same : (m n : Clauses) → ((q : ℕ) → get m q ≡ get n q) → m ≡ n
same m n h = same_map nat_cmp_total nat_cmp-IsAntisymmetric m n h

pub clauses_of-insert : (m : Store) (k : ℕ) (h : ClauseEntry) → clauses_of (insert m k h) ≡ insert (clauses_of m) k (clause_of h)
clauses_of-insert m k h = same _ _ (λ q. get-clauses_of (insert m k h) q ∙ elim (cases q k) [
  | inl y ↦ rw (y, get-insert nat_cmp_total, get-insert nat_cmp_total, ties k) refl
  | inr n ↦ rw (get-insert nat_cmp_total, get-insert nat_cmp_total, differs q k n) (sym (get-clauses_of m q))
])

pub clauses_of-remove : (m : Store) (k : ℕ) → clauses_of (remove m k) ≡ remove (clauses_of m) k
clauses_of-remove m k = same _ _ (λ q. get-clauses_of (remove m k) q ∙ elim (cases q k) [
  | inl y ↦ rw (y, get-remove nat_cmp_total, get-remove nat_cmp_total, ties k) refl
  | inr n ↦ rw (get-remove nat_cmp_total, get-remove nat_cmp_total, differs q k n) (sym (get-clauses_of m q))
])

pub clauses_of-empty : clauses_of empty ≡ empty
clauses_of-empty = same _ _ (λ q. get-clauses_of empty q ∙ ap (option_map clause_of) (get-empty nat_cmp q) ∙ sym (get-empty nat_cmp q))

pub get-from_held : (m : Store) (k : ℕ) → is_held m k ≡ false → get m k ≡ None
get-from_held m k h = by_value (get m k) refl
  where
    by_value : (o : Option ClauseEntry) → get m k ≡ o → get m k ≡ None
    by_value None e = e
    by_value (Some v) e = let f : is_some (get m k) ≡ true = rw e refl in absurd (both_ways _ h f)

-- an added clause that is taken out again
pub undone : (m : Store) (k : ℕ) (h : ClauseEntry) → is_held m k ≡ false → remove (insert m k h) k ≡ m
undone m k h free = same_map nat_cmp_total nat_cmp-IsAntisymmetric _ _ (λ q. elim (cases q k) [
  | inl y ↦ rw (y, get-remove nat_cmp_total, ties k) (sym (get-from_held m k free))
  | inr n ↦ rw (get-remove nat_cmp_total, differs q k n, get-insert nat_cmp_total, differs q k n) refl
])

pub is_held-insert : (m : Store) (k q : ℕ) (h : ClauseEntry) → q ≢ k → is_held (insert m k h) q ≡ is_held m q
is_held-insert m k q h n = rw (get-insert nat_cmp_total, differs q k n) refl

pub is_held-remove : (m : Store) (k q : ℕ) → is_held (remove m k) q ≡ true → is_held m q ≡ true
is_held-remove m k q h = elim (cases q k) [
  | inl y ↦ let f : is_held (remove m k) q ≡ false = rw (y, get-remove nat_cmp_total, ties k) refl in absurd (both_ways _ f h)
  | inr n ↦ let f : is_held (remove m k) q ≡ is_held m q = rw (get-remove nat_cmp_total, differs q k n) refl in sym f ∙ h
]

module _ {X : Type 0} where
  pub in_left : (xs ys : List X) (x : X) → Contains xs x → Contains (xs ++ ys) x
  in_left [] ys x h = absurd (not_in_nil x h)
  in_left (y ∷ xs) ys x h = elim (here_or_there y x xs h) [
    | inl e ↦ subst (λ z. Contains (y ∷ (xs ++ ys)) z) e (here y (xs ++ ys))
    | inr n ↦ there y x (xs ++ ys) (in_left xs ys x n)
  ]

  pub in_middle : (xs ys : List X) (x : X) → Contains (xs ++ x ∷ ys) x
  in_middle [] ys x = here x ys
  in_middle (y ∷ xs) ys x = there y x (xs ++ x ∷ ys) (in_middle xs ys x)

-- ---- The engine

active_at-insert_other : (m : Clauses) (k q : ℕ) (c : Clause) → q ≢ k → active_at (insert m k c) q ≡ active_at m q
active_at-insert_other m k q c n = rw (get-insert nat_cmp_total, differs q k n) refl

pub slot_of-insert_other : (m : Clauses) (k q : ℕ) (c : Clause) → q ≢ k → slot_of (insert m k c) q ≡ slot_of m q
slot_of-insert_other m k q c n = rw (get-insert nat_cmp_total, differs q k n) refl

slot_of-insert_same : (m : Clauses) (k : ℕ) (c : Clause) → slot_of (insert m k c) k ≡ c.slot
slot_of-insert_same m k c = rw (get-insert nat_cmp_total, ties k) refl

active_at-remove_other : (m : Clauses) (k q : ℕ) → q ≢ k → active_at (remove m k) q ≡ active_at m q
active_at-remove_other m k q n = rw (get-remove nat_cmp_total, differs q k n) refl

slot_of-remove_other : (m : Clauses) (k q : ℕ) → q ≢ k → slot_of (remove m k) q ≡ slot_of m q
slot_of-remove_other m k q n = rw (get-remove nat_cmp_total, differs q k n) refl

slot_of-remove_same : (m : Clauses) (k : ℕ) → slot_of (remove m k) k ≡ None
slot_of-remove_same m k = rw (get-remove nat_cmp_total, ties k) refl

active_at-insert_active : (m : Clauses) (k s : ℕ) (ls : List ℕ) → active_at (insert m k (added_clause ls s)) k ≡ Some (set_of ls)
active_at-insert_active m k s ls = rw (get-insert nat_cmp_total, ties k) refl

-- one clause put, which is no reason
pub IsEngine-put : (e : EngineView) (k : ℕ) (c : Clause) → IsEngine e → IsNoReason e k → ((s : ℕ) → c.slot ≡ Some s → (id : ℕ) → slot_of e.clauses id ≢ Some s) → ((l : ℕ) → Contains c.literals l → var l ≤ e.vars)
    → IsEngine (with_clauses e (insert e.clauses k c))
IsEngine-put e k c h none fresh reserved = record {
  entries = λ before after t at. let entry = h.entries before after t at in record {
    reserved = entry.reserved;
    free = entry.free;
    reason = λ r is. let y = entry.reason r is in
        let ne : y.0 ≢ k = λ q. none t r (subst (λ z. Contains z t) (sym at) (in_middle before after t)) is (sym (ap (slot_of e.clauses) q) ∙ y.2) in
        (y.0, y.1, slot_of-insert_other e.clauses k y.0 _ ne ∙ y.2, active_at-insert_other e.clauses k y.0 _ ne ∙ y.3, y.4);
  };
  slots_apart = λ a b t p q. elim (cases a k) [
    | inl y ↦ elim (cases b k) [
      | inl z ↦ y ∙ sym z
      | inr z ↦ absurd (fresh t (sym (slot_of-insert_same e.clauses k c) ∙ sym (ap (slot_of (insert e.clauses k c)) y) ∙ p) b (sym (slot_of-insert_other e.clauses k b _ z) ∙ q))
    ]
    | inr y ↦ elim (cases b k) [
      | inl z ↦ absurd (fresh t (sym (slot_of-insert_same e.clauses k c) ∙ sym (ap (slot_of (insert e.clauses k c)) z) ∙ q) a (sym (slot_of-insert_other e.clauses k a _ y) ∙ p))
      | inr z ↦ h.slots_apart a b t (sym (slot_of-insert_other e.clauses k a _ y) ∙ p) (sym (slot_of-insert_other e.clauses k b _ z) ∙ q)
    ]
  ];
  clauses_reserved = λ id l d at m. elim (cases id k) [
    | inl y ↦
        let g : get (insert e.clauses k c) k ≡ Some c = rw (get-insert nat_cmp_total, ties k) refl in
        let f : c ≡ d = same_Some _ _ (sym g ∙ sym (ap (get (insert e.clauses k c)) y) ∙ at) in
        reserved l (subst (λ z. Contains z.literals l) (sym f) m)
    | inr n ↦ let g : get (insert e.clauses k c) id ≡ get e.clauses id = rw (get-insert nat_cmp_total, differs id k n) refl in h.clauses_reserved id l d (sym g ∙ at) m
  ];
  vars_limit = h.vars_limit;
}

-- a clause without a slot is no reason
pub no_reason-slotless : (e : EngineView) (k : ℕ) → slot_of e.clauses k ≡ None → IsNoReason e k
no_reason-slotless e k f s r m is at = none-some r (sym f ∙ at)

pub IsEngine-insert : (e : EngineView) (k s : ℕ) (ls : List ℕ) → IsEngine e → get e.clauses k ≡ None → ((id : ℕ) → slot_of e.clauses id ≢ Some s) → ((l : ℕ) → Contains ls l → var l ≤ e.vars)
    → IsEngine (with_clauses e (insert e.clauses k (added_clause ls s)))
IsEngine-insert e k s ls h free fresh reserved = IsEngine-put e k (added_clause ls s) h (no_reason-slotless e k (let f : slot_of e.clauses k ≡ None = rw free refl in f))
    (λ t is id at. fresh id (at ∙ sym is)) (λ l m. reserved l (has_at ls l (same_items ls (set_of ls) refl l ∙ has_from (set_of ls) l m)))

pub IsEngine-remove : (e : EngineView) (k : ℕ) → IsEngine e → IsNoReason e k → IsEngine (with_clauses e (remove e.clauses k))
IsEngine-remove e k h none = record {
  entries = λ before after t at. let entry = h.entries before after t at in record {
    reserved = entry.reserved;
    free = entry.free;
    reason = λ r is. let y = entry.reason r is in
        let ne : y.0 ≢ k = λ q. none t r (subst (λ z. Contains z t) (sym at) (in_middle before after t)) is (sym (ap (slot_of e.clauses) q) ∙ y.2) in
        (y.0, y.1, slot_of-remove_other e.clauses k y.0 ne ∙ y.2, active_at-remove_other e.clauses k y.0 ne ∙ y.3, y.4);
  };
  slots_apart = λ a b t p q. h.slots_apart a b t (still a t p) (still b t q);
  clauses_reserved = λ id l c at m. elim (cases id k) [
    | inl y ↦ let g : get (remove e.clauses k) k ≡ None = rw (get-remove nat_cmp_total, ties k) refl in absurd (none-some c (sym g ∙ sym (ap (get (remove e.clauses k)) y) ∙ at))
    | inr n ↦ let g : get (remove e.clauses k) id ≡ get e.clauses id = rw (get-remove nat_cmp_total, differs id k n) refl in h.clauses_reserved id l c (sym g ∙ at) m
  ];
  vars_limit = h.vars_limit;
}
  where
    still : (a t : ℕ) → slot_of (remove e.clauses k) a ≡ Some t → slot_of e.clauses a ≡ Some t
    still a t p = elim (cases a k) [
      | inl y ↦ absurd (none-some t (sym (slot_of-remove_same e.clauses k) ∙ sym (ap (slot_of (remove e.clauses k)) y) ∙ p))
      | inr n ↦ sym (slot_of-remove_other e.clauses k a n) ∙ p
    ]

pub IsEngine-vars : (e : EngineView) (n : ℕ) → IsEngine e → e.vars ≤ n → n ≤ max_var → IsEngine (with_vars e n)
IsEngine-vars e n h up limit = record {
  entries = λ before after t at. let entry = h.entries before after t at in record { reserved = omega (arith, entry.reserved); free = entry.free; reason = entry.reason };
  slots_apart = h.slots_apart;
  clauses_reserved = λ id l c at m. omega (arith, h.clauses_reserved id l c at m);
  vars_limit = limit;
}

no_step : (before after : List TrailEntry) (s : TrailEntry) → [] ≡ before ++ s ∷ after → ⊥
no_step [] after s e = cc e
no_step (b ∷ before) after s e = let f : [] ≡ b ∷ (before ++ s ∷ after) = e in cc f

pub IsEngine-none : IsEngine no_engine
IsEngine-none = record {
  entries = λ before after s at. absurd (no_step before after s at);
  slots_apart = λ a b s p q. absurd (none-some s (sym (let f : slot_of empty a ≡ None = rw (get-empty nat_cmp a) refl in f) ∙ p));
  clauses_reserved = λ id l c at m. absurd (none-some c (sym (get-empty nat_cmp id) ∙ at));
  vars_limit = omega arith;
}

-- ---- The engine's fields

pub value_added : (m n : Store) (e : EngineView) (k : ℕ) (ls : List ℕ) (entries : List TrailEntry) (vars : ℕ) (r : Result ℕ StoreFault) → engine_of m entries vars ≡ e → IfOk r (λ s. n ≡ insert m k (new_clause ls s))
    → IfOk r (λ s. engine_of n entries vars ≡ with_clauses e (insert e.clauses k (added_clause ls s)))
value_added m n e k ls entries vars (Ok s) v ok =
    let at : clauses_of n ≡ insert (clauses_of m) k (added_clause ls s) = ap clauses_of ok ∙ clauses_of-insert m k (new_clause ls s) in
    (λ i. record { clauses = at i; trail = entries; vars = vars }) ∙ ap (λ z. with_clauses z (insert z.clauses k (added_clause ls s))) v
value_added m n e k ls entries vars (Err f) v ok = ok

pub value_removed : (m n : Store) (e : EngineView) (k : ℕ) (entries : List TrailEntry) (vars : ℕ) (r : Result (Unit {0}) StoreFault) → engine_of m entries vars ≡ e → IfOk r (λ _. n ≡ remove m k)
    → IfOk r (λ _. engine_of n entries vars ≡ with_clauses e (remove e.clauses k))
value_removed m n e k entries vars (Ok u) v ok =
    let at : clauses_of n ≡ remove (clauses_of m) k = ap clauses_of ok ∙ clauses_of-remove m k in
    (λ i. record { clauses = at i; trail = entries; vars = vars }) ∙ ap (λ z. with_clauses z (remove z.clauses k)) v
value_removed m n e k entries vars (Err f) v ok = ok

-- the deletion that undoes an addition isn't refused
pub taken_back : (m n back : Store) (k : ℕ) (h : ClauseEntry) (s : ℕ) (r : Result (Unit {0}) StoreFault) → is_held m k ≡ false → n ≡ insert m k h → option_map (λ p. p.slot) h.place ≡ Some s
    → IfOk r (λ _. back ≡ remove n k) → IfErr r (λ _. is_active n k ≡ false) → back ≡ m
taken_back m n back k h s (Ok u) free is at ok err = ok ∙ ap (λ z. remove z k) is ∙ undone m k h free
taken_back m n back k h s (Err f) free is at ok err =
    let a : is_active (insert m k h) k ≡ true = rw (get-insert nat_cmp_total, ties k, at) refl in
    absurd (both_ways _ (sym (ap (λ z. is_active z k) is) ∙ err) a)

pub level_after-le : (ss : List TrailEntry) → level_after ss ≤ length ss
level_after-le [] = omega arith
level_after-le (s ∷ ss) = let r = level_after-le ss in elim (cases_Bool (is_assumed s)) [ inl y ↦ rw y (omega arith) | inr n ↦ rw n (omega arith) ]

pub value_new : (m : Store) (entries : List TrailEntry) → m ≡ empty → entries ≡ [] → engine_of m entries 0 ≡ no_engine
value_new m entries e f = λ i. record { clauses = (ap clauses_of e ∙ clauses_of-empty) i; trail = f i; vars = 0 }

-- ---- A clause whose first literal follows

unit_of_first : (trues ls : List ℕ) → 0 < length ls → ((l : ℕ) → Contains (drop 1 ls) l → has trues (neg l) ≡ true) → is_unit trues ls (get_or ls 0 0) ≡ true
unit_of_first trues [] lt others = absurd (omega arith)
unit_of_first trues (x ∷ ls) lt others = and_from (has (x ∷ ls) x) _ (has_from (x ∷ ls) x (here x ls))
    (all_from (λ m. nat_eq x m || has trues (neg m)) (x ∷ ls) (λ m n. elim (here_or_there x m ls n) [
      | inl e ↦ or_left (nat_eq x m) (has trues (neg m)) (eq-eqb x m e)
      | inr r ↦ or_right (nat_eq x m) (has trues (neg m)) (others m r)
    ]))

first_in : (ls : List ℕ) → 0 < length ls → Contains ls (get_or ls 0 0)
first_in [] lt = absurd (omega arith)
first_in (x ∷ ls) lt = here x ls

pub asserting_entry : (e new : EngineView) (k s l : ℕ) (ls : List ℕ) → new ≡ with_clauses e (insert e.clauses k (added_clause ls s)) → l ≡ get_or ls 0 0 → 0 < length ls → ((x : ℕ) → Contains ls x → var x ≤ e.vars)
    → IsFree (literals e.trail) (get_or ls 0 0) → ((x : ℕ) → Contains (drop 1 ls) x → has (literals e.trail) (neg x) ≡ true)
    → IsEntry new.clauses new.vars new.trail (record { lit = l; reason = Some s })
asserting_entry e new k s l ls is first some reserved free others =
    subst (λ z. IsEntry z.clauses z.vars z.trail (record { lit = l; reason = Some s })) (sym is) (subst (λ z. IsEntry (insert e.clauses k (added_clause ls s)) e.vars e.trail (record { lit = z; reason = Some s })) (sym first)
    (record {
      reserved = reserved (get_or ls 0 0) (first_in ls some);
      free = free;
      reason = λ r same_slot.
          let t : s ≡ r = same_Some _ _ same_slot in (
            k,
            set_of ls,
            slot_of-insert_same e.clauses k (added_clause ls s) ∙ ap Some t,
            active_at-insert_active e.clauses k s ls,
            unit_same (literals e.trail) ls (set_of ls) (get_or ls 0 0) (same_items ls (set_of ls) refl) (unit_of_first (literals e.trail) ls some others),
          );
    }))

pub asserted : (e new last : EngineView) (k s l : ℕ) (ls : List ℕ) → new ≡ with_clauses e (insert e.clauses k (added_clause ls s)) → l ≡ get_or ls 0 0 → last ≡ with_entry new l (Some s)
    → last ≡ with_entry (with_clauses e (insert e.clauses k (added_clause ls s))) (get_or ls 0 0) (Some s)
asserted e new last k s l ls is first put = put ∙ ap (λ z. with_entry new z (Some s)) first ∙ ap (λ z. with_entry z (get_or ls 0 0) (Some s)) is

-- ---- Faults

pub held_seen : (m : Store) (k : ℕ) → contains_key (clauses_of m) k ≡ is_held m k
held_seen m k = ap is_some (get-clauses_of m k) ∙ mapped (get m k)
  where
    mapped : (o : Option ClauseEntry) → is_some (option_map clause_of o) ≡ is_some o
    mapped None = refl
    mapped (Some h) = refl

pub fault_taken : (m : Store) (e : EngineView) (entries : List TrailEntry) (vars k : ℕ) (r : Result ℕ StoreFault) (x : StoreFault) → engine_of m entries vars ≡ e → IfErr r (λ f. IsTrue (is_held m k) → f ≡ x)
    → IfErr r (λ f. IsTrue (contains_key e.clauses k) → f ≡ x)
fault_taken m e entries vars k (Ok s) x v h = h
fault_taken m e entries vars k (Err f) x v h = λ q. h (sym (held_seen m k) ∙ ap (λ z. contains_key z.clauses k) v ∙ q)

pub fault_memory : (m : Store) (e : EngineView) (entries : List TrailEntry) (vars k : ℕ) (r : Result ℕ StoreFault) (x : StoreFault) → engine_of m entries vars ≡ e → IfErr r (λ f. is_held m k ≡ false → f ≡ x)
    → IfErr r (λ f. contains_key e.clauses k ≡ false → f ≡ x)
fault_memory m e entries vars k (Ok s) x v h = h
fault_memory m e entries vars k (Err f) x v h = λ q. h (sym (held_seen m k) ∙ ap (λ z. contains_key z.clauses k) v ∙ q)

pub fault_inactive : (m : Store) (e : EngineView) (entries : List TrailEntry) (vars k : ℕ) (r : Result (Unit {0}) StoreFault) → engine_of m entries vars ≡ e → IfErr r (λ _. is_active m k ≡ false)
    → IfErr r (λ _. is_some (slot_of e.clauses k) ≡ false)
fault_inactive m e entries vars k (Ok u) v h = h
fault_inactive m e entries vars k (Err f) v h = sym (ap (λ z. is_some (slot_of z.clauses k)) v) ∙ ap is_some (slot_of-clauses_of m k) ∙ h

-- ---- What is seen of a clause

pub active_seen : (m : Store) (e : EngineView) (entries : List TrailEntry) (vars k : ℕ) → engine_of m entries vars ≡ e → is_some (slot_of e.clauses k) ≡ is_active m k
active_seen m e entries vars k v = sym (ap (λ z. is_some (slot_of z.clauses k)) v) ∙ ap is_some (slot_of-clauses_of m k)

pub weakened_seen : (m : Store) (e : EngineView) (entries : List TrailEntry) (vars k : ℕ) → engine_of m entries vars ≡ e → seen.is_weakened e.clauses k ≡ held.is_weakened m k
weakened_seen m e entries vars k v =
    sym (ap (λ z. seen.is_weakened z.clauses k) v) ∙ ap (λ b. b && is_none (slot_of (clauses_of m) k)) (held_seen m k) ∙ ap (λ o. is_held m k && is_none o) (slot_of-clauses_of m k) ∙ ap (λ b. is_held m k && b) (opposite (slot_at m k))
  where
    opposite : (o : Option ℕ) → is_none o ≡ not (is_some o)
    opposite None = refl
    opposite (Some s) = refl

pub literals_seen : (m : Store) (k : ℕ) → seen.literals_at (clauses_of m) k ≡ held.literals_at m k
literals_seen m k = ap (λ o. unwrap_or (option_map (λ c. c.literals) o) []) (get-clauses_of m k) ∙ by_value (get m k)
  where
    by_value : (o : Option ClauseEntry) → unwrap_or (option_map (λ c. c.literals) (option_map clause_of o)) [] ≡ unwrap_or (option_map (λ h. h.literals) o) []
    by_value None = refl
    by_value (Some h) = refl

-- the variables of a clause's set are reserved
pub literals-reserved : (e : EngineView) (k l : ℕ) → IsEngine e → Contains (seen.literals_at e.clauses k) l → var l ≤ e.vars
literals-reserved e k l h m = by_value (get e.clauses k) refl
  where
    by_value : (o : Option Clause) → get e.clauses k ≡ o → var l ≤ e.vars
    by_value None g = let f : Contains [] l = subst (λ z. Contains (unwrap_or (option_map (λ c. c.literals) z) []) l) g m in absurd (not_in_nil l f)
    by_value (Some c) g = let f : Contains c.literals l = subst (λ z. Contains (unwrap_or (option_map (λ c. c.literals) z) []) l) g m in h.clauses_reserved k l c g f

pub fault_seen : {T : Type 0} (r : Result T StoreFault) (p q b : Bool) (x : StoreFault) → q ≡ p → IfErr r (λ f. p ≡ b → f ≡ x) → IfErr r (λ f. q ≡ b → f ≡ x)
fault_seen (Ok u) p q b x e h = h
fault_seen (Err f) p q b x e h = λ g. h (sym e ∙ g)

pub ok_seen : {T : Type 0} (r : Result T StoreFault) (p q b : Bool) → q ≡ p → IfOk r (λ _. p ≡ b) → IfOk r (λ _. q ≡ b)
ok_seen (Ok u) p q b e h = e ∙ h
ok_seen (Err f) p q b e h = h

pub fresh_seen : (m : Store) (e : EngineView) (entries : List TrailEntry) (vars : ℕ) (r : Result ℕ StoreFault) → engine_of m entries vars ≡ e → IfOk r (λ s. IsFresh m s) → IfOk r (λ s. (x : ℕ) → slot_of e.clauses x ≢ Some s)
fresh_seen m e entries vars (Ok s) v h = λ x at. h x (sym (slot_of-clauses_of m x) ∙ ap (λ z. slot_of z.clauses x) v ∙ at)
fresh_seen m e entries vars (Err f) v h = h

pub free_seen : (m : Store) (e : EngineView) (entries : List TrailEntry) (vars k : ℕ) → engine_of m entries vars ≡ e → contains_key e.clauses k ≡ is_held m k
free_seen m e entries vars k v = sym (ap (λ z. contains_key z.clauses k) v) ∙ held_seen m k

pub held_if_active : (m : Store) (k : ℕ) → is_active m k ≡ true → is_held m k ≡ true
held_if_active m k a = by_value (get m k) refl
  where
    by_value : (o : Option ClauseEntry) → get m k ≡ o → is_held m k ≡ true
    by_value None g = let f : is_active m k ≡ false = rw g refl in absurd (both_ways _ f a)
    by_value (Some h) g = rw g refl

-- ---- A clause weakened

pub clauses_of-weakened : (m n : Store) (k : ℕ) → n ≡ insert m k (held.weakened_entry (held.literals_at m k) (held.kept_at m k)) → clauses_of n ≡ insert (clauses_of m) k (weakened_clause (seen.literals_at (clauses_of m) k))
clauses_of-weakened m n k e = ap clauses_of e ∙ clauses_of-insert m k (held.weakened_entry (held.literals_at m k) (held.kept_at m k)) ∙ ap (λ z. insert (clauses_of m) k (weakened_clause z)) (sym (literals_seen m k))

pub value_weakened : (m n : Store) (e : EngineView) (k : ℕ) (entries : List TrailEntry) (vars : ℕ) (r : Result (Unit {0}) StoreFault) → engine_of m entries vars ≡ e → IfOk r (λ _. n ≡ insert m k (held.weakened_entry (held.literals_at m k) (held.kept_at m k)))
    → IfOk r (λ _. engine_of n entries vars ≡ with_clauses e (insert e.clauses k (weakened_clause (seen.literals_at e.clauses k))))
value_weakened m n e k entries vars (Ok u) v ok =
    (λ i. record { clauses = clauses_of-weakened m n k ok i; trail = entries; vars = vars }) ∙ ap (λ z. with_clauses z (insert z.clauses k (weakened_clause (seen.literals_at z.clauses k)))) v
value_weakened m n e k entries vars (Err f) v ok = ok

-- ---- A clause restored

pub clauses_of-restored : (m n : Store) (k : ℕ) (r : held.IsRestored m k n) → clauses_of n ≡ insert (clauses_of m) k (record { literals = seen.literals_at (clauses_of m) k; slot = Some r.slot })
clauses_of-restored m n k r = ap clauses_of r.changed ∙ clauses_of-insert m k (held.active_entry (held.literals_at m k) r.lits r.slot) ∙ ap (λ z. insert (clauses_of m) k (record { literals = z; slot = Some r.slot })) (sym (literals_seen m k))

pub value_back : (m n : Store) (e : EngineView) (k : ℕ) (entries : List TrailEntry) (vars : ℕ) → engine_of m entries vars ≡ e → held.IsRestored m k n → IsRestored e k (engine_of n entries vars)
value_back m n e k entries vars v ok = subst (λ z. IsRestored z k (engine_of n entries vars)) v (record {
  slot = ok.slot;
  fresh = λ x at. ok.fresh x (sym (slot_of-clauses_of m x) ∙ at);
  changed = λ i. record { clauses = clauses_of-restored m n k ok i; trail = entries; vars = vars };
})

-- ---- A clause that has come

pub slot_inserted : (m n : Store) (k s : ℕ) (ls : List ℕ) → n ≡ insert m k (new_clause ls s) → slot_at n k ≡ Some s
slot_inserted m n k s ls e = subst (λ z. slot_at z k ≡ Some s) (sym e) (rw (get-insert nat_cmp_total, ties k) refl)

pub value_put : (m n : Store) (e : EngineView) (k : ℕ) (ls : List ℕ) (entries : List TrailEntry) (vars s : ℕ) → engine_of m entries vars ≡ e → n ≡ insert m k (new_clause ls s)
    → engine_of n entries vars ≡ with_clauses e (insert e.clauses k (added_clause ls s))
value_put m n e k ls entries vars s v ok = value_added m n e k ls entries vars (Ok s) v ok

pub slot_of-seen : (m : Store) (e : EngineView) (entries : List TrailEntry) (vars k : ℕ) → engine_of m entries vars ≡ e → slot_at m k ≡ slot_of e.clauses k
slot_of-seen m e entries vars k v = sym (slot_of-clauses_of m k) ∙ ap (λ z. slot_of z.clauses k) v
