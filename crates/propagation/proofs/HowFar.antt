-- How far the trail has been propagated, and that this is kept by each call.
use Rattle.std.proofs.Common.{◌≡◌, ◌≢◌, ℕ, ◌≤◌, ◌⊎◌, List, [], ◌∷◌, ◌++◌, length, take, drop, Option, Some, None, refl, sym, ap, ◌∙◌, subst, inl, inr, arith, true, false, Bool, length-append}
use Rattle.std.specs.Prelude.{slice_index, nat_lt, option_map, is_some, unwrap_or}
use Rattle.std.proofs.lemmas.List.{drop-append-le}
use Rattle.std.proofs.lemmas.Bool.{cases_Bool, both_ways}
use Rattle.std.proofs.lemmas.Option.{none-some}
use Rattle.std.specs.Cmp.{nat_cmp_total}
use Rattle.std.specs.FinMap.{get, insert, remove, contains_key, get-insert, get-remove}
use Rattle.session_rules.specs.Logic.{has}
use Rattle.std.specs.List.{filter}
use Rattle.lits.proofs.Members.{filter_from, has_at, has_from}
use Rattle.std.proofs.lemmas.Bool.{ltb-false}
use Rattle.clause_store.specs.Clauses as held
use Rattle.clause_store.specs.Clauses.{ClauseEntry, Store, IsStore, IsOnce, slot_at, lits_at}
use Rattle.watch_lists.proofs.Members.{has-here, has-there, member_cases, unlike}
use Rattle.watch_lists.proofs.FirstTwo.{once-lits, has-first, has-second, firsts-apart}
use Rattle.watch_lists.proofs.Placed.{lits-literals}
use Rattle.propagation.specs.Clauses.{Clause, Clauses, clauses_of, active_at, literals_at}
use Rattle.propagation.specs.Engine.{literals, EngineView, IsEngine, IsPropagated}
use Rattle.propagation.specs.Watching.{IsCovered, IsReady, IsMoved, NeedsNoVisit}
use Rattle.propagation.specs.Inside.{HasPair, ArePending, AreHeads}
use Rattle.propagation.proofs.ClausesMap.{slot_of-clauses_of, slot_if_active}
use Rattle.propagation.proofs.Changes.{cases, ties, differs, literals_seen, held_seen, held_if_active}
use Rattle.propagation.proofs.Closing.{consistent_trail}
use Rattle.propagation.proofs.Covering.{has_take, has_more, has_end, two_fewer, covered_quiet}
use Rattle.propagation.proofs.Trail.{length-literals}
use Rattle.propagation.proofs.Scan.{done_quiet}

-- ---- Orders that have changed

pub heads_moved : (all ts : List ℕ) (m n : Store) (h s : ℕ) (ids : List ℕ) → IsMoved all m n → ((x : ℕ) → has ts x ≡ true → has all x ≡ true) → AreHeads m ts h ids s → AreHeads n ts h ids s
heads_moved all ts m n h s ids v within k = record {
  head_in = k.head_in;
  ids_in = k.ids_in;
  ready = λ id t at. elim (k.ready id t (sym (v.slots id) ∙ at)) [
    | inl y ↦ inl y
    | inr c ↦ inr (v.kept id h ts within c)
  ];
}

-- ---- Two different literals

two_members : (ls : List ℕ) (a b : ℕ) → has ls a ≡ true → has ls b ≡ true → a ≢ b → 2 ≤ length ls
two_members [] a b x y n = absurd (let g : false ≡ true = x in cc g)
two_members (l ∷ []) a b x y n = elim (member_cases l a [] x) [
  | inl e ↦ elim (member_cases l b [] y) [
    | inl f ↦ absurd (n (e ∙ sym f))
    | inr f ↦ absurd (let g : false ≡ true = f in cc g)
  ]
  | inr e ↦ absurd (let g : false ≡ true = e in cc g)
]
two_members (l ∷ k ∷ ls) a b x y n = omega arith

pub pair_of_list : (m : Store) (id s : ℕ) → IsStore m → slot_at m id ≡ Some s → 2 ≤ length (lits_at m id) → HasPair (literals_at (clauses_of m) id)
pair_of_list m id s k at long = record {
  one = slice_index (lits_at m id) 0;
  two = slice_index (lits_at m id) 1;
  has_one = ap (λ z. has z (slice_index (lits_at m id) 0)) (literals_seen m id) ∙ sym (lits-literals m id s _ k at) ∙ has-first (lits_at m id) long;
  has_two = ap (λ z. has z (slice_index (lits_at m id) 1)) (literals_seen m id) ∙ sym (lits-literals m id s _ k at) ∙ has-second (lits_at m id) long;
  differ = λ e. unlike (slice_index (lits_at m id) 1) (slice_index (lits_at m id) 0) (firsts-apart (lits_at m id) (once-lits m id s k at) long) (sym e);
}

list_of_pair : (m : Store) (id s : ℕ) → IsStore m → slot_at m id ≡ Some s → HasPair (literals_at (clauses_of m) id) → 2 ≤ length (lits_at m id)
list_of_pair m id s k at p = two_members (lits_at m id) p.one p.two
    (lits-literals m id s p.one k at ∙ ap (λ z. has z p.one) (sym (literals_seen m id)) ∙ p.has_one)
    (lits-literals m id s p.two k at ∙ ap (λ z. has z p.two) (sym (literals_seen m id)) ∙ p.has_two) p.differ

active_held : (m : Store) (id s : ℕ) → slot_at m id ≡ Some s → contains_key (clauses_of m) id ≡ true
active_held m id s at = held_seen m id ∙ held_if_active m id (let f : is_some (slot_at m id) ≡ true = rw at refl in f)

-- at the beginning each clause is still to be looked at, or covered
pub ready_start : (m : Store) (ts ids : List ℕ) → IsStore m → ArePending (clauses_of m) ids → IsReady m ts 0 ids
ready_start m ts ids k pending id s at = elim (pending id (active_held m id s at)) [
  | inl y ↦ inl y
  | inr p ↦ inr (inr (record { long = list_of_pair m id s k at p; one = refl; two = refl }))
]

pub heads_start : (m : Store) (ts ids : List ℕ) → IsStore m → ArePending (clauses_of m) ids → AreHeads m ts 0 ids 0
heads_start m ts ids k pending = record { head_in = omega arith; ids_in = omega arith; ready = ready_start m ts ids k pending }

-- ---- One clause more, at the end of the ids

record SameBut (m n : Store) (id : ℕ) : Type 0 where
  pub slots : (q : ℕ) → q ≢ id → slot_at n q ≡ slot_at m q
  pub lists : (q : ℕ) → q ≢ id → lits_at n q ≡ lits_at m q

same_insert : (m n : Store) (id : ℕ) (h : ClauseEntry) → n ≡ insert m id h → SameBut m n id
same_insert m n id h e = record {
  slots = λ q o. subst (λ z. slot_at z q ≡ slot_at m q) (sym e) (rw (get-insert nat_cmp_total, differs q id o) refl);
  lists = λ q o. subst (λ z. lits_at z q ≡ lits_at m q) (sym e) (rw (get-insert nat_cmp_total, differs q id o) refl);
}

same_remove : (m n : Store) (id : ℕ) → n ≡ remove m id → SameBut m n id
same_remove m n id e = record {
  slots = λ q o. subst (λ z. slot_at z q ≡ slot_at m q) (sym e) (rw (get-remove nat_cmp_total, differs q id o) refl);
  lists = λ q o. subst (λ z. lits_at z q ≡ lits_at m q) (sym e) (rw (get-remove nat_cmp_total, differs q id o) refl);
}

pub heads_pushed : (m n : Store) (ts : List ℕ) (h s : ℕ) (ids : List ℕ) (id : ℕ) (c : ClauseEntry) → n ≡ insert m id c → AreHeads m ts h ids s → AreHeads n ts h (ids ++ id ∷ []) s
heads_pushed m n ts h s ids id c e k = let x = same_insert m n id c e in record {
  head_in = k.head_in;
  ids_in = let le = k.ids_in in omega (arith, le, length-append ids (id ∷ []));
  ready = λ q t at. elim (cases q id) [
    | inl y ↦ inl (subst (λ z. has z q ≡ true) (sym (drop-append-le s ids (id ∷ []) k.ids_in)) (subst (λ z. has (drop s ids ++ id ∷ []) z ≡ true) (sym y) (has_end (drop s ids) id)))
    | inr o ↦ elim (k.ready q t (sym (x.slots q o) ∙ at)) [
      | inl y ↦ inl (subst (λ z. has z q ≡ true) (sym (drop-append-le s ids (id ∷ []) k.ids_in)) (has_more (drop s ids) (id ∷ []) q y))
      | inr y ↦ inr (subst (λ z. IsCovered ts h z) (sym (x.lists q o)) y)
    ]
  ];
}

pub pending_pushed : (m n : Clauses) (ids : List ℕ) (id : ℕ) (c : Clause) → n ≡ insert m id c → ArePending m ids → ArePending n (ids ++ id ∷ [])
pending_pushed m n ids id c e k q on = elim (cases q id) [
  | inl y ↦ inl (subst (λ z. has (ids ++ id ∷ []) z ≡ true) (sym y) (has_end ids id))
  | inr o ↦
      let same : get n q ≡ get m q = subst (λ z. get z q ≡ get m q) (sym e) (rw (get-insert nat_cmp_total, differs q id o) refl) in
      elim (k q (ap is_some (sym same) ∙ on)) [
        | inl y ↦ inl (has_more ids (id ∷ []) q y)
        | inr p ↦ inr (subst HasPair (ap (λ z. unwrap_or (option_map (λ d. d.literals) z) []) (sym same)) p)
      ]
]

-- ---- The last id taken off

pub member_last : (xs : List ℕ) (x q : ℕ) → has (xs ++ x ∷ []) q ≡ true → (has xs q ≡ true) ⊎ (q ≡ x)
member_last [] x q m = elim (member_cases x q [] m) [ inl e ↦ inr e | inr n ↦ inl n ]
member_last (y ∷ xs) x q m = elim (member_cases y q (xs ++ x ∷ []) m) [
  | inl e ↦ inl (subst (λ z. has (y ∷ xs) z ≡ true) (sym e) (has-here y xs))
  | inr n ↦ elim (member_last xs x q n) [ inl f ↦ inl (has-there y q xs f) | inr f ↦ inr f ]
]

pub heads_popped : (m : Store) (ts : List ℕ) (h s : ℕ) (ids : List ℕ) (id slot : ℕ) → s ≤ length ids → slot_at m id ≡ Some slot → ((q : ℕ) → slot_at m q ≡ Some slot → NeedsNoVisit ts (lits_at m q)) → AreHeads m ts h (ids ++ id ∷ []) s → AreHeads m ts h ids s
heads_popped m ts h s ids id slot le here rest k = record {
  head_in = k.head_in;
  ids_in = le;
  ready = λ q t at. elim (k.ready q t at) [
    | inl y ↦ elim (member_last (drop s ids) id q (subst (λ z. has z q ≡ true) (drop-append-le s ids (id ∷ []) le) y)) [
      | inl f ↦ inl f
      | inr f ↦ inr (subst (λ z. IsCovered ts h (lits_at m z)) (sym f) (elim (rest id here).1 [
        | inl a ↦ inl a
        | inr b ↦ inr (two_fewer (take h ts) ts (lits_at m id) (λ x. has_take h x ts) b)
      ]))
    ]
    | inr c ↦ inr c
  ];
}

pub pending_popped : (m : Store) (ids : List ℕ) (id slot : ℕ) → IsStore m → slot_at m id ≡ Some slot → 2 ≤ length (lits_at m id) → ArePending (clauses_of m) (ids ++ id ∷ []) → ArePending (clauses_of m) ids
pending_popped m ids id slot k here long pending q on = elim (pending q on) [
  | inl y ↦ elim (member_last ids id q y) [
    | inl f ↦ inl f
    | inr f ↦ inr (subst (λ z. HasPair (literals_at (clauses_of m) z)) (sym f) (pair_of_list m id slot k here long))
  ]
  | inr p ↦ inr p
]

-- ---- One active clause fewer

pub heads_fewer : (m n : Store) (ts : List ℕ) (h s : ℕ) (ids : List ℕ) (id : ℕ) → ((q : ℕ) → q ≢ id → slot_at n q ≡ slot_at m q) → ((q : ℕ) → q ≢ id → lits_at n q ≡ lits_at m q) → slot_at n id ≡ None → AreHeads m ts h ids s → AreHeads n ts h ids s
heads_fewer m n ts h s ids id slots lists gone k = record {
  head_in = k.head_in;
  ids_in = k.ids_in;
  ready = λ q t at. elim (cases q id) [
    | inl y ↦ absurd (none-some t (sym gone ∙ sym (ap (slot_at n) y) ∙ at))
    | inr o ↦ elim (k.ready q t (sym (slots q o) ∙ at)) [
      | inl y ↦ inl y
      | inr y ↦ inr (subst (λ z. IsCovered ts h z) (sym (lists q o)) y)
    ]
  ];
}

pub heads_removed : (m n : Store) (ts : List ℕ) (h s : ℕ) (ids : List ℕ) (id : ℕ) → n ≡ remove m id → AreHeads m ts h ids s → AreHeads n ts h ids s
heads_removed m n ts h s ids id e k = let x = same_remove m n id e in
    heads_fewer m n ts h s ids id x.slots x.lists (subst (λ z. slot_at z id ≡ None) (sym e) (rw (get-remove nat_cmp_total, ties id) refl)) k

pub heads_weakened : (m n : Store) (ts : List ℕ) (h s : ℕ) (ids : List ℕ) (id : ℕ) → n ≡ insert m id (held.weakened_entry (held.literals_at m id) (held.kept_at m id)) → AreHeads m ts h ids s → AreHeads n ts h ids s
heads_weakened m n ts h s ids id e k = let x = same_insert m n id _ e in
    heads_fewer m n ts h s ids id x.slots x.lists (subst (λ z. slot_at z id ≡ None) (sym e) (rw (get-insert nat_cmp_total, ties id) refl)) k

pub pending_removed : (m n : Clauses) (ids : List ℕ) (id : ℕ) → n ≡ remove m id → ArePending m ids → ArePending n ids
pending_removed m n ids id e k q on = elim (cases q id) [
  | inl y ↦
      let none : get n id ≡ None = subst (λ z. get z id ≡ None) (sym e) (rw (get-remove nat_cmp_total, ties id) refl) in
      absurd (both_ways _ (let f : is_some (get n id) ≡ false = rw none refl in f) (ap (λ z. is_some (get n z)) (sym y) ∙ on))
  | inr o ↦
      let same : get n q ≡ get m q = subst (λ z. get z q ≡ get m q) (sym e) (rw (get-remove nat_cmp_total, differs q id o) refl) in
      elim (k q (ap is_some (sym same) ∙ on)) [
        | inl y ↦ inl y
        | inr p ↦ inr (subst HasPair (ap (λ z. unwrap_or (option_map (λ d. d.literals) z) []) (sym same)) p)
      ]
]

-- a clause that is held keeps its literals
pub pending_kept : (m n : Clauses) (ids : List ℕ) (id : ℕ) (c : Clause) → n ≡ insert m id c → contains_key m id ≡ true → c.literals ≡ literals_at m id → ArePending m ids → ArePending n ids
pending_kept m n ids id c e on_before lits k q on = elim (cases q id) [
  | inl y ↦
      let here : get n id ≡ Some c = subst (λ z. get z id ≡ Some c) (sym e) (rw (get-insert nat_cmp_total, ties id) refl) in
      let same : literals_at n id ≡ literals_at m id = ap (λ z. unwrap_or (option_map (λ d. d.literals) z) []) here ∙ lits in
      elim (k id on_before) [
        | inl f ↦ inl (subst (λ z. has ids z ≡ true) (sym y) f)
        | inr p ↦ inr (subst (λ z. HasPair (literals_at n z)) (sym y) (subst HasPair (sym same) p))
      ]
  | inr o ↦
      let same : get n q ≡ get m q = subst (λ z. get z q ≡ get m q) (sym e) (rw (get-insert nat_cmp_total, differs q id o) refl) in
      elim (k q (ap is_some (sym same) ∙ on)) [
        | inl y ↦ inl y
        | inr p ↦ inr (subst HasPair (ap (λ z. unwrap_or (option_map (λ d. d.literals) z) []) (sym same)) p)
      ]
]

-- ---- The end of a propagation

pub propagated : (e : EngineView) (m : Store) (h : ℕ) → e.clauses ≡ clauses_of m → IsEngine e → IsStore m → h ≡ length e.trail → IsReady m (literals e.trail) h [] → IsPropagated e
propagated e m h same k stored all ready id c at =
    let at2 : active_at (clauses_of m) id ≡ Some c = subst (λ z. active_at z id ≡ Some c) same at in
    let r = slot_if_active (clauses_of m) id c at2 in
    let slot : slot_at m id ≡ Some r.0 = sym (slot_of-clauses_of m id) ∙ r.1 in
    done_quiet m id r.0 (literals e.trail) (lits_at m id) stored slot refl (elim (ready id r.0 slot) [
      | inl none ↦ absurd (let g : false ≡ true = none in cc g)
      | inr cov ↦ covered_quiet (literals e.trail) (lits_at m id) (consistent_trail e k) (once-lits m id r.0 stored slot)
          (subst (λ z. IsCovered (literals e.trail) z (lits_at m id)) (all ∙ sym (length-literals e.trail)) cov)
    ]) c at2

-- ---- Ids that needn't be looked at

kept_member : (p : ℕ → Bool) (ids : List ℕ) (q : ℕ) → has ids q ≡ true → p q ≡ true → has (filter p ids) q ≡ true
kept_member p ids q m y = has_from (filter p ids) q (filter_from p ids q (has_at ids q m) y)

active_list : (m : Store) (q : ℕ) → 2 ≤ length (lits_at m q) → (s : ℕ) × (slot_at m q ≡ Some s)
active_list m q long = by_place (held.place_at m q) refl
  where
    by_place : (o : Option held.Place) → held.place_at m q ≡ o → (s : ℕ) × (slot_at m q ≡ Some s)
    by_place None e = let none : lits_at m q ≡ [] = rw e refl in absurd (let l = ap length none in omega (arith, l, long))
    by_place (Some p) e = (p.slot, rw e refl)

pub pending_kept_short : (m : Store) (ids fewer : List ℕ) → IsStore m → fewer ≡ filter (λ id. nat_lt (length (lits_at m id)) 2) ids → ArePending (clauses_of m) ids → ArePending (clauses_of m) fewer
pending_kept_short m ids fewer k is pending q on = elim (pending q on) [
  | inr p ↦ inr p
  | inl y ↦ elim (cases_Bool (nat_lt (length (lits_at m q)) 2)) [
    | inl t ↦ inl (subst (λ z. has z q ≡ true) (sym is) (kept_member (λ id. nat_lt (length (lits_at m id)) 2) ids q y t))
    | inr f ↦
        let long : 2 ≤ length (lits_at m q) = ltb-false _ _ f in
        let a = active_list m q long in
        inr (pair_of_list m q a.0 k a.1 long)
  ]
]
