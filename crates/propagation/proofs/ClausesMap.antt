-- The clauses of an engine and those of its store.
use Rattle.std.proofs.Common.{◌≡◌, ℕ, ◌⊎◌, List, [], ◌∷◌, map, Option, Some, None, refl, sym, ap, ◌∙◌, subst, inl, inr, true, Bool, nat_eq, ◌||◌, Contains, eqb-true}
use Rattle.std.specs.Prelude.{is_some, option_map, option_and_then}
use Rattle.std.specs.List.{list_any, list_all}
use Rattle.std.proofs.lemmas.Option.{same_Some, none-some}
use Rattle.std.proofs.lemmas.Bool.{cases_Bool, both_ways, and_parts, and_from, or_cases}
use Rattle.std.specs.Ordering.{nat_cmp, eq_by_cmp}
use Rattle.std.specs.Cmp.{nat_cmp_total, unsigned_tied}
use Rattle.std.specs.FinMap.{get, entries, find, keys, get-entries, get-from_entries, contains_key-keys}
use Rattle.session_rules.specs.Logic.{has, is_falsified, is_unit}
use Rattle.lits.proofs.Members.{here, there, not_in_nil, here_or_there, all_at, all_from, has_at, has_from}
use Rattle.clause_store.specs.Clauses.{ClauseEntry, Place, Store, slot_at, lits_at, IsStore}
use Rattle.lits.specs.Clause.{set_of}
use Rattle.lits.proofs.Ascending.{has-set_of}
use Rattle.propagation.specs.Clauses.{Clause, Clauses, clause_of, clauses_of, slot_of, active_at, active_among, with_clause, active}
use Rattle.propagation.specs.Engine.{IsQuiet}

-- ---- Members

abbrev pub SameMembers : List ℕ → List ℕ → Type 0
SameMembers ls ms = (q : ℕ) → has ls q ≡ has ms q

tests : (ls : List ℕ) (q : ℕ) → list_any (eq_by_cmp nat_cmp q) ls ≡ has ls q
tests [] q = refl
tests (l ∷ ls) q = (λ i. unsigned_tied q l i || tests ls q i)

pub same_items : (ls s : List ℕ) → set_of ls ≡ s → SameMembers ls s
same_items ls s e = λ q. sym (has-set_of ls q) ∙ ap (λ z. has z q) e

pub all_same : (p : ℕ → Bool) (ls ms : List ℕ) → SameMembers ls ms → list_all p ls ≡ true → list_all p ms ≡ true
all_same p ls ms s h = all_from p ms (λ y m. all_at p ls y h (has_at ls y (s y ∙ has_from ms y m)))

pub falsified_same : (trues ls ms : List ℕ) → SameMembers ls ms → is_falsified trues ls ≡ true → is_falsified trues ms ≡ true
falsified_same trues ls ms s h = all_same _ ls ms s h

pub unit_same : (trues ls ms : List ℕ) (l : ℕ) → SameMembers ls ms → is_unit trues ls l ≡ true → is_unit trues ms l ≡ true
unit_same trues ls ms l s h = let r = and_parts _ _ h in and_from _ _ (sym (s l) ∙ r.0) (all_same _ ls ms s r.1)

pub quiet_same : (trues ls ms : List ℕ) → SameMembers ls ms → IsQuiet trues ls → IsQuiet trues ms
quiet_same trues ls ms s h = record {
  not_false = elim (cases_Bool (is_falsified trues ms)) [
    | inl y ↦ absurd (both_ways _ h.not_false (falsified_same trues ms ls (λ q. sym (s q)) y))
    | inr n ↦ n
  ];
  not_unit = λ l u f. h.not_unit l (unit_same trues ms ls l (λ q. sym (s q)) u) f;
}

-- ---- The map

find-map : (es : List (ℕ × ClauseEntry)) (q : ℕ) → find nat_cmp q (map (λ e. (e.0, clause_of e.1)) es) ≡ option_map clause_of (find nat_cmp q es)
find-map [] q = refl
find-map (e ∷ es) q = elim (cases_Bool (eq_by_cmp nat_cmp q e.0)) [
  | inl y ↦ rw y refl
  | inr n ↦ rw n (find-map es q)
]

pub get-clauses_of : (m : Store) (q : ℕ) → get (clauses_of m) q ≡ option_map clause_of (get m q)
unfolding clauses_of
get-clauses_of m q = get-from_entries nat_cmp_total _ q ∙ find-map (entries m) q ∙ ap (option_map clause_of) (sym (get-entries m q))

mapped_slot : (o : Option ClauseEntry) → option_and_then (λ c. c.slot) (option_map clause_of o) ≡ option_map (λ p. p.slot) (option_and_then (λ h. h.place) o)
mapped_slot None = refl
mapped_slot (Some h) = refl

pub slot_of-clauses_of : (m : Store) (q : ℕ) → slot_of (clauses_of m) q ≡ slot_at m q
slot_of-clauses_of m q = ap (option_and_then (λ c. c.slot)) (get-clauses_of m q) ∙ mapped_slot (get m q)

-- the literals of an active clause of the store
pub record Active (m : Store) (id s : ℕ) : Type 0 where
  pub lits : List ℕ
  pub here : active_at (clauses_of m) id ≡ Some lits
  pub slot : slot_of (clauses_of m) id ≡ Some s
  pub same : SameMembers (lits_at m id) lits

active-held : (m : Store) (id s : ℕ) → IsStore m → slot_at m id ≡ Some s → (o : Option ClauseEntry) → get m id ≡ o → Active m id s
active-held m id s k e None g = let f : slot_at m id ≡ None = rw g refl in absurd (none-some s (sym f ∙ e))
active-held m id s k e (Some h) g = active-place h.place refl
  where
    active-place : (o : Option Place) → h.place ≡ o → Active m id s
    active-place None p = let f : slot_at m id ≡ None = rw (g, p) refl in absurd (none-some s (sym f ∙ e))
    active-place (Some place) p =
        let got : get (clauses_of m) id ≡ Some (clause_of h) = get-clauses_of m id ∙ ap (option_map clause_of) g in
        let lits : lits_at m id ≡ place.lits = rw (g, p) refl in
        record {
          lits = h.literals;
          here = rw (got, p) refl;
          slot = slot_of-clauses_of m id ∙ e;
          same = λ q. ap (λ z. has z q) lits ∙ same_items place.lits h.literals (k.same_literals id h place g p).0 q;
        }

pub active-at_slot : (m : Store) (id s : ℕ) → IsStore m → slot_at m id ≡ Some s → Active m id s
active-at_slot m id s k e = active-held m id s k e (get m id) refl

-- a clause that is seen as active has a slot
pub slot_if_active : (m : Clauses) (id : ℕ) (c : List ℕ) → active_at m id ≡ Some c → (s : ℕ) × (slot_of m id ≡ Some s)
slot_if_active m id c e = by_clause (get m id) refl
  where
    by_slot : (k : Clause) → get m id ≡ Some k → (o : Option ℕ) → k.slot ≡ o → (s : ℕ) × (slot_of m id ≡ Some s)
    by_slot k g None p = let f : active_at m id ≡ None = rw (g, p) refl in absurd (none-some c (sym f ∙ e))
    by_slot k g (Some s) p = (s, rw (g, p) refl)

    by_clause : (o : Option Clause) → get m id ≡ o → (s : ℕ) × (slot_of m id ≡ Some s)
    by_clause None g = let f : active_at m id ≡ None = rw g refl in absurd (none-some c (sym f ∙ e))
    by_clause (Some k) g = by_slot k g k.slot refl

-- ---- The list

from_first : (m : Clauses) (id : ℕ) (cs : List (List ℕ)) (c : List ℕ) → (Contains cs c → (id : ℕ) × (active_at m id ≡ Some c)) → (o : Option (List ℕ)) → active_at m id ≡ o
    → Contains (with_clause o cs) c → (id : ℕ) × (active_at m id ≡ Some c)
from_first m id cs c rest None e h = rest h
from_first m id cs c rest (Some d) e h = elim (here_or_there d c cs h) [
  | inl y ↦ (id, e ∙ ap Some y)
  | inr n ↦ rest n
]

pub active-from : (m : Clauses) (ids : List ℕ) (c : List ℕ) → Contains (active_among m ids) c → (id : ℕ) × (active_at m id ≡ Some c)
active-from m [] c h = absurd (not_in_nil c h)
active-from m (id ∷ ids) c h = from_first m id (active_among m ids) c (λ r. active-from m ids c r) (active_at m id) refl h

to_first : (m : Clauses) (k id : ℕ) (ids : List ℕ) (cs : List (List ℕ)) (c : List ℕ) → active_at m id ≡ Some c → (has ids id ≡ true → Contains cs c) → (o : Option (List ℕ)) → active_at m k ≡ o
    → ((nat_eq id k ≡ true) ⊎ (has ids id ≡ true)) → Contains (with_clause o cs) c
to_first m k id ids cs c e rest None f (inl y) = absurd (none-some c (sym f ∙ sym (ap (active_at m) (eqb-true id k y)) ∙ e))
to_first m k id ids cs c e rest None f (inr n) = rest n
to_first m k id ids cs c e rest (Some d) f (inl y) = let g : d ≡ c = same_Some _ _ (sym f ∙ sym (ap (active_at m) (eqb-true id k y)) ∙ e) in subst (λ z. Contains (d ∷ cs) z) g (here d cs)
to_first m k id ids cs c e rest (Some d) f (inr n) = there d c cs (rest n)

active-to : (m : Clauses) (ids : List ℕ) (id : ℕ) (c : List ℕ) → has ids id ≡ true → active_at m id ≡ Some c → Contains (active_among m ids) c
active-to m [] id c h e = cc
active-to m (k ∷ ids) id c h e = to_first m k id ids (active_among m ids) c e (λ n. active-to m ids id c n e) (active_at m k) refl (or_cases _ _ h)

pub Contains-active : (m : Clauses) (id : ℕ) (c : List ℕ) → active_at m id ≡ Some c → Contains (active m) c
unfolding active
Contains-active m id c e = active-to m (keys m) id c (sym (contains_key-keys m id ∙ tests (keys m) id) ∙ in_map (get m id) refl) e
  where
    in_map : (o : Option Clause) → get m id ≡ o → is_some (get m id) ≡ true
    in_map None g = let f : active_at m id ≡ None = rw g refl in absurd (none-some c (sym f ∙ e))
    in_map (Some k) g = rw g refl

pub at_active : (m : Clauses) (c : List ℕ) → Contains (active m) c → (id : ℕ) × (active_at m id ≡ Some c)
unfolding active
at_active m c h = active-from m (keys m) c h

-- ---- What an engine's store holds

module _ (m : Store) (cs : Clauses) (same : clauses_of m ≡ cs) where
  pub stored_slot : (id : ℕ) → slot_at m id ≡ slot_of cs id
  stored_slot id = sym (slot_of-clauses_of m id) ∙ ap (λ z. slot_of z id) same

  pub stored_literals : IsStore m → (id : ℕ) (c : List ℕ) → active_at cs id ≡ Some c → (l : ℕ) → has (lits_at m id) l ≡ has c l
  stored_literals k id c at l =
      let seen : active_at (clauses_of m) id ≡ Some c = ap (λ z. active_at z id) same ∙ at in
      let slot = slot_if_active (clauses_of m) id c seen in
      let a = active-at_slot m id slot.0 k (sym (slot_of-clauses_of m id) ∙ slot.1) in
      a.same l ∙ ap (λ z. has z l) (same_Some _ _ (sym a.here ∙ seen))
