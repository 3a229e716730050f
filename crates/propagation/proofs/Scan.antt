-- What a scan over the ids finds.
use Rattle.std.proofs.Common.{◌≡◌, ℕ, suc, zero, ◌<◌, List, [], ◌∷◌, length, get_or, Option, Some, None, refl, sym, ◌∙◌, subst, inl, inr, arith, true, false, Bool, nat_eq, ◌||◌, Contains, eqb-true}
use Rattle.std.specs.List.{list_all}
use Rattle.std.proofs.lemmas.Option.{same_Some, none-some}
use Rattle.std.proofs.lemmas.Bool.{cases_Bool, both_ways, and_parts, and_from, or_cases}
use Rattle.lits.specs.Literal.{neg}
use Rattle.session_rules.specs.Logic.{has, is_falsified, is_unit}
use Rattle.lits.proofs.Members.{here, there, not_in_nil, here_or_there, all_at}
use Rattle.clause_store.specs.Clauses.{ClauseEntry, Store, slot_at, lits_at, is_held, IsStore}
use Rattle.std.specs.FinMap.{get}
use Rattle.propagation.specs.Clauses.{clauses_of, slot_of, active_at}
use Rattle.propagation.specs.Engine.{IsQuiet, IsReason}
use Rattle.propagation.proofs.ClausesMap.{active-at_slot, falsified_same, unit_same, quiet_same, slot_if_active, slot_of-clauses_of}

pub all_by_index : (p : ℕ → Bool) (xs : List ℕ) → ((k : ℕ) → k < length xs → p (get_or xs k 0) ≡ true) → list_all p xs ≡ true
all_by_index p [] h = refl
all_by_index p (x ∷ xs) h = and_from _ _ (h zero (omega arith)) (all_by_index p xs (λ k lt. h (suc k) (omega arith)))

pub contains_at : (xs : List ℕ) (k : ℕ) → k < length xs → Contains xs (get_or xs k 0)
contains_at [] k lt = absurd (omega arith)
contains_at (x ∷ xs) zero lt = here x xs
contains_at (x ∷ xs) (suc k) lt = there x _ xs (contains_at xs k (omega arith))

pub index_of : (xs : List ℕ) (x : ℕ) → Contains xs x → (k : ℕ) × (k < length xs) × (get_or xs k 0 ≡ x)
index_of [] x h = absurd (not_in_nil x h)
index_of (y ∷ xs) x h = elim (here_or_there y x xs h) [
  | inl e ↦ (zero, omega arith, e)
  | inr n ↦ let r = index_of xs x n in (suc r.0, omega (arith, r.1), r.2)
]

-- ---- One clause

-- a clause with a literal that is true is quiet
pub quiet_true : (trues c : List ℕ) (m : ℕ) → Contains c m → has trues (neg m) ≡ false → has trues m ≡ true → IsQuiet trues c
quiet_true trues c m n f t = record {
  not_false = elim (cases_Bool (is_falsified trues c)) [
    | inl y ↦ absurd (both_ways _ f (all_at (λ x. has trues (neg x)) c m y n))
    | inr o ↦ o
  ];
  not_unit = λ l u free. elim (or_cases _ _ (all_at (λ x. nat_eq l x || has trues (neg x)) c m (and_parts _ _ u).1 n)) [
    | inl y ↦ both_ways _ free.0 (subst (λ z. has trues z ≡ true) (sym (eqb-true l m y)) t)
    | inr y ↦ both_ways _ f y
  ];
}

-- and so is one with another literal that isn't false either
pub quiet_two : (trues c : List ℕ) (m : ℕ) → Contains c m → has trues (neg m) ≡ false → list_all (λ x. nat_eq m x || has trues (neg x)) c ≡ false → IsQuiet trues c
quiet_two trues c m n f t = record {
  not_false = elim (cases_Bool (is_falsified trues c)) [
    | inl y ↦ absurd (both_ways _ f (all_at (λ x. has trues (neg x)) c m y n))
    | inr o ↦ o
  ];
  not_unit = λ l u free. elim (or_cases _ _ (all_at (λ x. nat_eq l x || has trues (neg x)) c m (and_parts _ _ u).1 n)) [
    | inl y ↦ both_ways _ t (subst (λ z. list_all (λ x. nat_eq z x || has trues (neg x)) c ≡ true) (eqb-true l m y) (and_parts _ _ u).1)
    | inr y ↦ both_ways _ f y
  ];
}

-- ---- One id

-- of the clause of this id nothing follows
abbrev pub IsDone : Store → List ℕ → ℕ → Type 0
IsDone m trues id = (c : List ℕ) → active_at (clauses_of m) id ≡ Some c → IsQuiet trues c

pub done_quiet : (m : Store) (id s : ℕ) (trues ls : List ℕ) → IsStore m → slot_at m id ≡ Some s → lits_at m id ≡ ls → IsQuiet trues ls → IsDone m trues id
done_quiet m id s trues ls k e same q = λ c at. let a = active-at_slot m id s k e in
    let d : a.lits ≡ c = same_Some _ _ (sym a.here ∙ at) in
    subst (IsQuiet trues) d (quiet_same trues _ _ a.same (subst (IsQuiet trues) (sym same) q))

pub done_none : (m : Store) (id : ℕ) (trues : List ℕ) → slot_at m id ≡ None → IsDone m trues id
done_none m id trues e = λ c at. let r = slot_if_active (clauses_of m) id c at in absurd (none-some r.0 (sym e ∙ sym (slot_of-clauses_of m id) ∙ r.1))

pub active_if_seen : (m : Store) (id : ℕ) (c : List ℕ) → active_at (clauses_of m) id ≡ Some c → is_held m id ≡ true
active_if_seen m id c at = let r = slot_if_active (clauses_of m) id c at in by_value (get m id) refl (sym (slot_of-clauses_of m id) ∙ r.1)
  where
    by_value : (o : Option ClauseEntry) {s : ℕ} → get m id ≡ o → slot_at m id ≡ Some s → is_held m id ≡ true
    by_value None g f = let e : slot_at m id ≡ None = rw g refl in absurd (none-some _ (sym e ∙ f))
    by_value (Some h) g f = rw g refl

pub false_at : (m : Store) (id s : ℕ) (trues ls : List ℕ) → IsStore m → slot_at m id ≡ Some s → lits_at m id ≡ ls → is_falsified trues ls ≡ true
    → (id : ℕ) × (c : List ℕ) × (slot_of (clauses_of m) id ≡ Some s) × (active_at (clauses_of m) id ≡ Some c) × (is_falsified trues c ≡ true)
false_at m id s trues ls k e same f = let a = active-at_slot m id s k e in
    (id, a.lits, a.slot, a.here, falsified_same trues _ _ a.same (subst (λ z. is_falsified trues z ≡ true) (sym same) f))

pub unit_at : (m : Store) (id s l : ℕ) (trues ls : List ℕ) → IsStore m → slot_at m id ≡ Some s → lits_at m id ≡ ls → is_unit trues ls l ≡ true → IsReason (clauses_of m) trues l s
unit_at m id s l trues ls k e same f = let a = active-at_slot m id s k e in
    (id, a.lits, a.slot, a.here, unit_same trues _ _ l a.same (subst (λ z. is_unit trues z l ≡ true) (sym same) f))
