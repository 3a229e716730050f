-- How the clauses of a store stand, by the store's own tests.
use Rattle.std.proofs.Common.{◌≡◌, ℕ, ◌≤◌, Bool, true, false, not, ◌&&◌, if◌then◌else◌, List, [], Contains, Option, Some, None, refl, sym, ap, ◌∙◌, inl, inr}
use Rattle.std.specs.Prelude.{is_some, option_map, option_and_then, unwrap_or}
use Rattle.std.specs.FinMap as finmap
use Rattle.std.specs.FinMap.{get, empty}
use Rattle.lits.specs.Literal.{var}
use Rattle.lits.specs.Clause.{set_of}
use Rattle.session_rules.specs.Own as own
use Rattle.clause_store.specs.Clauses as store
use Rattle.clause_store.specs.Clauses.{ClauseEntry, Place, Store, slot_at, literals_at, is_held}
use Rattle.side_laws.specs.ClauseStates.{ClauseState, Clauses, kept, kept_of_held, clauses_of_store, standing_of, active_literals, active_in, AreWithin, ChangesAt}
use Rattle.side_laws.proofs.Maps.{get-kept_by, empty-kept_by, changes-insert, changes-remove, same_or_other}

active_by_place : (ls : List ℕ) (p : Option Place) → is_some (option_map (λ (q : Place). q.slot) p) ≡ own.is_active (standing_of (Some (kept (is_some p) ls)))
active_by_place ls None = refl
active_by_place ls (Some p) = refl

active_by : (o : Option ClauseEntry) → is_some (option_map (λ (q : Place). q.slot) (option_and_then (λ (h : ClauseEntry). h.place) o)) ≡ own.is_active (standing_of (option_map kept_of_held o))
active_by None = refl
active_by (Some h) = active_by_place h.literals h.place

weakened_by_place : (ls : List ℕ) (p : Option Place) → not (is_some (option_map (λ (q : Place). q.slot) p)) ≡ own.is_weakened (standing_of (Some (kept (is_some p) ls)))
weakened_by_place ls None = refl
weakened_by_place ls (Some p) = refl

weakened_by : (o : Option ClauseEntry) → is_some o && not (is_some (option_map (λ (q : Place). q.slot) (option_and_then (λ (h : ClauseEntry). h.place) o))) ≡ own.is_weakened (standing_of (option_map kept_of_held o))
weakened_by None = refl
weakened_by (Some h) = weakened_by_place h.literals h.place

absent_by_place : (ls : List ℕ) (b : Bool) → false ≡ own.is_absent (standing_of (Some (kept b ls)))
absent_by_place ls true = refl
absent_by_place ls false = refl

absent_by : (o : Option ClauseEntry) → not (is_some o) ≡ own.is_absent (standing_of (option_map kept_of_held o))
absent_by None = refl
absent_by (Some h) = absent_by_place h.literals (is_some h.place)

-- the store's tests of an id are those of its standing
pub active-store : (m : Store) (id : ℕ) → store.is_active m id ≡ own.is_active (standing_of (get (clauses_of_store m) id))
active-store m id = active_by (get m id) ∙ ap (λ o. own.is_active (standing_of o)) (sym (get-kept_by kept_of_held m id))

pub weakened-store : (m : Store) (id : ℕ) → store.is_weakened m id ≡ own.is_weakened (standing_of (get (clauses_of_store m) id))
weakened-store m id = weakened_by (get m id) ∙ ap (λ o. own.is_weakened (standing_of o)) (sym (get-kept_by kept_of_held m id))

pub absent-store : (m : Store) (id : ℕ) → not (is_held m id) ≡ own.is_absent (standing_of (get (clauses_of_store m) id))
absent-store m id = absent_by (get m id) ∙ ap (λ o. own.is_absent (standing_of o)) (sym (get-kept_by kept_of_held m id))

-- what is kept of an id with this standing
kept_active : (o : Option ClauseEntry) → own.is_active (standing_of (option_map kept_of_held o)) ≡ true → option_map kept_of_held o ≡ Some (kept true (unwrap_or (option_map (λ (h : ClauseEntry). h.literals) o) []))
kept_active None e = cc e
kept_active (Some h) e = by_place (is_some h.place) e
  where
    by_place : (b : Bool) → own.is_active (standing_of (Some (kept b h.literals))) ≡ true → Some (kept b h.literals) ≡ Some (kept true h.literals)
    by_place true e = refl
    by_place false e = cc e

kept_weakened : (o : Option ClauseEntry) → own.is_weakened (standing_of (option_map kept_of_held o)) ≡ true → option_map kept_of_held o ≡ Some (kept false (unwrap_or (option_map (λ (h : ClauseEntry). h.literals) o) []))
kept_weakened None e = cc e
kept_weakened (Some h) e = by_place (is_some h.place) e
  where
    by_place : (b : Bool) → own.is_weakened (standing_of (Some (kept b h.literals))) ≡ true → Some (kept b h.literals) ≡ Some (kept false h.literals)
    by_place true e = cc e
    by_place false e = refl

pub get-active : (m : Store) (id : ℕ) → store.is_active m id ≡ true → get (clauses_of_store m) id ≡ Some (kept true (literals_at m id))
get-active m id e = get-kept_by kept_of_held m id ∙ kept_active (get m id) (sym (active_by (get m id)) ∙ e)

pub get-weakened : (m : Store) (id : ℕ) → store.is_weakened m id ≡ true → get (clauses_of_store m) id ≡ Some (kept false (literals_at m id))
get-weakened m id e = get-kept_by kept_of_held m id ∙ kept_weakened (get m id) (sym (weakened_by (get m id)) ∙ e)

-- ---- What the store's calls change

pub store_added : (m n : Store) (id s : ℕ) (c : List ℕ) → n ≡ finmap.insert m id (store.new_clause c s) → ChangesAt (clauses_of_store m) (clauses_of_store n) id (Some (kept true (set_of c)))
store_added m n id s c e = changes-insert kept_of_held m n id (store.new_clause c s) e

pub store_deleted : (m n : Store) (id : ℕ) → n ≡ finmap.remove m id → ChangesAt (clauses_of_store m) (clauses_of_store n) id None
store_deleted m n id e = changes-remove kept_of_held m n id e

pub store_weakened : (m n : Store) (id : ℕ) (ls : List ℕ) (s : ℕ) → n ≡ finmap.insert m id (store.weakened_entry ls s) → ChangesAt (clauses_of_store m) (clauses_of_store n) id (Some (kept false ls))
store_weakened m n id ls s e = changes-insert kept_of_held m n id (store.weakened_entry ls s) e

pub store_restored : (m n : Store) (id : ℕ) → store.IsRestored m id n → ChangesAt (clauses_of_store m) (clauses_of_store n) id (Some (kept true (literals_at m id)))
store_restored m n id r = changes-insert kept_of_held m n id (store.active_entry (literals_at m id) r.lits r.slot) r.changed

-- the active clauses by id are those that the hint rule takes
pub active_in-store : (m : Store) (id : ℕ) → option_and_then (λ (h : ClauseEntry). if is_some h.place then Some h.literals else None) (get m id) ≡ active_in (clauses_of_store m) id
active_in-store m id = by_held (get m id) ∙ ap active_literals (sym (get-kept_by kept_of_held m id))
  where
    by_held : (o : Option ClauseEntry) → option_and_then (λ (h : ClauseEntry). if is_some h.place then Some h.literals else None) o ≡ active_literals (option_map kept_of_held o)
    by_held None = refl
    by_held (Some h) = refl

-- ---- Variables

pub within-change : (m n : Clauses) (id vars : ℕ) (now : Option ClauseState) → ChangesAt m n id now
    → ((k : ClauseState) → now ≡ Some k → (l : ℕ) → Contains k.literals l → var l ≤ vars) → AreWithin m vars → AreWithin n vars
within-change m n id vars now change new h = λ x k e. elim (same_or_other x id) [
  | inl y ↦ new k (sym change.there ∙ ap (get n) (sym y) ∙ e)
  | inr ne ↦ h x k (sym (change.others x ne) ∙ e)
]

pub within-empty : (vars : ℕ) → AreWithin (clauses_of_store empty) vars
within-empty vars = λ id k e. let f : None ≡ Some k = sym (empty-kept_by kept_of_held id) ∙ e in cc f
