-- The clauses of an engine, and what its calls change.
use Rattle.std.proofs.Common.{◌≡◌, ℕ, ◌≤◌, Bool, true, false, if◌then◌else◌, List, [], Option, Some, None, refl, sym, ap, ◌∙◌, subst}
use Rattle.std.specs.Prelude.{is_some, option_map, option_and_then, unwrap_or}
use Rattle.std.proofs.lemmas.Option.{same_Some}
use Rattle.std.specs.FinMap as finmap
use Rattle.std.specs.FinMap.{get}
use Rattle.lits.specs.Clause.{same_set, set_of}
use Rattle.lits.proofs.Ascending.{set_of-same}
use Rattle.session_rules.specs.Own as own
use Rattle.session_rules.specs.Logic.{Closes, closes}
use Rattle.session_rules.proofs.Closing.{Closes-from_closes}
use Rattle.session_rules.proofs.Rounds.{closes-from_Closes}
use Rattle.clause_store.specs.Clauses as store
use Rattle.clause_store.specs.Clauses.{ClauseEntry, Place, Store}
use Rattle.propagation.specs.Clauses as seen
use Rattle.propagation.specs.Clauses.{Clause, clause_of, clauses_of, active, active_at, slot_of}
use Rattle.propagation.specs.Engine.{EngineView, with_clauses, added_clause, weakened_clause, IsRestored, Grows}
use Rattle.propagation.proofs.ClausesMap.{get-clauses_of, Contains-active, at_active}
use Rattle.side_laws.specs.ClauseStates.{kept, kept_of_held, clauses_of_store, standing_of, ChangesAt}
use Rattle.side_laws.specs.Sets.{HoldsSets, IsLeast, AreActive}
use Rattle.side_laws.proofs.Maps.{get-kept_by, changes-insert, changes-remove}
use Rattle.side_laws.proofs.Stores.{active-store, weakened-store, get-active, get-weakened}
use Rattle.side_laws.proofs.Held.{held-set, closes_over_kept}
use Rattle.session_rules.specs.declared.Step.{Step}
use Rattle.pair_matcher.specs.Inside.{kept_of_clause, clauses_of_engine}

-- ---- The engine's store

by_place : (ls : List ℕ) (p : Option Place) → kept (is_some (option_map (λ (q : Place). q.slot) p)) ls ≡ kept (is_some p) ls
by_place ls None = refl
by_place ls (Some p) = refl

by_held : (o : Option ClauseEntry) → option_map kept_of_clause (option_map clause_of o) ≡ option_map kept_of_held o
by_held None = refl
by_held (Some h) = ap Some (by_place h.literals h.place)

module _ (m : Store) (e : EngineView) (same : clauses_of m ≡ e.clauses) where
  pub engine_store : (id : ℕ) → get (clauses_of_engine e) id ≡ get (clauses_of_store m) id
  engine_store id = get-kept_by kept_of_clause e.clauses id ∙ ap (λ z. option_map kept_of_clause (get z id)) (sym same)
      ∙ ap (option_map kept_of_clause) (get-clauses_of m id) ∙ by_held (get m id) ∙ sym (get-kept_by kept_of_held m id)

  pub found_active : (set : List ℕ) (id : ℕ) → store.IsActiveWith m set id → get (clauses_of_engine e) id ≡ Some (kept true set)
  found_active set id h = engine_store id ∙ get-active m id h.0 ∙ ap (λ ls. Some (kept true ls)) h.1

  pub found_weakened : (set : List ℕ) (id : ℕ) → store.IsWeakenedWith m set id → get (clauses_of_engine e) id ≡ Some (kept false set)
  found_weakened set id h = engine_store id ∙ get-weakened m id h.0 ∙ ap (λ ls. Some (kept false ls)) h.1

  module _ (next : ℕ) (ps : List Step) (h : HoldsSets (clauses_of_engine e) next ps) (c set : List ℕ) (is : set ≡ set_of c) where
    as_set : (id : ℕ) (b : Bool) (ls : List ℕ) → get (clauses_of_engine e) id ≡ Some (kept b ls) → same_set c ls ≡ true → ls ≡ set
    as_set id b ls g s = sym (held-set (clauses_of_engine e) next ps h id (kept b ls) g) ∙ sym (set_of-same c ls s) ∙ sym is

    active_with : (id : ℕ) (ls : List ℕ) → get (clauses_of_engine e) id ≡ Some (kept true ls) → same_set c ls ≡ true → store.IsActiveWith m set id
    active_with id ls g s =
        let f : get (clauses_of_store m) id ≡ Some (kept true ls) = sym (engine_store id) ∙ g in
        let active : store.is_active m id ≡ true = active-store m id ∙ ap (λ o. own.is_active (standing_of o)) f in
        (active, ap (λ k. k.literals) (same_Some _ _ (sym (get-active m id active) ∙ f)) ∙ as_set id true ls g s)

    weakened_with : (id : ℕ) (ls : List ℕ) → get (clauses_of_engine e) id ≡ Some (kept false ls) → same_set c ls ≡ true → store.IsWeakenedWith m set id
    weakened_with id ls g s =
        let f : get (clauses_of_store m) id ≡ Some (kept false ls) = sym (engine_store id) ∙ g in
        let weakened : store.is_weakened m id ≡ true = weakened-store m id ∙ ap (λ o. own.is_weakened (standing_of o)) f in
        (weakened, ap (λ k. k.literals) (same_Some _ _ (sym (get-weakened m id weakened) ∙ f)) ∙ as_set id false ls g s)

    pub none_active : ((x : ℕ) → store.IsActiveWith m set x → ⊥) → (id : ℕ) (ls : List ℕ) → get (clauses_of_engine e) id ≡ Some (kept true ls) → same_set c ls ≡ true → ⊥
    none_active none id ls g s = none id (active_with id ls g s)

    pub none_weakened : ((x : ℕ) → store.IsWeakenedWith m set x → ⊥) → (id : ℕ) (ls : List ℕ) → get (clauses_of_engine e) id ≡ Some (kept false ls) → same_set c ls ≡ true → ⊥
    none_weakened none id ls g s = none id (weakened_with id ls g s)

    -- the least id of the store's is the least that is kept
    module _ (id : ℕ) (its_set : same_set c set ≡ true) where
      pub least_active : store.IsActiveWith m set id → ((x : ℕ) → store.IsActiveWith m set x → id ≤ x) → IsLeast (clauses_of_engine e) true c id set
      least_active found least = record { there = found_active set id found; same = its_set; least = λ x xs g s. least x (active_with x xs g s) }

      pub least_weakened : store.IsWeakenedWith m set id → ((x : ℕ) → store.IsWeakenedWith m set x → id ≤ x) → IsLeast (clauses_of_engine e) false c id set
      least_weakened found least = record { there = found_weakened set id found; same = its_set; least = λ x xs g s. least x (weakened_with x xs g s) }

-- ---- What is kept of an id

literals_by : (o : Option Clause) (b : Bool) (ls : List ℕ) → option_map kept_of_clause o ≡ Some (kept b ls) → unwrap_or (option_map (λ (c : Clause). c.literals) o) [] ≡ ls
literals_by None b ls e = cc e
literals_by (Some c) b ls e = ap (λ k. k.literals) (same_Some _ _ e)

literals_is : (e : EngineView) (id : ℕ) (b : Bool) (ls : List ℕ) → get (clauses_of_engine e) id ≡ Some (kept b ls) → seen.literals_at e.clauses id ≡ ls
literals_is e id b ls g = literals_by (get e.clauses id) b ls (sym (get-kept_by kept_of_clause e.clauses id) ∙ g)

slot_by : (o : Option Clause) (ls : List ℕ) → option_map kept_of_clause o ≡ Some (kept true ls) → is_some (option_and_then (λ (c : Clause). c.slot) o) ≡ true
slot_by None ls e = cc e
slot_by (Some c) ls e = ap (λ k. k.active) (same_Some _ _ e)

pub has_slot : (e : EngineView) (id : ℕ) (ls : List ℕ) → get (clauses_of_engine e) id ≡ Some (kept true ls) → is_some (slot_of e.clauses id) ≡ true
has_slot e id ls g = slot_by (get e.clauses id) ls (sym (get-kept_by kept_of_clause e.clauses id) ∙ g)

-- ---- What the engine's calls change

module _ (e f : EngineView) (id : ℕ) where
  pub engine_added : (c : List ℕ) (slot : ℕ) → f ≡ with_clauses e (finmap.insert e.clauses id (added_clause c slot)) → ChangesAt (clauses_of_engine e) (clauses_of_engine f) id (Some (kept true (set_of c)))
  engine_added c slot is = changes-insert kept_of_clause e.clauses f.clauses id (added_clause c slot) (ap (λ z. z.clauses) is)

  pub engine_deleted : f ≡ with_clauses e (finmap.remove e.clauses id) → ChangesAt (clauses_of_engine e) (clauses_of_engine f) id None
  engine_deleted is = changes-remove kept_of_clause e.clauses f.clauses id (ap (λ z. z.clauses) is)

  pub engine_weakened : (b : Bool) (ls : List ℕ) → get (clauses_of_engine e) id ≡ Some (kept b ls) → f ≡ with_clauses e (finmap.insert e.clauses id (weakened_clause (seen.literals_at e.clauses id)))
      → ChangesAt (clauses_of_engine e) (clauses_of_engine f) id (Some (kept false ls))
  engine_weakened b ls g is = subst (λ z. ChangesAt (clauses_of_engine e) (clauses_of_engine f) id (Some (kept false z))) (literals_is e id b ls g)
      (changes-insert kept_of_clause e.clauses f.clauses id (weakened_clause (seen.literals_at e.clauses id)) (ap (λ z. z.clauses) is))

  pub engine_restored : (b : Bool) (ls : List ℕ) → get (clauses_of_engine e) id ≡ Some (kept b ls) → IsRestored e id f → ChangesAt (clauses_of_engine e) (clauses_of_engine f) id (Some (kept true ls))
  engine_restored b ls g r = subst (λ z. ChangesAt (clauses_of_engine e) (clauses_of_engine f) id (Some (kept true z))) (literals_is e id b ls g)
      (changes-insert kept_of_clause e.clauses f.clauses id (record { literals = seen.literals_at e.clauses id; slot = Some r.slot }) (ap (λ z. z.clauses) r.changed))

-- ---- Closing

active_by : (o : Option Clause) (c : List ℕ) → option_and_then seen.if_active o ≡ Some c → option_map kept_of_clause o ≡ Some (kept true c)
active_by None c e = cc e
active_by (Some x) c e = by_slot (is_some x.slot) e
  where
    by_slot : (b : Bool) → (if b then Some (x.literals) else None) ≡ Some c → Some (kept b x.literals) ≡ Some (kept true c)
    by_slot true f = ap (λ z. Some (kept true z)) (same_Some _ _ f)
    by_slot false f = cc f

active_from : (o : Option Clause) (c : List ℕ) → option_map kept_of_clause o ≡ Some (kept true c) → option_and_then seen.if_active o ≡ Some c
active_from None c e = cc e
active_from (Some x) c e = by_slot (is_some x.slot) (same_Some _ _ e)
  where
    by_slot : (b : Bool) → kept b x.literals ≡ kept true c → (if b then Some (x.literals) else None) ≡ Some c
    by_slot true f = ap (λ k. Some k.literals) f
    by_slot false f = let g : false ≡ true = ap (λ k. k.active) f in cc g

are_active : (e : EngineView) → AreActive (clauses_of_engine e) (active e.clauses)
are_active e = record {
  sound = λ c k. let r = at_active e.clauses c k in (r.0, get-kept_by kept_of_clause e.clauses r.0 ∙ active_by (get e.clauses r.0) c r.1);
  whole = λ id c g. Contains-active e.clauses id c (active_from (get e.clauses id) c (sym (get-kept_by kept_of_clause e.clauses id) ∙ g));
}

both : (a b : Bool) → (a ≡ true → b ≡ true) → (b ≡ true → a ≡ true) → a ≡ b
both true b f g = sym (f refl)
both false true f g = g refl
both false false f g = refl

-- what the test of closing answers
pub closes_is : (e : EngineView) (next : ℕ) (ps : List Step) → HoldsSets (clauses_of_engine e) next ps → (ls : List ℕ) (answer : Bool)
    → (answer ≡ true → Closes (active e.clauses) ls) → (Closes (active e.clauses) ls → answer ≡ true) → closes (own.active_clauses ps) ls ≡ answer
closes_is e next ps h ls answer sound complete = sym (closes_over_kept (clauses_of_engine e) next ps h (active e.clauses) (are_active e) ls)
    ∙ both _ _ (λ t. complete (Closes-from_closes (active e.clauses) ls t)) (λ t. closes-from_Closes (active e.clauses) ls (sound t))

-- what the test leaves
pub grown_clauses : (e f : EngineView) → Grows e f → clauses_of_engine f ≡ clauses_of_engine e
grown_clauses e f g = ap (λ z. clauses_of_engine z) g.1
