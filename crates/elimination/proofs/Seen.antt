-- The clauses of a store as an engine shows them: by their sets.
use Rattle.std.proofs.Common.{◌≡◌, ℕ, suc, ◌<◌, ◌≤◌, Bool, true, false, ◌||◌, List, [], ◌∷◌, map, Contains, Option, None, Some, is_some, refl, sym, ap, ◌∙◌, subst, inl, inr, arith}
use Rattle.std.specs.Prelude.{option_and_then, option_map, unwrap_or}
use Rattle.std.specs.FinMap as finmap
use Rattle.std.proofs.lemmas.Bool.{cases_Bool}
use Rattle.std.proofs.lemmas.Option.{same_Some}
use Rattle.lits.specs.Literal.{neg, of_var}
use Rattle.lits.specs.Clause.{has, same_set}
use Rattle.lits.proofs.Sets.{same_from, same_set-flip, same_set-chain, tautology-same}
use Rattle.lits.proofs.Members.{here, there, has_at}
use Rattle.clause_store.specs.Clauses.{Store, lits_at}
use Rattle.propagation.specs.Clauses.{Clauses, Clause, active_at, literals_at, if_active}
use Rattle.propagation.specs.Engine.{EngineView, IsEngine, value_in}
use Rattle.propagation.proofs.Changes.{literals-reserved}
use Rattle.resolvents.proofs.Clashing.{same_tests}
use Rattle.restore.specs.Resolution.{has_variable}
use Rattle.restore.proofs.Joined.{map_at, map_from}
use Rattle.elimination_laws.specs.Eligible.{eligible, OftenAs}
use Rattle.elimination_laws.proofs.Deciding.{eligible-often}
use Rattle.occurrence_lists.specs.Occurring.{row, times, StandsFor, Numbered, ids_with}
use Rattle.occurrence_lists.proofs.Standing.{listed_is_held}
use Rattle.elimination.specs.Pairs.{clauses_at, AreUsable}
use Rattle.elimination.specs.Known.{numbered, numbered_in, AreListedBy}
use Rattle.elimination.proofs.Deciding.{has_either}

pub flips : (c a b : List ℕ) → same_set a b ≡ true → same_set c a ≡ same_set c b
flips c a b h = same_tests _ _ (λ p. same_set-chain c a b p h) (λ p. same_set-chain c b a p (same_set-flip a b h))

pub literals-active : (m : Clauses) (id : ℕ) (c : List ℕ) → active_at m id ≡ Some c → literals_at m id ≡ c
literals-active m id c h = by_entry (finmap.get m id) h
  where
    by_entry : (o : Option Clause) → option_and_then if_active o ≡ Some c → unwrap_or (option_map (λ (k : Clause). k.literals) o) [] ≡ c
    by_entry None h = cc h
    by_entry (Some k) h = elim (cases_Bool (is_some k.slot)) [
      | inl y ↦ let e : Some (k.literals) ≡ Some c = rw y at h in same_Some (k.literals) c e
      | inr n ↦ let e : None ≡ Some c = rw n at h in cc e
    ]

module _ (m : Clauses) (st : Store) (rows : List (List ℕ)) (ids : List ℕ) (shown : (id : ℕ) (c : List ℕ) → active_at m id ≡ Some c → (l : ℕ) → has (lits_at st id) l ≡ has c l) (b : AreListedBy m rows ids) where
  same_has : (id : ℕ) → Contains ids id → (l : ℕ) → has (lits_at st id) l ≡ has (literals_at m id) l
  same_has id k l = let a = b.active id k in shown id a.0 a.1 l ∙ ap (λ z. has z l) (sym (literals-active m id a.0 a.1))

  same_ids : (l : ℕ) (js : List ℕ) → ((id : ℕ) → Contains js id → Contains ids id) → ids_with l (numbered st js) ≡ ids_with l (numbered_in m js)
  same_ids l [] h = refl
  same_ids l (j ∷ js) h =
      let r = same_ids l js (λ id k. h id (there j id js k)) in let e = same_has j (h j (here j js)) l in
      elim (cases_Bool (has (literals_at m j) l)) [
        | inl y ↦ let f = e ∙ y in rw (f, y) (ap (λ z. j ∷ z) r)
        | inr n ↦ let f = e ∙ n in rw (f, n) r
      ]

  pub stands_stored : StandsFor rows (numbered st ids)
  stands_stored = record {
    reserved = λ c k l h.
        let w = map_at (λ id. (id, lits_at st id)) ids c k in
        let h2 : has (lits_at st w.0) l ≡ true = subst (λ (d : Numbered). has d.1 l ≡ true) (sym w.2) h in
        b.stands.reserved (w.0, literals_at m w.0) (map_from (λ id. (id, literals_at m id)) ids w.0 w.1) l (sym (same_has w.0 w.1 l) ∙ h2);
    listed = λ l q. b.stands.listed l q ∙ ap (times q) (sym (same_ids l ids (λ id k. k)));
  }

  pub same_sets : (js : List ℕ) → ((id : ℕ) → Contains js id → Contains ids id) → OftenAs (clauses_at st js) (map (literals_at m) js)
  same_sets [] h c = refl
  same_sets (j ∷ js) h c =
      let r = same_sets js (λ id k. h id (there j id js k)) c in
      let e : same_set c (lits_at st j) ≡ same_set c (literals_at m j) = flips c (lits_at st j) (literals_at m j) (same_from (lits_at st j) (literals_at m j) (same_has j (h j (here j js)))) in
      elim (cases_Bool (same_set c (literals_at m j))) [
        | inl y ↦ let f = e ∙ y in rw (f, y) (ap suc r)
        | inr n ↦ let f = e ∙ n in rw (f, n) r
      ]

  pub same_eligible : (frozen assigned : List ℕ) (x : ℕ) → eligible (clauses_at st ids) frozen assigned x ≡ eligible (map (literals_at m) ids) frozen assigned x
  same_eligible frozen assigned x = eligible-often (clauses_at st ids) (map (literals_at m) ids) frozen assigned x (same_sets ids (λ id k. k))

  pub usable_stored : (e : EngineView) (vars l : ℕ) → e.clauses ≡ m → IsEngine e → e.vars ≤ vars → AreUsable st vars (row rows l)
  usable_stored e vars l em en le = λ id k.
      let n = listed_is_held rows (numbered_in m ids) id l b.stands k in
      let j = map_at (λ i. (i, literals_at m i)) ids n.0 n.1 in
      let is : j.0 ≡ id = ap (λ (d : Numbered). d.0) j.2 ∙ n.2 in
      let inside : Contains ids id = subst (λ z. Contains ids z) is j.1 in
      let a = b.active id inside in
      record {
        reserved = λ q h.
            let h2 : has (literals_at e.clauses id) q ≡ true = subst (λ z. has (literals_at z id) q ≡ true) (sym em) (sym (same_has id inside q) ∙ h) in
            let small = literals-reserved e id q en (has_at (literals_at e.clauses id) q h2) in omega (arith, small, le);
        no_tautology = tautology-same (lits_at st id) a.0 (same_from (lits_at st id) a.0 (shown id a.0 a.1)) ∙ a.2;
      }

-- ---- Assigned variables

some_value : (trues : List ℕ) (l : ℕ) → (has trues l || has trues (neg l)) ≡ is_some (value_in trues l)
some_value trues l = elim (cases_Bool (has trues l)) [
  | inl y ↦ rw y refl
  | inr n ↦ elim (cases_Bool (has trues (neg l))) [ inl y ↦ rw (n, y) refl | inr k ↦ rw (n, k) refl ]
]

pub value_says : (trues : List ℕ) (x l : ℕ) (o : Option Bool) → 0 < x → l ≡ of_var x → o ≡ value_in trues l → has_variable x trues ≡ is_some o
value_says trues x l o z e v = has_either x trues z ∙ some_value trues (of_var x) ∙ ap (λ k. is_some (value_in trues k)) (sym e) ∙ ap is_some (sym v)

pub assigned_stays : (cs : List (List ℕ)) (frozen assigned : List ℕ) (x : ℕ) → has_variable x assigned ≡ true → false ≡ eligible cs frozen assigned x
unfolding eligible
assigned_stays cs frozen assigned x h = elim (cases_Bool (has_variable x frozen)) [ inl y ↦ rw y refl | inr n ↦ rw (n, h) refl ]
