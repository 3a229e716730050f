-- What the literals of level 0 say, and a trail without free variables.
use Rattle.std.proofs.Common.{◌≡◌, ℕ, ◌%◌, ◌≤◌, true, false, List, Contains, inl, inr, arith, eqb-true}
use Rattle.std.specs.List.{list_any}
use Rattle.std.proofs.lemmas.Bool.{cases_Bool, both_ways, not_from_false, eqb-false}
use Rattle.lits.specs.Literal.{neg, var, positive, of_var}
use Rattle.session_rules.specs.Logic.{has, is_falsified, Forced, satisfies, satisfies_clause, satisfies_formula}
use Rattle.lits.proofs.Members.{all_from, any_at, any_from}
use Rattle.propagation.specs.Clauses.{active}
use Rattle.propagation.specs.Engine.{EngineView, IsEngine, IsFree, IsPropagated, literals, up_to_level}
use Rattle.propagation.proofs.ClausesMap.{at_active}
use Rattle.propagation.proofs.Closing.{consistent_trail}
use Rattle.propagation.proofs.Trail.{active_reserved}
use Rattle.propagation.proofs.Forcing.{forced_at_zero, forced_found}
use Rattle.search_laws.proofs.Placing.{lacks}

-- ---- Level 0

pub forced_kept : (e now : EngineView) → IsPropagated e → IsEngine now → ((l : ℕ) → has (literals e.trail) l ≡ true → has (literals (up_to_level 0 now.trail)) l ≡ true)
    → (l : ℕ) → Forced (active e.clauses) l → Forced (active now.clauses) l
forced_kept e now p k w l f = forced_at_zero now l k (w l (forced_found e l p f))

-- ---- Models

pub literal_holds : (e : EngineView) (l : ℕ) → IsEngine e → has (literals e.trail) l ≡ true → satisfies (λ v. has (literals e.trail) (of_var v)) l ≡ true
literal_holds e l k h = elim (cases_Bool (positive l)) [
  | inl q ↦ let r : l % 2 ≡ 0 = eqb-true _ _ q in let same : of_var (var l) ≡ l = omega arith in rw q (rw same h)
  | inr q ↦ let r : (l % 2 ≡ 0) → ⊥ = eqb-false _ _ q in let same : of_var (var l) ≡ neg l = omega arith in
      rw q (rw same (not_from_false _ (lacks (literals e.trail) (neg l) (λ x. consistent_trail e k l h x))))
]

clause_holds : (e : EngineView) (c : List ℕ) → IsEngine e → is_falsified (literals e.trail) c ≡ false → ((l : ℕ) → Contains c l → IsFree (literals e.trail) l → ⊥)
    → satisfies_clause (λ v. has (literals e.trail) (of_var v)) c ≡ true
clause_holds e c k f full = elim (cases_Bool (list_any (has (literals e.trail)) c)) [
  | inl y ↦ let r = any_at (has (literals e.trail)) c y in any_from (satisfies (λ v. has (literals e.trail) (of_var v))) c r.0 r.1 (literal_holds e r.0 k r.2)
  | inr n ↦ absurd (both_ways _ f (all_from (λ m. has (literals e.trail) (neg m)) c (λ m q. elim (cases_Bool (has (literals e.trail) (neg m))) [
    | inl y ↦ y
    | inr o ↦ absurd (full m q (lacks _ m (λ h. both_ways _ n (any_from (has (literals e.trail)) c m q h)), o))
  ])))
]

pub model : (e : EngineView) → IsEngine e → IsPropagated e → ((l : ℕ) → var l ≤ e.vars → IsFree (literals e.trail) l → ⊥) → satisfies_formula (λ v. has (literals e.trail) (of_var v)) (active e.clauses) ≡ true
model e k p full = all_from (satisfies_clause (λ v. has (literals e.trail) (of_var v))) (active e.clauses) (λ c m. let a = at_active e.clauses c m in
    clause_holds e c k (p a.0 c a.1).not_false (λ l n. full l (active_reserved e k a.0 l c a.1 n)))
