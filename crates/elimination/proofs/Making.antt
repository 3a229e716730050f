-- A resolvent that was made from stored lists, and whether it is to be told.
use Rattle.std.proofs.Common.{◌≡◌, ℕ, zero, suc, ◌+◌, ◌*◌, ◌<◌, ◌≤◌, ◌⊎◌, Bool, true, false, not, List, [], ◌∷◌, ◌++◌, length, map, Contains, Option, Some, refl, sym, ap, ◌∙◌, subst, inl, inr, arith}
use Rattle.std.specs.List.{list_any}
use Rattle.std.proofs.lemmas.Bool.{cases_Bool, both_ways}
use Rattle.lits.specs.Literal.{var}
use Rattle.lits.specs.Clause.{has, same_set, is_tautology}
use Rattle.lits.proofs.Members.{here, any_at, any_from, filter_at, has_at, has_from}
use Rattle.lits.proofs.Sets.{same_from, same_set-itself, same_set-flip, same_set-chain, tautology-same}
use Rattle.clause_store.specs.Clauses.{Store, lits_at, IsStore, IsOnce, firsts}
use Rattle.clause_store.proofs.Lists.{firsts-has, once-firsts}
use Rattle.propagation.specs.Clauses.{Clauses, active_at, literals_at}
use Rattle.propagation.specs.Engine.{EngineView, IsEngine}
use Rattle.propagation.proofs.Changes.{literals-reserved}
use Rattle.resolvents.specs.Held.{AreReserved}
use Rattle.resolvents.proofs.Clashing.{same_tests}
use Rattle.restore.specs.Resolution.{of_variable, without, resolvent}
use Rattle.restore.specs.Stack.{has_set}
use Rattle.restore.proofs.Joined.{append_at, append_left}
use Rattle.elimination_laws.proofs.Counting.{resolvent_same}
use Rattle.elimination.specs.declared.database.Database.{Database}
use Rattle.elimination.specs.Databases.{IsDatabase, irredundant_of}
use Rattle.elimination.specs.Resolving.{IsNew, IsRecalled, IsJudged}
use Rattle.elimination.proofs.Listed.{stored_has}

pub known_same : (cs : List (List ℕ)) (a b : List ℕ) → same_set a b ≡ true → has_set cs a ≡ has_set cs b
known_same cs a b s = same_tests _ _ (turned a b s) (turned b a (same_set-flip a b s))
  where
    turned : (p q : List ℕ) → same_set p q ≡ true → has_set cs p ≡ true → has_set cs q ≡ true
    turned p q t h = let r = any_at (same_set p) cs h in any_from (same_set q) cs r.0 r.1 (same_set-chain q p r.0 (same_set-flip p q t) r.2)

firsts_same : (ls : List ℕ) → same_set (firsts ls) ls ≡ true
firsts_same ls = same_from (firsts ls) ls (λ q. firsts-has ls [] q)

some_member : (ls : List ℕ) → 0 < length ls → (l : ℕ) × Contains ls l
some_member [] lt = absurd (omega (arith, lt))
some_member (l ∷ ls) lt = (l, here l ls)

not_empty : (ls : List ℕ) (l : ℕ) → has ls l ≡ true → 0 < length ls
not_empty [] l h = cc h
not_empty (m ∷ ls) l h = omega arith

module _ (d : Database) (h : IsDatabase d) (st : Store) (en : IsEngine d.engine) (stored : IsStore st) (shown : (id : ℕ) (c : List ℕ) → active_at d.engine.clauses id ≡ Some c → (l : ℕ) → has (lits_at st id) l ≡ has c l)
    (x n : ℕ) (m : Contains d.irredundant n) (c : List ℕ) where
  active_one : (c : List ℕ) × (active_at d.engine.clauses n ≡ Some c)
  active_one = let a = h.irredundant.active n m in (a.0, a.1)

  other_has : (l : ℕ) → has (lits_at st n) l ≡ has (literals_at d.engine.clauses n) l
  other_has = stored_has d.engine st n active_one shown

  other_same : same_set (lits_at st n) (literals_at d.engine.clauses n) ≡ true
  other_same = same_from (lits_at st n) (literals_at d.engine.clauses n) other_has

  pub other_within : AreReserved d.engine.vars (lits_at st n)
  other_within l k = literals-reserved d.engine n l en (has_at (literals_at d.engine.clauses n) l (sym (other_has l) ∙ k))

  pub other_reserved : (vars : ℕ) → d.engine.vars ≤ vars → AreReserved vars (lits_at st n)
  other_reserved vars le l k = let a = other_within l k in omega (arith, a, le)

  pub other_clean : is_tautology (lits_at st n) ≡ false
  other_clean = let a = h.irredundant.active n m in tautology-same (lits_at st n) a.0 (same_from (lits_at st n) a.0 (shown n a.0 a.1)) ∙ a.2

  made_same : same_set (resolvent x c (lits_at st n)) (resolvent x c (literals_at d.engine.clauses n)) ≡ true
  made_same = resolvent_same x c c (lits_at st n) (literals_at d.engine.clauses n) (same_set-itself c) other_same

  pub made_once : IsOnce (firsts (resolvent x c (lits_at st n)))
  made_once = once-firsts (resolvent x c (lits_at st n)) [] tt

  made_set : same_set (firsts (resolvent x c (lits_at st n))) (resolvent x c (literals_at d.engine.clauses n)) ≡ true
  made_set = same_set-chain (firsts (resolvent x c (lits_at st n))) (resolvent x c (lits_at st n)) (resolvent x c (literals_at d.engine.clauses n)) (firsts_same (resolvent x c (lits_at st n))) made_same

  pub made_within : AreReserved d.engine.vars c → AreReserved d.engine.vars (firsts (resolvent x c (lits_at st n)))
  made_within w l k = elim (append_at (without x c) (without x (lits_at st n)) l (has_at (resolvent x c (lits_at st n)) l (sym (firsts-has (resolvent x c (lits_at st n)) [] l) ∙ k))) [
    | inl q ↦ w l (has_from c l (filter_at (λ l. not (of_variable x l)) c l q).0)
    | inr q ↦ other_within l (has_from (lits_at st n) l (filter_at (λ l. not (of_variable x l)) (lits_at st n) l q).0)
  ]

  pub made_some : 0 < length (without x c) → 0 < length (firsts (resolvent x c (lits_at st n)))
  made_some lt =
      let q = some_member (without x c) lt in
      not_empty (firsts (resolvent x c (lits_at st n))) q.0 (firsts-has (resolvent x c (lits_at st n)) [] q.0 ∙ has_from (resolvent x c (lits_at st n)) q.0 (append_left (without x c) (without x (lits_at st n)) q.0 q.1))

  -- a tautology isn't told
  pub tautology_recalled : is_tautology (resolvent x c (lits_at st n)) ≡ true → IsRecalled x (irredundant_of d) c (literals_at d.engine.clauses n)
  tautology_recalled t = λ clean. absurd (both_ways _ clean (sym (tautology-same (resolvent x c (lits_at st n)) (resolvent x c (literals_at d.engine.clauses n)) made_same) ∙ t))

  -- and another is told unless it is known
  pub judged : (b : Bool) → is_tautology (resolvent x c (lits_at st n)) ≡ false → b ≡ has_set (irredundant_of d) (firsts (resolvent x c (lits_at st n)))
      → IsJudged (not b) x (irredundant_of d) c (literals_at d.engine.clauses n) (firsts (resolvent x c (lits_at st n)))
  judged true t e = λ clean. sym (known_same (irredundant_of d) (firsts (resolvent x c (lits_at st n))) (resolvent x c (literals_at d.engine.clauses n)) made_set) ∙ sym e
  judged false t e = record {
    clean = sym (tautology-same (resolvent x c (lits_at st n)) (resolvent x c (literals_at d.engine.clauses n)) made_same) ∙ t;
    same = made_set;
    once = made_once;
    unknown = sym e;
  }
