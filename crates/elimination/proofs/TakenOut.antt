-- A variable is taken out: what each part needs of the one before.
use Rattle.std.proofs.Common.{◌≡◌, ℕ, ◌⊎◌, true, false, List, ◌++◌, ◌-◌, ◌≤◌, length, take, drop, Contains, sym, ap, ◌∙◌, subst, inl, inr, arith}
use Rattle.std.proofs.lemmas.Bool.{and_parts}
use Rattle.std.proofs.lemmas.List.{take-append-drop, take_all, length-drop}
use Rattle.lits.proofs.Members.{any_at, any_from}
use Rattle.session_rules.specs.declared.Told.{Told}
use Rattle.session_rules.specs.declared.LogFault.{LogFault}
use Rattle.propagation.specs.Clauses.{literals_at}
use Rattle.propagation.specs.Engine.{literals}
use Rattle.restore.specs.Resolution.{of_variable, is_plain, is_negated, has_variable, holds, holds_negated}
use Rattle.restore.proofs.Joined.{append_at}
use Rattle.elimination.specs.declared.database.Database.{Database}
use Rattle.elimination.specs.declared.fault.BoardFault.{BoardFault}
use Rattle.elimination.specs.Steps.{standing}
use Rattle.elimination.specs.Databases.{BreaksOff}
use Rattle.elimination.specs.Resolving.{ResolvesEach, IsFirst, IsSecond}
use Rattle.elimination.specs.Deleting.{DeletesLemmas}
use Rattle.elimination.proofs.Standings.{same_literals}
use Rattle.elimination.proofs.EachResolved.{broken_later}
use Rattle.elimination.proofs.Erasing.{broken_deleting}

plain_has : (x : ℕ) (c : List ℕ) → holds x c ≡ true → has_variable x c ≡ true
plain_has x c h = let l = any_at (is_plain x) c h in any_from (of_variable x) c l.0 l.1 (and_parts _ _ l.2).0

negated_has : (x : ℕ) (c : List ℕ) → holds_negated x c ≡ true → has_variable x c ≡ true
negated_has x c h = let l = any_at (is_negated x) c h in any_from (of_variable x) c l.0 l.1 (and_parts _ _ l.2).0

module _ {L : Type 0} (takes : L → Told → L → Type 0) (x : ℕ) (l m n : L) (a b c : Database) (ids : List ℕ) (split : ℕ) (firsts seconds : List ℕ) (first_is : firsts ≡ take split ids) (second_is : seconds ≡ drop split ids)
    (first : (i : ℕ) → Contains (take split ids) i → IsFirst x a i) (second : (j : ℕ) → Contains (drop split ids) j → IsSecond x a j) (r : ResolvesEach takes x l a firsts seconds b m) where
  either : (id : ℕ) → Contains ids id → Contains a.irredundant id × (has_variable x (literals_at a.engine.clauses id) ≡ true)
  either id k = elim (append_at (take split ids) (drop split ids) id (subst (λ z. Contains z id) (sym (take-append-drop split ids)) k)) [
    | inl q ↦ let f = first id q in (f.irredundant, plain_has x (literals_at a.engine.clauses id) f.holding)
    | inr q ↦ let f = second id q in (f.irredundant, negated_has x (literals_at a.engine.clauses id) f.holding)
  ]

  pub unassigned_resolved : has_variable x (literals a.engine.trail) ≡ false → has_variable x (literals b.engine.trail) ≡ false
  unassigned_resolved f = ap (λ z. has_variable x (literals z)) r.leads.trail ∙ f

  pub resolved_as : ResolvesEach takes x l a (take split ids) (drop split ids) b m
  resolved_as = subst (λ z. ResolvesEach takes x l a z (drop split ids) b m) first_is (subst (λ z. ResolvesEach takes x l a firsts z b m) second_is r)

  module _ (d : DeletesLemmas takes x m b 0 b.next_id c n) where
    pub unassigned_deleted : has_variable x (literals a.engine.trail) ≡ false → has_variable x (literals c.engine.trail) ≡ false
    unassigned_deleted f = ap (λ z. has_variable x (literals z)) d.leads.trail ∙ unassigned_resolved f

    pub still_irredundant : (id : ℕ) → Contains ids id → Contains c.irredundant id
    still_irredundant id k = subst (λ z. Contains z id) (sym d.same) (r.kept id (either id k).0).0

    pub still_holding : (id : ℕ) → Contains ids id → has_variable x (literals_at c.engine.clauses id) ≡ true
    still_holding id k =
        let e = either id k in
        let q = r.kept id e.0 in
        ap (has_variable x) (same_literals b.engine.clauses c.engine.clauses id (d.stays id q.0) ∙ q.1) ∙ e.1

    pub broken_last : (refuses : L → Told → LogFault → L → Type 0) (o : L) (e : BoardFault) → BreaksOff takes refuses (standing c.engine.clauses) n e o → BreaksOff takes refuses (standing a.engine.clauses) l e o
    broken_last refuses o e k = broken_later takes refuses x l m o a b b firsts seconds e r (broken_deleting takes x refuses m n o b c 0 b.next_id e d k)

pub rest_is : (ids : List ℕ) (split : ℕ) → take (length ids - split) (drop split ids) ≡ drop split ids
rest_is ids split = take_all (length ids - split) (drop split ids) (let e = length-drop split ids in omega (arith, e))
