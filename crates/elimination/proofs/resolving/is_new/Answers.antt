use Rattle.std.proofs.Common.{◌≡◌, ℕ, ◌<◌, ◌≤◌, not, List, length, sym, ap, ◌∙◌, subst, arith}
use Rattle.lits.specs.Clause.{is_tautology}
use Rattle.clause_store.specs.Clauses.{IsOnce, firsts}
use Rattle.propagation.specs.Clauses.{literals_at}
use Rattle.resolvents.specs.Held.{Held, AreReserved}
use Rattle.restore.specs.Resolution.{resolvent}
use Rattle.restore.specs.Stack.{has_set}
use Rattle.elimination.specs.Databases.{irredundant_of}
use Rattle.elimination.specs.Resolving.{IsJudged}
use Rattle.elimination.proofs.Listed.{once_stored}
use Rattle.elimination.proofs.Making.{other_reserved, other_clean, made_once, made_within, made_some, tautology_recalled, judged}
use Rattle.elimination.proofs.resolving.is_new.Goals as goal

pub is_tautology_with-requires-clause-reserved : goal.is_tautology_with-requires-clause-reserved
is_tautology_with-requires-clause-reserved c = subst (λ (z : List ℕ). AreReserved c.args.bench.now.first.reserved z) (sym c.lits_of-other.ensures)
    (other_reserved c.args.clauses.now c.requires.sound c.store-store.result.now c.store-store.ensures.sound c.store-store.ensures.stored c.store-store.ensures.literals c.args.var c.args.against c.requires.against c.args.bench.now.first.clause c.args.bench.now.first.reserved c.requires.first_room)

pub is_tautology_with-requires-clause-second : goal.is_tautology_with-requires-clause-second
is_tautology_with-requires-clause-second c = ap is_tautology c.lits_of-other.ensures ∙ other_clean c.args.clauses.now c.requires.sound c.store-store.result.now c.store-store.ensures.sound c.store-store.ensures.stored c.store-store.ensures.literals c.args.var c.args.against c.requires.against c.args.bench.now.first.clause

pub returns-then-is_tautology_with-clause-judged : goal.returns-then-is_tautology_with-clause-judged
returns-then-is_tautology_with-clause-judged c = tautology_recalled c.args.clauses.now c.requires.sound c.store-store.result.now c.store-store.ensures.sound c.store-store.ensures.stored c.store-store.ensures.literals c.args.var c.args.against c.requires.against c.args.bench.now.first.clause
    (ap (λ (z : List ℕ). is_tautology (resolvent c.args.var c.args.bench.now.first.clause z)) (sym c.lits_of-other.ensures) ∙ sym c.is_tautology_with.ensures ∙ c.if-is_tautology_with.true)

pub resolve-requires-clause-reserved : goal.resolve-requires-clause-reserved
resolve-requires-clause-reserved c = subst (λ (z : List ℕ). AreReserved c.args.bench.now.first.reserved z) (sym c.lits_of-other.ensures)
    (other_reserved c.args.clauses.now c.requires.sound c.store-store.result.now c.store-store.ensures.sound c.store-store.ensures.stored c.store-store.ensures.literals c.args.var c.args.against c.requires.against c.args.bench.now.first.clause c.args.bench.now.first.reserved c.requires.first_room)

pub resolve-requires-clause-second : goal.resolve-requires-clause-second
resolve-requires-clause-second c = subst (λ (z : List ℕ). IsOnce z) (sym c.lits_of-other.ensures) (once_stored c.store-store.result.now c.args.against c.store-store.ensures.stored)

pub hold-requires : goal.hold-requires
hold-requires c = subst (λ (z : List ℕ). AreReserved c.args.bench.now.second.reserved z) (sym (c.deref.ensures.value ∙ c.in_ok-resolve.ensures ∙ ap (λ (z : List ℕ). firsts (resolvent c.args.var c.args.bench.now.first.clause z)) c.lits_of-other.ensures))
    (λ l k. let a = made_within c.args.clauses.now c.requires.sound c.store-store.result.now c.store-store.ensures.sound c.store-store.ensures.stored c.store-store.ensures.literals c.args.var c.args.against c.requires.against c.args.bench.now.first.clause c.requires.within l k in let r = c.requires.second_room in omega (arith, a, r))

pub knows-requires-clause-some : goal.knows-requires-clause-some
knows-requires-clause-some c = subst (λ (z : List ℕ). 0 < length z) (sym (ap (λ (z : Held). z.clause) c.in_ok-hold.ensures.ok ∙ c.deref.ensures.value ∙ c.in_ok-resolve.ensures ∙ ap (λ (z : List ℕ). firsts (resolvent c.args.var c.args.bench.now.first.clause z)) c.lits_of-other.ensures))
    (made_some c.args.clauses.now c.requires.sound c.store-store.result.now c.store-store.ensures.sound c.store-store.ensures.stored c.store-store.ensures.literals c.args.var c.args.against c.requires.against c.args.bench.now.first.clause c.requires.wider)

pub knows-requires-clause-once : goal.knows-requires-clause-once
knows-requires-clause-once c = subst (λ (z : List ℕ). IsOnce z) (sym (ap (λ (z : Held). z.clause) c.in_ok-hold.ensures.ok ∙ c.deref.ensures.value ∙ c.in_ok-resolve.ensures ∙ ap (λ (z : List ℕ). firsts (resolvent c.args.var c.args.bench.now.first.clause z)) c.lits_of-other.ensures))
    (made_once c.args.clauses.now c.requires.sound c.store-store.result.now c.store-store.ensures.sound c.store-store.ensures.stored c.store-store.ensures.literals c.args.var c.args.against c.requires.against c.args.bench.now.first.clause)

pub knows-requires-clause-reserved : goal.knows-requires-clause-reserved
knows-requires-clause-reserved c = subst (λ (z : List ℕ). AreReserved c.args.clauses.now.engine.vars z) (sym (ap (λ (z : Held). z.clause) c.in_ok-hold.ensures.ok ∙ c.deref.ensures.value ∙ c.in_ok-resolve.ensures ∙ ap (λ (z : List ℕ). firsts (resolvent c.args.var c.args.bench.now.first.clause z)) c.lits_of-other.ensures))
    (made_within c.args.clauses.now c.requires.sound c.store-store.result.now c.store-store.ensures.sound c.store-store.ensures.stored c.store-store.ensures.literals c.args.var c.args.against c.requires.against c.args.bench.now.first.clause c.requires.within)

pub returns-clause-judged : goal.returns-clause-judged
returns-clause-judged c =
    subst (λ (z : List ℕ). IsJudged (not c.knows.result) c.args.var (irredundant_of c.args.clauses.now) c.args.bench.now.first.clause (literals_at c.args.clauses.now.engine.clauses c.args.against) z) (sym (c.in_ok-resolve.ensures ∙ ap (λ (z : List ℕ). firsts (resolvent c.args.var c.args.bench.now.first.clause z)) c.lits_of-other.ensures))
    (judged c.args.clauses.now c.requires.sound c.store-store.result.now c.store-store.ensures.sound c.store-store.ensures.stored c.store-store.ensures.literals c.args.var c.args.against c.requires.against c.args.bench.now.first.clause c.knows.result
    (ap (λ (z : List ℕ). is_tautology (resolvent c.args.var c.args.bench.now.first.clause z)) (sym c.lits_of-other.ensures) ∙ sym c.is_tautology_with.ensures ∙ c.if-is_tautology_with.false)
    (c.knows.ensures ∙ ap (has_set (irredundant_of c.args.clauses.now)) (ap (λ (z : Held). z.clause) c.in_ok-hold.ensures.ok ∙ c.deref.ensures.value ∙ c.in_ok-resolve.ensures ∙ ap (λ (z : List ℕ). firsts (resolvent c.args.var c.args.bench.now.first.clause z)) c.lits_of-other.ensures)))
