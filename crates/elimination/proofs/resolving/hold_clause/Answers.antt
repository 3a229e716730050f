use Rattle.std.proofs.Common.{◌≤◌, ℕ, List, sym, ap, ◌∙◌, subst, arith}
use Rattle.resolvents.specs.Held.{Held, AreReserved}
use Rattle.elimination.specs.Resolving.{IsHeld}
use Rattle.elimination.proofs.Paired.{held_within}
use Rattle.elimination.proofs.EachResolved.{held_stored}
use Rattle.elimination.proofs.resolving.hold_clause.Goals as goal

pub hold-requires : goal.hold-requires
hold-requires c =
    let h = held_stored c.args.clauses.now c.requires.sound c.store-store.result.now c.store-store.ensures.stored c.store-store.ensures.literals c.args.id c.requires.there in
    subst (λ (z : List ℕ). AreReserved c.args.bench.now.first.reserved z) (sym c.lits_of.ensures)
    (λ l k. let a = held_within c.args.clauses.now c.requires.sound c.args.id c.requires.there _ h c.store-store.ensures.sound l k in let r = c.requires.room in omega (arith, a, r))

pub returns-clause-held : goal.returns-clause-held
returns-clause-held c =
    let h = held_stored c.args.clauses.now c.requires.sound c.store-store.result.now c.store-store.ensures.stored c.store-store.ensures.literals c.args.id c.requires.there in
    subst (λ (z : List ℕ). IsHeld c.args.clauses.now c.args.id z) (sym (ap (λ (z : Held). z.clause) c.in_ok-hold.ensures.ok ∙ c.lits_of.ensures)) h
