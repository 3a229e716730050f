use Rattle.std.proofs.Common.{◌≡◌, ℕ, List, sym, subst, ◌∙◌}
use Rattle.clause_store.specs.Clauses.{IsOnce, lits_at}
use Rattle.propagation.specs.Clauses.{literals_at}
use Rattle.occurrence_lists.specs.Occurring.{AreListed, IsAdded}
use Rattle.elimination.proofs.Listed.{once_stored, stored_has, stored_listed, added_same}
use Rattle.elimination.proofs.listing.list_clause.Goals as goal

pub add-requires-clause-reserved : goal.add-requires-clause-reserved
add-requires-clause-reserved c = subst (λ (z : List ℕ). AreListed c.args.occurrences.now z) (sym c.lits_of.ensures)
    (stored_listed c.args.engine.now c.store-store.result.now c.args.id c.requires.active c.store-store.ensures.literals c.args.occurrences.now c.store-store.ensures.sound c.requires.wide)

pub add-requires-clause-once : goal.add-requires-clause-once
add-requires-clause-once c = subst (λ (z : List ℕ). IsOnce z) (sym c.lits_of.ensures) (once_stored c.store-store.result.now c.args.id c.store-store.ensures.stored)
