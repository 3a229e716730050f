use Rattle.elimination.proofs.Recalling.{comparable_rows, recalled}
use Rattle.elimination.proofs.database.Database.knows.Goals as goal

pub is_known-requires-clause-comparable : goal.is_known-requires-clause-comparable
is_known-requires-clause-comparable c = λ l. comparable_rows c.args.self.now c.requires.sound c.store-store.result.now c.store-store.ensures.stored c.store-store.ensures.sound c.store-store.ensures.literals c.args.resolver.now.reserved l c.requires.room

pub returns : goal.returns
returns c = recalled c.args.self.now c.requires.sound c.store-store.result.now c.store-store.ensures.stored c.store-store.ensures.sound c.store-store.ensures.literals c.is_known.result c.args.resolver.now.clause c.is_known.ensures
