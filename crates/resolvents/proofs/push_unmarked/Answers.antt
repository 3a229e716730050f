use Rattle.std.proofs.Common.{length, refl}
use Rattle.resolvents.proofs.Marking.{item-below}
use Rattle.resolvents.proofs.push_unmarked.Goals as goal

pub is_new-requires : goal.is_new-requires
is_new-requires c = item-below c.args.lits.now c.loop-l.l-index c.l-item.result c.l-item.result (length c.args.marks.now) c.loop-l-test.true c.l-item.is refl c.requires
