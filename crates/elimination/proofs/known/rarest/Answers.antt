use Rattle.resolvents.proofs.Marking.{item-has}
use Rattle.elimination.proofs.known.rarest.Goals as goal

pub ids-count-requires : goal.ids-count-requires
ids-count-requires c = c.requires.listed c.l-item.result (item-has c.args.lits.now c.loop-l.l-index c.l-item.result c.loop-l-test.true c.l-item.is)

pub ids-fewest-requires : goal.ids-fewest-requires
ids-fewest-requires c = c.requires.listed c.index-lits-0.result (item-has c.args.lits.now 0 c.index-lits-0.result c.requires.some c.index-lits-0.is)
