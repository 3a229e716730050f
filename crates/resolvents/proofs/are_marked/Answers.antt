use Rattle.std.proofs.Common.{length}
use Rattle.resolvents.proofs.Marking.{item-below}
use Rattle.resolvents.proofs.are_marked.Goals as goal

pub bounds-marks-code : goal.bounds-marks-code
bounds-marks-code c = item-below c.args.lits.now c.loop-l.l-index c.l-item.result c.code.result (length c.args.marks.now) c.loop-l-test.true c.l-item.is c.code.ensures.code c.requires
