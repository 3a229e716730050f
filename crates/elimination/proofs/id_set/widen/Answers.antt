use Rattle.std.proofs.Common.{◌-◌, ◌+◌, ◌≡◌, length, take, replicate, false, ap, ◌∙◌, arith}
use Rattle.elimination.proofs.Marked.{widened}
use Rattle.elimination.proofs.id_set.widen.Goals as goal

pub returns-in_ok-resize-clause-same : goal.returns-in_ok-resize-clause-same
returns-in_ok-resize-clause-same c = widened (c.args.row + 1) _ c.args.marks.now.items c.resize.new.self.items (omega (arith, c.if-row-len.true, c.len.ensures)) c.in_ok-resize.ensures.items
