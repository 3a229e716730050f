use Rattle.std.proofs.Common.{ap, ◌∙◌, arith, get_or}
use Rattle.conflict_analysis.specs.declared.marks.Mark.TheVariants as mark
use Rattle.conflict_analysis.proofs.Marking.{marks-grown, marks-grown_at}
use Rattle.conflict_analysis.proofs.marks.Marks.reserve.Goals as goal

pub invariant_of-self : goal.invariant_of-self
invariant_of-self c = marks-grown c.self.inside.items.items c.resize.new.self.items c.args.vars _ (omega (arith, c.if-vars-len.true, c.len.ensures)) c.in_ok-resize.ensures.items c.self.inside.noted.items c.self.inside.pending c.self.invariant

pub returns-in_ok-resize-clause-marks : goal.returns-in_ok-resize-clause-marks
returns-in_ok-resize-clause-marks c = λ i. marks-grown_at c.self.inside.items.items c.resize.new.self.items c.args.vars _ (omega (arith, c.if-vars-len.true, c.len.ensures)) c.in_ok-resize.ensures.items i ∙ ap (λ z. get_or z i mark.Clear) c.self.view_is
