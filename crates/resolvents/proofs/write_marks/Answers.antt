use Rattle.std.proofs.Common.{◌<◌, length, ◌∙◌, subst, sym}
use Rattle.resolvents.proofs.Marking.{item-below, marked-step}
use Rattle.resolvents.proofs.write_marks.Goals as goal

pub bounds-marks-code : goal.bounds-marks-code
bounds-marks-code c = subst (λ z. c.code.result < z) (sym c.loop-l.auto.marks)
    (item-below c.args.lits.now c.loop-l.l-index c.l-item.result c.code.result (length c.args.marks.now) c.loop-l-test.true c.l-item.is c.code.ensures.code c.requires)

pub loop-l-preserved : goal.loop-l-preserved
loop-l-preserved c = λ q. marked-step c.loop-l.marks c.args.lits.now c.args.to c.loop-l.l-index c.l-item.result c.code.result q c.loop-l-test.true c.l-item.is c.code.ensures.code
    (subst (λ z. c.code.result < z) (sym c.loop-l.auto.marks)
    (item-below c.args.lits.now c.loop-l.l-index c.l-item.result c.code.result (length c.args.marks.now) c.loop-l-test.true c.l-item.is c.code.ensures.code c.requires)) ∙ c.loop-l.invariant q
