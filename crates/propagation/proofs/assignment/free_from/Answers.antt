use Rattle.std.proofs.Common.{arith}
use Rattle.std.proofs.Math.ListN.{length-set}
use Rattle.propagation.specs.declared.assignment.Value.TheVariants as value
use Rattle.propagation.proofs.Undoing.{freed-none, freed-next, freed-all, reach-item}
use Rattle.propagation.proofs.assignment.free_from.Goals as goal

pub loop-l-init : goal.loop-l-init
loop-l-init c = freed-none c.args.values.now

pub loop-l-preserved : goal.loop-l-preserved
loop-l-preserved c =
    rw (c.code-in-loop-l.ensures.code, c.neg.ensures.negation, c.code.ensures.code)
    (freed-next c.args.lits.now c.args.values.now c.loop-l.values c.args.n c.loop-l.l-index c.l-item.result _ c.requires.reach c.loop-l-test.true c.l-item.is c.loop-l.invariant)

pub bounds-values-code : goal.bounds-values-code
bounds-values-code c =
    let r = reach-item c.args.lits.now c.args.values.now c.args.n c.loop-l.l-index c.l-item.result _ c.requires.reach c.loop-l-test.true c.l-item.is in
    omega (arith, r, c.code.ensures.code, c.loop-l.auto.values)

pub bounds-values-code-in-loop-l : goal.bounds-values-code-in-loop-l
bounds-values-code-in-loop-l c =
    let r = reach-item c.args.lits.now c.args.values.now c.args.n c.loop-l.l-index c.l-item.result _ c.requires.reach c.loop-l-test.true c.l-item.is in
    omega (arith, r.1, c.code-in-loop-l.ensures.code, c.neg.ensures.negation, c.loop-l.auto.values, length-set c.loop-l.values c.code.result value.Free)

pub returns : goal.returns
returns c = freed-all c.args.lits.now c.args.values.now c.loop-l.values c.args.n c.loop-l.l-index c.loop-l-test.false c.loop-l.invariant
