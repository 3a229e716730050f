use Rattle.std.proofs.Common.{refl, arith}
use Rattle.decide_order.proofs.Heaps.{rising-step}
use Rattle.decide_order.proofs.heap.rise.Goals as goal

pub loop-at-preserved : goal.loop-at-preserved
loop-at-preserved c =
    let up = c.loop-at-test.true in
    rising-step _ _ _ _ _ _ _ _ refl (omega arith) c.at.ensures.value c.at-in-loop-at.ensures.value (c.is_better.ensures.better c.if-not-is_better.false) c.swap.ensures.items c.swap.ensures.reserved c.loop-at.invariant
