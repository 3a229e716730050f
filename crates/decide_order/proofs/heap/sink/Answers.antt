use Rattle.decide_order.proofs.Heaps.{sinking-step}
use Rattle.decide_order.proofs.heap.sink.Goals as goal

pub loop-child-preserved : goal.loop-child-preserved
loop-child-preserved c = sinking-step _ _ _ _ _ _ _ c.in-Some.ensures.some c.swap.ensures.items c.swap.ensures.reserved c.loop-child.invariant
