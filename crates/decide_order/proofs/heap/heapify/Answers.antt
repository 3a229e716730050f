use Rattle.std.proofs.Common.{◌/◌, ap, arith}
use Rattle.decide_order.proofs.Heaps.{heaping-begin, heaping-step, sinks_down}
use Rattle.decide_order.proofs.heap.heapify.Goals as goal

pub loop-start-init : goal.loop-start-init
loop-start-init c = heaping-begin _ _ _ (ap (λ n. n / 2) c.len-start.ensures.len)

pub sink-requires-clause-sinks : goal.sink-requires-clause-sinks
sink-requires-clause-sinks c = let up = c.loop-start-test.true in sinks_down _ _ _ _ (omega arith) c.loop-start.invariant.heap

pub loop-start-preserved : goal.loop-start-preserved
loop-start-preserved c = let up = c.loop-start-test.true in heaping-step _ _ _ _ _ _ (omega arith) c.loop-start.invariant c.sink.ensures.heap c.sink.ensures.reordered
