use Rattle.decide_order.proofs.Heaps.{Heaping}
use Rattle.decide_order.proofs.heap.heapify.Given as goal

abbrev pub invariant-loop-start : goal.invariant-loop-start
invariant-loop-start l = Heaping l.scores l.initial.placed l.placed l.start

abbrev pub decreases-loop-start : goal.decreases-loop-start
decreases-loop-start l = l.start
