use Rattle.decide_order.proofs.Heaps.{Rising}
use Rattle.decide_order.proofs.heap.rise.Given as goal

abbrev pub invariant-loop-at : goal.invariant-loop-at
invariant-loop-at l = Rising l.scores l.initial.placed l.placed l.at

abbrev pub decreases-loop-at : goal.decreases-loop-at
decreases-loop-at l = l.at
