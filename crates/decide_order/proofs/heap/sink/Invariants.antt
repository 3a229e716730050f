use Rattle.std.proofs.Common.{◌-◌, length}
use Rattle.decide_order.proofs.Heaps.{Sinking}
use Rattle.decide_order.proofs.heap.sink.Given as goal

abbrev pub invariant-loop-child : goal.invariant-loop-child
invariant-loop-child l = Sinking l.scores l.initial.placed l.placed l.start l.at

abbrev pub decreases-loop-child : goal.decreases-loop-child
decreases-loop-child l = length l.placed.items - l.at
