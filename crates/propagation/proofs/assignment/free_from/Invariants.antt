use Rattle.std.proofs.Common.{take}
use Rattle.propagation.specs.Assigned.{AreFreed}
use Rattle.propagation.proofs.assignment.free_from.Given as goal

abbrev pub invariant-loop-l : goal.invariant-loop-l
invariant-loop-l l = AreFreed l.fn.values (take l.l-index l.rest) l.values
