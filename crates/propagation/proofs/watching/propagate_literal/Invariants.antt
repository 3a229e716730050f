use Rattle.propagation.proofs.Walking.{IsWalking}
use Rattle.propagation.proofs.watching.propagate_literal.Given as goal

abbrev pub invariant-loop-i : goal.invariant-loop-i
invariant-loop-i l = IsWalking l.fn.watches l.watches l.fn.trail l.trail l.head l.w l.end

abbrev pub decreases-loop-i : goal.decreases-loop-i
decreases-loop-i l = l.end
