use Rattle.restore.proofs.Steps.{Extending}
use Rattle.restore.proofs.stack.Stack.extend.Given as goal

abbrev pub invariant-loop-left : goal.invariant-loop-left
invariant-loop-left l = Extending l.self-inside.entries.items l.initial.values l.values l.left

abbrev pub decreases-loop-left : goal.decreases-loop-left
decreases-loop-left l = l.left
