use Rattle.std.proofs.Common.{map, take}
use Rattle.restore.proofs.Choosing.{SoFar}
use Rattle.restore.proofs.take.choose_each.Given as goal

abbrev pub invariant-loop-var : goal.invariant-loop-var
invariant-loop-var l = SoFar l.places l.initial.choice.chosen.items l.choice.chosen.items l.initial.choice.due.items l.choice.due.items (take l.var-index l.vars)
