use Rattle.std.proofs.Common.{◌+◌, length}
use Rattle.restore.specs.Choice.{unchosen}
use Rattle.restore.proofs.Choosing.{Wanting}
use Rattle.restore.proofs.take.wanted.Given as goal

abbrev pub invariant-loop-place : goal.invariant-loop-place
invariant-loop-place l = Wanting l.entries l.vars l.choice.chosen.items l.choice.due.items

abbrev pub decreases-loop-place : goal.decreases-loop-place
decreases-loop-place l = unchosen l.choice.chosen.items + length l.choice.due.items
