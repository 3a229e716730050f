use Rattle.std.proofs.Common.{map, take}
use Rattle.restore.specs.Resolution.{variables}
use Rattle.restore.proofs.Choosing.{SoFar}
use Rattle.restore.proofs.take.choose_clause.Given as goal

abbrev pub invariant-loop-l : goal.invariant-loop-l
invariant-loop-l l = SoFar l.places l.initial.choice.chosen.items l.choice.chosen.items l.initial.choice.due.items l.choice.due.items (variables (take l.l-index l.lits))
