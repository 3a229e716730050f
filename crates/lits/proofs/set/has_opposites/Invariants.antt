use Rattle.lits.proofs.SetSteps.{NoOpposites}
use Rattle.lits.proofs.set.has_opposites.Given as goal

abbrev pub invariant-loop-i : goal.invariant-loop-i
invariant-loop-i l = NoOpposites l.lits l.i
