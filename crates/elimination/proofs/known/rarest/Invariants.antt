use Rattle.std.proofs.Common.{◌≡◌, true}
use Rattle.lits.specs.Clause.{has}
use Rattle.elimination.proofs.known.rarest.Given as goal

abbrev pub invariant-loop-l : goal.invariant-loop-l
invariant-loop-l l = has l.lits l.best ≡ true
