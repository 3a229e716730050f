use Rattle.std.proofs.Common.{◌≡◌, take}
use Rattle.restore.specs.Resolution.{variables}
use Rattle.elimination.proofs.touching.variables_of.Given as goal

abbrev pub invariant-loop-l : goal.invariant-loop-l
invariant-loop-l l = l.vars.items ≡ variables (take l.l-index l.lits)
