use Rattle.std.proofs.Common.{◌≡◌, drop}
use Rattle.std.specs.List.{list_any}
use Rattle.restore.specs.Resolution.{variables}
use Rattle.restore.specs.Stack.{has_entry}
use Rattle.elimination.proofs.touching.has_any.Given as goal

abbrev pub invariant-loop-l : goal.invariant-loop-l
invariant-loop-l l = list_any (has_entry l.stack) (variables (drop l.l-index l.lits)) ≡ list_any (has_entry l.stack) (variables l.lits)
