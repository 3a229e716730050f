use Rattle.std.proofs.Common.{◌-◌, length}
use Rattle.line_reading.proofs.Running.{Pushing}
use Rattle.line_reading.proofs.runs.push_run.Given as goal

abbrev pub invariant-words : goal.invariant-words
invariant-words l = Pushing l.bytes l.fn.lits l.lits l.at

abbrev pub decreases-words : goal.decreases-words
decreases-words l = length l.bytes - l.at
