use Rattle.line_reading.proofs.Running.{Matching}
use Rattle.line_reading.proofs.runs.whole_run.Given as goal

abbrev pub invariant-loop-l : goal.invariant-loop-l
invariant-loop-l l = Matching l.bytes l.lits l.l-index l.at
