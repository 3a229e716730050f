use Rattle.std.proofs.Common.{take}
use Rattle.hint_check.specs.Runs.{AreTrueIn, NoneLater}
use Rattle.hint_check.proofs.make_true.Given as goal

abbrev pub invariant-loop-l : goal.invariant-loop-l
invariant-loop-l l = record { marked : AreTrueIn l.last_true l.run_number (take l.l-index l.start); below : NoneLater l.last_true l.run_number }
