use Rattle.std.proofs.Common.{◌<◌}
use Rattle.engine_tests.proofs.order.scan.Given as goal

abbrev pub invariant-loop-i : goal.invariant-loop-i
invariant-loop-i l = l.best < 40
