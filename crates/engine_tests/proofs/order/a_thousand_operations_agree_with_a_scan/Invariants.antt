use Rattle.std.proofs.Common.{◌≡◌}
use Rattle.engine_tests.proofs.order.a_thousand_operations_agree_with_a_scan.Given as goal

abbrev pub invariant-loop-step : goal.invariant-loop-step
invariant-loop-step g l = l.order.reserved ≡ 40
