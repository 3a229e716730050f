use Rattle.std.proofs.Common.{◌≡◌}
use Rattle.engine_tests.proofs.deciding.four_candidates.Given as goal

abbrev pub invariant-loop-n : goal.invariant-loop-n
invariant-loop-n l = record { reserved : l.decisions.reserved ≡ 4 }
