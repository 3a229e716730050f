use Rattle.std.proofs.Common.{◌≡◌}
use Rattle.line_tests.proofs.partners.matched.Given as goal

abbrev pub invariant-loop : goal.invariant-loop
invariant-loop l = l.marks ≡ 9
