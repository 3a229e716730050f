use Rattle.std.proofs.Common.{◌≡◌, ◌+◌, ◌^◌, ◌<◌, ◌≤◌}
use Rattle.line_writing.proofs.writing.digits.digit_count.Given as goal

abbrev pub invariant-loop-power : goal.invariant-loop-power
invariant-loop-power l = record {
  count : l.count ≡ l.power-index + 1;
  passed : 0 < l.power-index → 10 ^ l.power-index ≤ l.n;
}
