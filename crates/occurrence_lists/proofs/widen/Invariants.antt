use Rattle.std.proofs.Common.{◌≡◌, ◌+◌, ◌-◌, ◌≤◌, ◌++◌, [], replicate, vec_len, vec_capacity}
use Rattle.occurrence_lists.proofs.widen.Given as goal

abbrev pub invariant-loop : goal.invariant-loop
invariant-loop l = record {
  items : l.rows.items ≡ l.fn.rows.items ++ replicate l.counter [];
  room : vec_len l.rows + (l.more - l.counter) ≤ vec_capacity l.rows;
}
