use Rattle.std.proofs.Common.{◌≡◌, ◌+◌, ◌-◌, ◌≤◌, ◌++◌, replicate, vec_len, vec_capacity}
use Rattle.watch_lists.specs.Lists.{no_row}
use Rattle.watch_lists.proofs.lists.widen.Given as goal

abbrev pub invariant-loop : goal.invariant-loop
invariant-loop l = record {
  items : l.rows.items ≡ l.fn.rows.items ++ replicate l.counter no_row;
  room : vec_len l.rows + (l.more - l.counter) ≤ vec_capacity l.rows;
}
