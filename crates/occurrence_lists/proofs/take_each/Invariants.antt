use Rattle.std.proofs.Common.{◌≡◌, ℕ, ◌+◌, ◌&&◌, nat_eq, length, drop}
use Rattle.lits.specs.Clause.{has}
use Rattle.occurrence_lists.specs.Occurring.{row, times, one_if}
use Rattle.occurrence_lists.proofs.take_each.Given as goal

abbrev pub invariant-loop-l : goal.invariant-loop-l
invariant-loop-l l = record {
  sized : length l.rows.items ≡ length l.fn.rows.items;
  rows : (k q : ℕ) → times q (row l.fn.rows.items k) + one_if (has (drop l.l-index l.lits) k && nat_eq q l.id) ≡ times q (row l.rows.items k) + one_if (has l.lits k && nat_eq q l.id);
}
