use Rattle.std.proofs.Common.{◌≡◌, ◌≤◌, length, take}
use Rattle.lits.specs.Numbering.{with_lits, numbered_lits}
use Rattle.numbered_lits.proofs.number_all.Given as goal

abbrev pub invariant-loop-l : goal.invariant-loop-l
invariant-loop-l l = record {
  vars : l.dense ≡ with_lits l.fn.dense (take l.l-index l.lits);
  items : l.out.items ≡ numbered_lits l.fn.dense (take l.l-index l.lits);
  size : length l.out.items ≡ l.l-index;
  room : length l.lits ≤ l.out.capacity;
}
