use Rattle.std.proofs.Common.{◌≡◌, ◌≤◌, true, length, take}
use Rattle.lits.specs.Numbering.{are_known, dense_lits}
use Rattle.numbered_lits.proofs.find_all.Given as goal

abbrev pub invariant-loop-l : goal.invariant-loop-l
invariant-loop-l l = record {
  known : are_known l.dense (take l.l-index l.lits) ≡ true;
  items : l.out.items ≡ dense_lits l.dense (take l.l-index l.lits);
  size : length l.out.items ≡ l.l-index;
  room : length l.lits ≤ l.out.capacity;
}
