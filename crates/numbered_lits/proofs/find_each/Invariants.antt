use Rattle.std.proofs.Common.{◌≡◌, ◌≤◌, length, take, filter, not}
use Rattle.lits.specs.Numbering.{is_known, dense_lits}
use Rattle.numbered_lits.specs.Numbers.{AreNumbers}
use Rattle.numbered_lits.proofs.find_each.Given as goal

abbrev pub invariant-loop-l : goal.invariant-loop-l
invariant-loop-l l = record {
  items : l.out.items ≡ dense_lits l.dense (filter (is_known l.dense) (take l.l-index l.lits));
  numbers : AreNumbers l.dense l.out.items;
  others : l.others.items ≡ filter (λ x. not (is_known l.dense x)) (take l.l-index l.lits);
  size : length l.out.items ≤ l.l-index;
  others_size : length l.others.items ≤ l.l-index;
  room : length l.lits ≤ l.out.capacity;
  others_room : length l.lits ≤ l.others.capacity;
}
