use Rattle.std.proofs.Common.{◌≡◌, take}
use Rattle.occurrence_lists.specs.Occurring.{IsAdded}
use Rattle.occurrence_lists.proofs.push_front.Given as goal

abbrev pub invariant-loop-l : goal.invariant-loop-l
invariant-loop-l l = record {
  count : l.done ≡ l.l-index;
  added : IsAdded l.fn.rows.items l.id (take l.l-index l.lits) l.rows.items;
}
