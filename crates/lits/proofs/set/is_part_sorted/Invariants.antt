use Rattle.std.proofs.Common.{◌≡◌, ◌≤◌, length, drop}
use Rattle.lits.specs.Clause.{is_part}
use Rattle.lits.proofs.set.is_part_sorted.Given as goal

abbrev pub invariant-loop-l : goal.invariant-loop-l
invariant-loop-l l = (l.next ≤ length l.part) × (is_part l.part l.whole ≡ is_part (drop l.next l.part) (drop l.l-index l.whole))
