use Rattle.std.proofs.Common.{take}
use Rattle.icnf_lines.specs.Marks.{cleared, PlacesChange}
use Rattle.icnf_lines.proofs.marks.clear.Given as goal

abbrev pub invariant-loop-l : goal.invariant-loop-l
invariant-loop-l l = PlacesChange l.dense cleared l.fn.table l.table (take l.l-index l.lits)
