use Rattle.std.proofs.Common.{take}
use Rattle.icnf_lines.specs.Marks.{also_held, PlacesChange}
use Rattle.icnf_lines.proofs.marks.mark_held.Given as goal

abbrev pub invariant-loop-l : goal.invariant-loop-l
invariant-loop-l l = PlacesChange l.dense also_held l.fn.table l.table (take l.l-index l.lits)
