use Rattle.std.proofs.Common.{take}
use Rattle.icnf_lines.specs.Marks.{also_assumed, PlacesChange}
use Rattle.icnf_lines.proofs.marks.mark_assumed.Given as goal

abbrev pub invariant-loop-l : goal.invariant-loop-l
invariant-loop-l l = PlacesChange l.dense also_assumed l.fn.table l.table (take l.l-index l.lits)
