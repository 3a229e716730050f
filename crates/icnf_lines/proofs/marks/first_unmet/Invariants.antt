use Rattle.std.proofs.Common.{◌≡◌, not, drop}
use Rattle.std.specs.List.{find}
use Rattle.icnf_lines.specs.Marks.{mark_of}
use Rattle.icnf_lines.proofs.marks.first_unmet.Given as goal

abbrev pub invariant-loop-l : goal.invariant-loop-l
invariant-loop-l l = find (λ k. not (mark_of l.dense l.table k).met) l.lits ≡ find (λ k. not (mark_of l.dense l.table k).met) (drop l.l-index l.lits)
