use Rattle.std.proofs.Common.{take}
use Rattle.icnf_lines.specs.Marks.{AreKnown}
use Rattle.line_tests.proofs.partners.are_known.Given as goal

abbrev pub invariant-loop-l : goal.invariant-loop-l
invariant-loop-l l = record { known : AreKnown l.dense (take l.l-index l.lits) }
