use Rattle.std.proofs.Common.{drop}
use Rattle.conflict_analysis.specs.Marked.{AreNoted}
use Rattle.conflict_analysis.proofs.marks.take_off.Given as goal

abbrev pub invariant-loop-l : goal.invariant-loop-l
invariant-loop-l l = AreNoted l.items (drop l.l-index l.noted)
