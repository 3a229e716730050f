use Rattle.std.proofs.Common.{◌≡◌, length}
use Rattle.conflict_analysis.specs.Walking.{IsWalking}
use Rattle.conflict_analysis.proofs.walk.Given as goal

abbrev pub invariant-loop-i : goal.invariant-loop-i
invariant-loop-i l = record {
  walking : IsWalking l.engine l.i l.marks l.lemma.items l.hints.items;
  same : length l.marks ≡ length l.initial.marks;
}
