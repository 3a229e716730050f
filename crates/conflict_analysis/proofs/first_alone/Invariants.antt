use Rattle.std.proofs.Common.{◌≡◌, [], length}
use Rattle.conflict_analysis.specs.Walking.{IsSearching}
use Rattle.conflict_analysis.proofs.first_alone.Given as goal

abbrev pub invariant-loop-i : goal.invariant-loop-i
invariant-loop-i l = record {
  searching : IsSearching l.engine l.i l.marks l.hints.items l.count;
  empty : l.lemma.items ≡ [];
  same : length l.marks ≡ length l.initial.marks;
}
