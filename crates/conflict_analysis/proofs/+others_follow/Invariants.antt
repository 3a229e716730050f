use Rattle.std.proofs.Common.{◌≡◌, ℕ, length}
use Rattle.conflict_analysis.specs.Marked.{pending}
use Rattle.conflict_analysis.proofs.+others_follow.Given as goal

abbrev pub decreases-others_follow : goal.decreases-others_follow
decreases-others_follow l = l.steps

abbrev pub invariant-loop-m : goal.invariant-loop-m
invariant-loop-m l = record {
  pending : (x : ℕ) → pending l.marks x ≡ pending l.initial.marks x;
  same : length l.marks ≡ length l.initial.marks;
}
