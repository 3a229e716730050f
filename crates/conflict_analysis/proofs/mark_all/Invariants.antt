use Rattle.std.proofs.Common.{◌≡◌, ℕ, length, take, Contains, true}
use Rattle.propagation.specs.Engine.{literals}
use Rattle.conflict_analysis.specs.Marked.{pending}
use Rattle.conflict_analysis.specs.Walking.{IsMore, count_top}
use Rattle.conflict_analysis.proofs.mark_all.Given as goal

abbrev pub invariant-loop-m : goal.invariant-loop-m
invariant-loop-m l = record {
  marked : (x : ℕ) → Contains (take l.m-index l.m-items) x → pending l.marks x ≡ true;
  more : IsMore l.initial.marks l.marks;
  same : length l.marks ≡ length l.initial.marks;
  counted : l.count ≡ count_top l.engine l.marks (literals (take l.place l.engine.trail));
}
