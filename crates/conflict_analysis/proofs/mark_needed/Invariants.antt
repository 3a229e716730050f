use Rattle.std.proofs.Common.{◌≡◌, ◌⊎◌, ◌/◌, ℕ, length, take, Contains, true}
use Rattle.conflict_analysis.specs.Marked.{pending}
use Rattle.conflict_analysis.specs.Walking.{IsMore}
use Rattle.conflict_analysis.proofs.mark_needed.Given as goal

abbrev pub invariant-loop-m : goal.invariant-loop-m
invariant-loop-m l = record {
  marked : (x : ℕ) → Contains (take l.m-index l.m-items) x → pending l.marks x ≡ true;
  only : (x : ℕ) → pending l.marks x ≡ true → (pending l.initial.marks x ≡ true) ⊎ ((m : ℕ) × Contains (take l.m-index l.m-items) m × (x / 2 ≡ m / 2));
  more : IsMore l.initial.marks l.marks;
  same : length l.marks ≡ length l.initial.marks;
}
