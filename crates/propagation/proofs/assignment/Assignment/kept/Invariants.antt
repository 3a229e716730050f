use Rattle.std.proofs.Common.{◌≡◌, ◌≤◌, length, take}
use Rattle.propagation.specs.Engine.{level_after, up_to_level}
use Rattle.propagation.proofs.assignment.Assignment.kept.Given as goal

abbrev pub invariant-loop-now : goal.invariant-loop-now
invariant-loop-now l = record {
  within : l.n ≤ length l.self.entries;
  reached : l.now ≡ level_after (take l.n l.self.entries);
  same : up_to_level l.level (take l.n l.self.entries) ≡ up_to_level l.level l.self.entries;
}

abbrev pub decreases-loop-now : goal.decreases-loop-now
decreases-loop-now l = l.n
