use Rattle.std.proofs.Common.{◌≡◌, ℕ, ◌<◌, ◌≤◌, true}
use Rattle.session_rules.specs.Logic.{has}
use Rattle.watch_lists.specs.Watched.{entry_at}
use Rattle.propagation.specs.Engine.{literals}
use Rattle.propagation.proofs.watching.last_open.Given as goal

abbrev pub invariant-loop-i : goal.invariant-loop-i
invariant-loop-i l = record {
  within : l.i ≤ l.end;
  passed : (k : ℕ) → l.i ≤ k → k < l.end → has (literals l.trail.entries) (entry_at l.list k).blocker ≡ true;
}

abbrev pub decreases-loop-i : goal.decreases-loop-i
decreases-loop-i l = l.i
