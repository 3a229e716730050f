use Rattle.std.proofs.Common.{ℕ, ◌≤◌, ◌-◌, length, drop}
use Rattle.propagation.specs.Engine.{literals}
use Rattle.propagation.specs.Watching.{Advances, IsReady}
use Rattle.propagation.proofs.watching.look_at.Given as goal

abbrev pub invariant-loop-from : goal.invariant-loop-from
invariant-loop-from l = record {
  within : l.from ≤ length l.ids;
  entries : Advances l.fn.watches l.watches l.fn.trail l.trail;
  ready : (h : ℕ) → h ≤ length l.fn.trail.entries → IsReady l.fn.watches.clauses (literals l.fn.trail.entries) h (drop l.fn.from l.ids) → IsReady l.watches.clauses (literals l.trail.entries) h (drop l.from l.ids);
}

abbrev pub decreases-loop-from : goal.decreases-loop-from
decreases-loop-from l = length l.ids - l.from
