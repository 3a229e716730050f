use Rattle.std.proofs.Common.{◌≤◌, ◌-◌, [], length}
use Rattle.propagation.specs.Engine.{literals}
use Rattle.propagation.specs.Watching.{Advances, IsReady}
use Rattle.propagation.proofs.watching.propagate_trail.Given as goal

abbrev pub invariant-loop-head : goal.invariant-loop-head
invariant-loop-head l = record {
  within : l.head ≤ length l.trail.entries;
  entries : Advances l.fn.watches l.watches l.fn.trail l.trail;
  ready : IsReady l.watches.clauses (literals l.trail.entries) l.head [];
}

abbrev pub decreases-loop-head : goal.decreases-loop-head
decreases-loop-head l = l.fn.trail.vars - l.head
