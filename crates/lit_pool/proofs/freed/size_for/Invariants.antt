use Rattle.std.proofs.Common.{◌-◌, ◌≤◌}
use Rattle.lit_pool.proofs.freed.size_for.Given as goal

abbrev pub invariant-loop-units : goal.invariant-loop-units
invariant-loop-units l = (8 ≤ l.units) × (l.units ≤ 536870912) × (l.number ≤ l.units) × (l.least ≤ 536870912)

abbrev pub decreases-loop-units : goal.decreases-loop-units
decreases-loop-units l = l.least - l.units
