use Rattle.std.proofs.Common.{◌≡◌, ◌≤◌, length, drop}
use Rattle.occurrence_lists.specs.Occurring.{times}
use Rattle.occurrence_lists.proofs.last_place.Given as goal

abbrev pub invariant-loop-at : goal.invariant-loop-at
invariant-loop-at l = record { within : l.at ≤ length l.ids; none : times l.id (drop l.at l.ids) ≡ 0 }

abbrev pub decreases-loop-at : goal.decreases-loop-at
decreases-loop-at l = l.at
