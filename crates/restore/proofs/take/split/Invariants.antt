use Rattle.std.proofs.Common.{◌≡◌}
use Rattle.std.specs.Prelude.{vec_capacity}
use Rattle.restore.proofs.Splitting.{Splitting}
use Rattle.restore.proofs.take.split.Given as goal

abbrev pub invariant-loop-place : goal.invariant-loop-place
invariant-loop-place l =
    Splitting l.initial.entries.items l.chosen l.entries.items l.taken.items l.places l.left l.place × (vec_capacity l.taken ≡ vec_capacity l.initial.taken)
