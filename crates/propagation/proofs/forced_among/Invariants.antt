use Rattle.std.proofs.Common.{◌≡◌, ℕ, ◌<◌, get_or, Some}
use Rattle.propagation.specs.Engine.{reason_in}
use Rattle.propagation.proofs.forced_among.Given as goal

abbrev pub invariant-loop-l : goal.invariant-loop-l
invariant-loop-l l = (k : ℕ) → k < l.l-index → reason_in l.trail.entries (get_or l.lits k 0) ≡ Some l.slot → ⊥
