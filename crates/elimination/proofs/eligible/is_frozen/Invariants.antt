use Rattle.std.proofs.Common.{◌≡◌, drop}
use Rattle.restore.specs.Resolution.{has_variable}
use Rattle.elimination.proofs.eligible.is_frozen.Given as goal

abbrev pub invariant-loop-l : goal.invariant-loop-l
invariant-loop-l l = has_variable l.var (drop l.l-index l.frozen) ≡ has_variable l.var l.frozen
