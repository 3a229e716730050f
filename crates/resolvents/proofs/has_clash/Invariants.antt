use Rattle.std.proofs.Common.{◌≡◌, drop}
use Rattle.std.specs.List.{list_any}
use Rattle.resolvents.specs.Held.{clashing}
use Rattle.resolvents.proofs.has_clash.Given as goal

abbrev pub invariant-loop-l : goal.invariant-loop-l
invariant-loop-l l = list_any (clashing l.marks l.var) (drop l.l-index l.second) ≡ list_any (clashing l.marks l.var) l.second
