use Rattle.std.proofs.Common.{◌≡◌, drop}
use Rattle.std.specs.List.{list_any}
use Rattle.lits.specs.Clause.{has}
use Rattle.resolvents.specs.Held.{clashing_by}
use Rattle.resolvents.proofs.has_meeting.Given as goal

abbrev pub invariant-loop-l : goal.invariant-loop-l
invariant-loop-l l = list_any (clashing_by (has l.first) l.var) (drop l.l-index l.second) ≡ list_any (clashing_by (has l.first) l.var) l.second
