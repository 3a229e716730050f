use Rattle.std.proofs.Common.{◌≡◌, drop}
use Rattle.std.specs.List.{list_any}
use Rattle.session_events.specs.Ticks.{is_ticked}
use Rattle.session_events.proofs.ticks.any_ticked.Given as goal

abbrev pub invariant-loop-l : goal.invariant-loop-l
invariant-loop-l l = list_any (is_ticked l.ticks) l.lits ≡ list_any (is_ticked l.ticks) (drop l.l-index l.lits)
