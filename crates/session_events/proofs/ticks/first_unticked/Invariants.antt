use Rattle.std.proofs.Common.{◌≡◌, not, drop}
use Rattle.std.specs.List.{find}
use Rattle.session_events.specs.Ticks.{is_ticked}
use Rattle.session_events.proofs.ticks.first_unticked.Given as goal

abbrev pub invariant-loop-l : goal.invariant-loop-l
invariant-loop-l l = find (λ k. not (is_ticked l.ticks k)) l.lits ≡ find (λ k. not (is_ticked l.ticks k)) (drop l.l-index l.lits)
