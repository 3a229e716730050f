use Rattle.session_events.proofs.Ticking.{IsTicking}
use Rattle.session_events.proofs.ticks.tick.Given as goal

abbrev pub invariant-loop-l : goal.invariant-loop-l
invariant-loop-l l = IsTicking l.ticks l.lits l.clash l.l-index
