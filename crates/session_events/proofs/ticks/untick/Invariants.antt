use Rattle.session_events.proofs.Ticking.{IsUnticking}
use Rattle.session_events.proofs.ticks.untick.Given as goal

abbrev pub invariant-loop-l : goal.invariant-loop-l
invariant-loop-l l = IsUnticking l.fn.ticks l.ticks l.lits l.l-index
