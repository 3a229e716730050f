use Rattle.std.proofs.Common.{sym, subst}
use Rattle.session_rules.specs.declared.Event.TheVariants as events
use Rattle.session_events.specs.State.{StandsFor}
use Rattle.session_events.proofs.Standing.{stands_behind}
use Rattle.session_events.proofs.Events.take_core.Goals as goal

pub returns-clause-stands : goal.returns-clause-stands
returns-clause-stands c = λ es u h. stands_behind _ (events.Core u) es (subst (λ s. StandsFor s es) (sym c.self.view_is) h)
