use Rattle.pair_matcher.proofs.Converting.{line_by}
use Rattle.pair_matcher.proofs.conversion.line_of.Goals as goal

pub returns-in-Event : goal.returns-in-Event
returns-in-Event c = line_by c.line_of_event.result _ _ _ _ c.args.step.now c.in-Event.is c.line_of_event.ensures
