use Rattle.conversion_laws.proofs.Matching.{accepted_by_events}
use Rattle.conversion_laws.proofs.acceptance_goes_by_events.Goals as goal

pub returns : goal.returns
returns c = accepted_by_events
