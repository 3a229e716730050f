use Rattle.conversion_laws.proofs.Alike.{same_accepted}
use Rattle.conversion_laws.proofs.same_events_accept_alike.Goals as goal

pub returns : goal.returns
returns c = same_accepted
