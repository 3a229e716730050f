use Rattle.side_laws.proofs.Closing.{closes-same}
use Rattle.side_laws.proofs.closing_looks_at_sets.Goals as goal

pub returns : goal.returns
returns c = closes-same
