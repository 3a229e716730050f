use Rattle.side_laws.proofs.Hints.{hints-same}
use Rattle.side_laws.proofs.Ids.{hints_over_kept}
use Rattle.side_laws.proofs.hints_look_at_sets.Goals as goal

pub returns-clause-kept : goal.returns-clause-kept
returns-clause-kept c = hints_over_kept

pub returns-clause-same : goal.returns-clause-same
returns-clause-same c = hints-same
