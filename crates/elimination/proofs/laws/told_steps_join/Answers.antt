use Rattle.elimination.proofs.Joining.{none_told, joined}
use Rattle.elimination.proofs.laws.told_steps_join.Goals as goal

pub returns-clause-none : goal.returns-clause-none
returns-clause-none c = none_told

pub returns-clause-joined : goal.returns-clause-joined
returns-clause-joined c = joined
