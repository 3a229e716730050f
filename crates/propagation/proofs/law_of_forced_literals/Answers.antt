use Rattle.propagation.proofs.Forcing.{forced_without_assumption, forced_at_zero, forced_found}
use Rattle.propagation.proofs.law_of_forced_literals.Goals as goal

pub returns-clause-exactly : goal.returns-clause-exactly
returns-clause-exactly c = λ e l k p z. (forced_without_assumption e l k z, forced_found e l p)

pub returns-clause-sound : goal.returns-clause-sound
returns-clause-sound c = forced_at_zero

pub returns-clause-complete : goal.returns-clause-complete
returns-clause-complete c = forced_found
