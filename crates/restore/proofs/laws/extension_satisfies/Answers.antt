use Rattle.restore.proofs.Extending.{extended_satisfies, extended_outside}
use Rattle.restore.proofs.laws.extension_satisfies.Goals as goal

pub returns-clause-satisfied : goal.returns-clause-satisfied
returns-clause-satisfied c = λ es cs v k f. extended_satisfies es cs k v f

pub returns-clause-outside : goal.returns-clause-outside
returns-clause-outside c = extended_outside
