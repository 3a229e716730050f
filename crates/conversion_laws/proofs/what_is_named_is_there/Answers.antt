use Rattle.conversion_laws.proofs.Growing.{deletion_named, weakening_named, restoring_named}
use Rattle.conversion_laws.proofs.what_is_named_is_there.Goals as goal

pub returns-clause-deleted : goal.returns-clause-deleted
returns-clause-deleted c = deletion_named

pub returns-clause-weakened : goal.returns-clause-weakened
returns-clause-weakened c = weakening_named

pub returns-clause-restored : goal.returns-clause-restored
returns-clause-restored c = restoring_named
