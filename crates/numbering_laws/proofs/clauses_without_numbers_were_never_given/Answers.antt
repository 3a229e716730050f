use Rattle.numbering_laws.proofs.Faults.{unknown-delete, unknown-weaken, unknown-restore}
use Rattle.numbering_laws.proofs.clauses_without_numbers_were_never_given.Goals as goal

pub returns-clause-deleted : goal.returns-clause-deleted
returns-clause-deleted c = unknown-delete

pub returns-clause-weakened : goal.returns-clause-weakened
returns-clause-weakened c = unknown-weaken

pub returns-clause-restored : goal.returns-clause-restored
returns-clause-restored c = unknown-restore
