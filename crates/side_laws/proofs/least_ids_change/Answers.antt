use Rattle.side_laws.proofs.Held.{holds_no_sets, sets_given, sets_silent, sets_deleted, sets_weakened, sets_restored}
use Rattle.side_laws.proofs.least_ids_change.Goals as goal

pub returns-clause-nothing : goal.returns-clause-nothing
returns-clause-nothing c = holds_no_sets

pub returns-clause-silent : goal.returns-clause-silent
returns-clause-silent c = sets_silent

pub returns-clause-given : goal.returns-clause-given
returns-clause-given c = sets_given

pub returns-clause-deleted : goal.returns-clause-deleted
returns-clause-deleted c = sets_deleted

pub returns-clause-weakened : goal.returns-clause-weakened
returns-clause-weakened c = sets_weakened

pub returns-clause-restored : goal.returns-clause-restored
returns-clause-restored c = sets_restored
