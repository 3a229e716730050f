use Rattle.side_laws.proofs.Ids.{holds_deleted, holds_weakened, holds_restored}
use Rattle.side_laws.proofs.named_ids_change_in_turn.Goals as goal

pub returns-clause-deleted : goal.returns-clause-deleted
returns-clause-deleted c = holds_deleted

pub returns-clause-weakened : goal.returns-clause-weakened
returns-clause-weakened c = holds_weakened

pub returns-clause-restored : goal.returns-clause-restored
returns-clause-restored c = holds_restored
