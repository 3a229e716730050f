use Rattle.clause_store.proofs.Stored.{store_of-nil}
use Rattle.clause_store.proofs.Store.new.Goals as goal

pub returns : goal.returns
returns c = store_of-nil c.new.result c.new-2.result.clauses c.new-2.ensures.rows
