use Rattle.clause_store.proofs.Stored.{store_of-nil}
use Rattle.clause_store.proofs.Store.without_index.Goals as goal

pub returns : goal.returns
returns c = store_of-nil c.new.result c.without_index.result.clauses c.without_index.ensures.rows
