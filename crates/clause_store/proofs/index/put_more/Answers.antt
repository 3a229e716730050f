use Rattle.clause_store.proofs.Pairs.{added}
use Rattle.clause_store.proofs.index.put_more.Goals as goal

pub returns-in-Ok-clause-ok : goal.returns-in-Ok-clause-ok
returns-in-Ok-clause-ok c = λ k i. added _ _ _ _ k i c.in-Ok.ensures.updates
