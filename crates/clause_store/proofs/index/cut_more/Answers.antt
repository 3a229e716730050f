use Rattle.clause_store.proofs.Pairs.{removed}
use Rattle.clause_store.proofs.index.cut_more.Goals as goal

pub returns-then-not-is_empty : goal.returns-then-not-is_empty
returns-then-not-is_empty c = λ k i. removed _ _ _ _ k i c.remove.ensures.updates
