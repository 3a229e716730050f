use Rattle.clause_store.proofs.Pairs.{after_of, none_after, after_key, after_past}
use Rattle.clause_store.proofs.index.next_after.Goals as goal

pub returns-in-None-clause-none : goal.returns-in-None-clause-none
returns-in-None-clause-none c = none_after _ _ _ _ (c.range.ensures.in_range tt) c.in-None.ensures.steps.0

pub returns-then-pair-key-clause-found : goal.returns-then-pair-key-clause-found
returns-then-pair-key-clause-found c = after_key _ _ _ _ (after_of _ _ _ _ _ _ (c.range.ensures.in_range tt) c.in-Some.ensures.steps) c.if-pair-key.true

pub returns-else-pair-key-clause-none : goal.returns-else-pair-key-clause-none
returns-else-pair-key-clause-none c = after_past _ _ _ _ (after_of _ _ _ _ _ _ (c.range.ensures.in_range tt) c.in-Some.ensures.steps) c.if-pair-key.false
