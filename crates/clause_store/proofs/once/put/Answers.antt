use Rattle.std.proofs.Common.{ap, ◌∙◌}
use Rattle.std.specs.FinMap.{insert}
use Rattle.lit_pool.specs.Entry.{new_entry}
use Rattle.clause_store.proofs.Lists.{firsts-once}
use Rattle.clause_store.proofs.Keys.{key_of-set_of}
use Rattle.clause_store.proofs.once.put.Goals as goal

pub returns-then-is_short-clause-ok : goal.returns-then-is_short-clause-ok
returns-then-is_short-clause-ok c = c.in_ok-slot.ensures.ok ∙ ap (λ z. insert c.args.pool.now c.in_ok-slot.slot (new_entry z)) (firsts-once c.args.lits.now (c.is_short.ensures c.if-is_short.true))

pub returns-then-is_short-clause-key : goal.returns-then-is_short-clause-key
returns-then-is_short-clause-key c = λ t. c.key_if-key.ensures t ∙ key_of-set_of c.args.lits.now (c.is_short.ensures c.if-is_short.true)
