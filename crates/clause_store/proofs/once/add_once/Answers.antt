use Rattle.std.proofs.Common.{◌≡◌, sym, subst, ◌∙◌, IfOk}
use Rattle.std.specs.FinMap.{insert}
use Rattle.lit_pool.specs.Entry.{new_entry}
use Rattle.clause_store.proofs.Lists.{firsts-whole}
use Rattle.clause_store.proofs.once.add_once.Goals as goal

pub returns-then-size-lits-clause-ok : goal.returns-then-size-lits-clause-ok
returns-then-size-lits-clause-ok c = subst (λ z. IfOk c.add.result (λ s. c.add.new.self ≡ insert c.args.pool.now s (new_entry z))) (firsts-whole c.args.lits.now (sym c.requires ∙ c.if-size-lits.true)) c.add.ensures.ok
