use Rattle.std.proofs.Common.{take, subst, sym, ◌∙◌}
use Rattle.numbered_lits.specs.Numbers.{AreNumbers}
use Rattle.std.proofs.lemmas.List.{get_or_default}
use Rattle.numbered_lits.proofs.Lists.{are-numbers, front-none, front-end}
use Rattle.numbered_lits.proofs.find_all.Goals as goal

pub returns-clause-numbers : goal.returns-clause-numbers
returns-clause-numbers c = λ t. subst (AreNumbers c.args.dense.now) (sym c.loop-l.invariant.items) (are-numbers c.args.dense.now (take c.loop-l.l-index c.args.lits.now) c.loop-l.invariant.known)

pub returns-in-None-clause-front : goal.returns-in-None-clause-front
returns-in-None-clause-front c = front-none c.args.dense.now c.args.lits.now _ c.loop-l.l-index c.l-item.result c.find_lit.result c.loop-l-test.true
    (c.l-item.is ∙ get_or_default _ _ c.l-item.result 0 c.loop-l-test.true) c.find_lit.ensures.literal c.in-None.is c.loop-l.invariant.known c.loop-l.invariant.items

pub returns-clause-front : goal.returns-clause-front
returns-clause-front c = front-end c.args.dense.now c.args.lits.now _ c.loop-l.l-index c.loop-l-test.false c.loop-l.invariant.known c.loop-l.invariant.items
