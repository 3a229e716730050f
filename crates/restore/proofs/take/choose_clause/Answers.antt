use Rattle.std.proofs.Common.{◌≡◌, ◌<◌, ◌≤◌, ◌+◌, ◌++◌, ◌∷◌, [], List, refl, sym, ◌∙◌, ap, subst, map, take, length, arith}
use Rattle.restore.proofs.Choosing.{so_far-step, more-variables}
use Rattle.restore.proofs.take.choose_clause.Goals as goal

pub loop-l-preserved : goal.loop-l-preserved
loop-l-preserved c = so_far-step _ _ _ _ _ _ _ _ _ _ c.choose.ensures.size c.in_ok-choose.ensures.ok
    (more-variables c.args.lits.now c.loop-l.l-index c.l-item.result c.var.result c.loop-l-test.true c.l-item.is c.var.ensures.variable) c.loop-l.invariant
