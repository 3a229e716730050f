use Rattle.std.proofs.Common.{◌≡◌, ◌<◌, ◌≤◌, ◌+◌, ◌++◌, ◌∷◌, [], List, refl, sym, ◌∙◌, ap, subst, map, take, length, arith}
use Rattle.restore.proofs.Choosing.{so_far-step, more-taken}
use Rattle.restore.proofs.take.choose_each.Goals as goal

pub loop-var-preserved : goal.loop-var-preserved
loop-var-preserved c = so_far-step _ _ _ _ _ _ _ _ _ _ c.choose.ensures.size c.in_ok-choose.ensures.ok
    (more-taken c.args.vars.now c.loop-var.var-index _ c.loop-var-test.true refl) c.loop-var.invariant
