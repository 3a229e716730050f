use Rattle.std.proofs.Common.{◌≡◌, ◌<◌, ◌≤◌, ◌+◌, ◌++◌, ◌∷◌, [], List, refl, sym, ◌∙◌, ap, subst, map, take, length, arith}
use Rattle.std.proofs.lemmas.List.{take_all}
use Rattle.restore.specs.declared.lists.Kept.{Kept}
use Rattle.restore.specs.Resolution.{all_variables}
use Rattle.restore.proofs.Choosing.{so_far-step, so_far-end, more-clauses}
use Rattle.restore.proofs.take.choose_clauses.Goals as goal

pub loop-kept-preserved : goal.loop-kept-preserved
loop-kept-preserved c = so_far-step _ _ _ _ _ _ _ _ _ _ c.choose_clause.ensures.size c.in_ok-choose_clause.ensures.ok
    (more-clauses c.args.clauses.now c.loop-kept.kept-index c.kept-item.result c.as_slice.result.now c.loop-kept-test.true c.kept-item.is c.as_slice.ensures) c.loop-kept.invariant

pub returns-clause-ok : goal.returns-clause-ok
returns-clause-ok c = so_far-end _ _ _ _ _ _ _ (ap (λ (cs : List Kept). all_variables (map (λ (k : Kept). k.lits) cs)) (take_all c.loop-kept.kept-index c.args.clauses.now c.loop-kept-test.false)) c.loop-kept.invariant
