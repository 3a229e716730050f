use Rattle.pair_matcher.proofs.JudgingSets.{restoring_none, restoring_done}
use Rattle.pair_matcher.proofs.Converting.{restoring_found}
use Rattle.pair_matcher.proofs.idrup.judge_restoring.Goals as goal

pub returns-in_default-clause-judged : goal.returns-in_default-clause-judged
returns-in_default-clause-judged c = restoring_none c.store.result.now c.args.p.now.engine c.args.p.now.engine c.store.ensures.clauses _ _ _
    c.in_ok-set.set c.in_ok-set.ensures.set _ c.in_default.ensures.none

pub returns-in-Ok-clause-judged : goal.returns-in-Ok-clause-judged
returns-in-Ok-clause-judged c = restoring_done c.store.result.now c.args.p.now.engine c.restore.new.self c.store.ensures.clauses _ _ _ c.in_ok-set.set c.in_ok-set.ensures.set
    c.in-Some.id c.in-Some.ensures.found c.in-Some.ensures.least c.in-Ok.ensures.ok

pub returns-in-Ok-clause-found : goal.returns-in-Ok-clause-found
returns-in-Ok-clause-found c = restoring_found c.store.result.now c.args.p.now.engine c.store.ensures.clauses _ _ _ c.in_ok-set.set c.in_ok-set.ensures.set
    c.in-Some.id _ c.in-Some.ensures.found c.in-Some.ensures.least
