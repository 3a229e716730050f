use Rattle.std.proofs.Common.{◌∙◌}
use Rattle.pair_matcher.proofs.Insides.{store_within}
use Rattle.pair_matcher.proofs.TranslatingIds.{strange_closed, strange_run}
use Rattle.pair_matcher.proofs.lidrup.follow_strange.Goals as goal

pub run-requires-clause-store : goal.run-requires-clause-store
run-requires-clause-store c = store_within _ _ _ c.requires.inside

pub returns-in-Ok-true-clause-end : goal.returns-in-Ok-true-clause-end
returns-in-Ok-true-clause-end c = strange_closed c.args.numbers.now.vars c.args.u.now c.args.hints.now c.args.p.now.store c.args.p.now.events _ c.in-Ok-true.ensures.clash c.in-Ok-true.field-0-test

pub returns-in-Ok-false-clause-end : goal.returns-in-Ok-false-clause-end
returns-in-Ok-false-clause-end c = strange_run c.args.numbers.now.vars c.args.u.now c.args.hints.now c.args.p.now.store c.args.p.now.events _ c.in-Ok-false.ensures.clash c.in-Ok-false.field-0-test
    c.args.p.now.store c.args.p.now.events (λ ps h. h) c.lits.result.now (c.lits.ensures ∙ c.in-Ok-false.ensures.lits) c.run.result c.run.ensures.end
