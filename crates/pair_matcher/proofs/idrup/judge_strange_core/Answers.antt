use Rattle.pair_matcher.proofs.Translating.{strange_order, strange_done}
use Rattle.pair_matcher.proofs.idrup.judge_strange_core.Goals as goal

pub returns-in-Some-clause-judged : goal.returns-in-Some-clause-judged
returns-in-Some-clause-judged c = strange_order c.args.numbers.now.vars _ _ _ _ _ _ c.args.u.now c.order_rule.result c.order_rule.ensures c.in-Some.rule c.in-Some.is

pub returns-clause-judged : goal.returns-clause-judged
returns-clause-judged c = strange_done c.args.numbers.now.vars _ _ _ _ _ _ c.args.u.now c.order_rule.result c.order_rule.ensures c.in_default.is c.first_stranger.result c.first_stranger.ensures.rule
