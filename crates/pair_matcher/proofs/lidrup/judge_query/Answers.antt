use Rattle.pair_matcher.proofs.Judging.{query_order, query_done}
use Rattle.pair_matcher.proofs.lidrup.judge_query.Goals as goal

pub returns-in-Some-clause-judged : goal.returns-in-Some-clause-judged
returns-in-Some-clause-judged c = query_order _ _ _ c.order_rule.result _ c.order_rule.ensures c.in-Some.rule c.in-Some.is

pub returns-clause-judged : goal.returns-clause-judged
returns-clause-judged c = query_done _ _ _ c.order_rule.result _ c.order_rule.ensures c.in_default.is c.in_ok-take_query.ensures.stands
