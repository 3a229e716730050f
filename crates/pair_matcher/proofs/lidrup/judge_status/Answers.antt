use Rattle.pair_matcher.proofs.Judging.{status_order, status_done}
use Rattle.pair_matcher.proofs.lidrup.judge_status.Goals as goal

pub returns-in-Some-clause-judged : goal.returns-in-Some-clause-judged
returns-in-Some-clause-judged c = status_order _ _ _ c.order_rule.result _ c.order_rule.ensures c.in-Some.rule c.in-Some.is

pub returns-clause-judged : goal.returns-clause-judged
returns-clause-judged c = status_done _ _ _ c.order_rule.result _ c.order_rule.ensures c.in_default.is c.take_status.ensures.stands
