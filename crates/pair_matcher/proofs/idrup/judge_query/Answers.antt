use Rattle.pair_matcher.specs.Inside.{clauses_of_engine}
use Rattle.pair_matcher.proofs.JudgingSets.{query_order, query_done}
use Rattle.pair_matcher.proofs.idrup.judge_query.Goals as goal

pub returns-in-Some-clause-judged : goal.returns-in-Some-clause-judged
returns-in-Some-clause-judged c = query_order _ _ _ _ _ _ c.order_rule.result _ c.order_rule.ensures c.in-Some.rule c.in-Some.is

pub returns-clause-judged : goal.returns-clause-judged
returns-clause-judged c = query_done (clauses_of_engine c.args.p.now.engine) (clauses_of_engine c.args.p.now.engine) c.args.p.now.next c.args.p.now.next _ _
    c.order_rule.result _ c.order_rule.ensures c.in_default.is c.in_ok-take_query.ensures.stands
