use Rattle.pair_matcher.proofs.JudgingSets.{input_order, input_done}
use Rattle.pair_matcher.proofs.Engines.{engine_added}
use Rattle.pair_matcher.proofs.idrup.judge_input.Goals as goal

pub returns-in-Some-clause-judged : goal.returns-in-Some-clause-judged
returns-in-Some-clause-judged c = input_order _ _ _ _ _ _ _ c.order_rule.result c.order_rule.ensures c.in-Some.rule c.in-Some.is

pub returns-clause-judged : goal.returns-clause-judged
returns-clause-judged c = input_done _ _ _ _ _ _ c.order_rule.result c.order_rule.ensures c.in_default.is
    (engine_added c.args.p.now.engine c.add.new.self c.args.p.now.next c.args.lits.now c.in-Ok.field-0 c.in-Ok.ensures.ok)
    c.in_ok-take_input.ensures.stands
