use Rattle.std.proofs.Common.{ap}
use Rattle.pair_matcher.proofs.Judging.{input_order, input_taken, input_done, taken_by_fault}
use Rattle.pair_matcher.proofs.Insides.{inside-added}
use Rattle.pair_matcher.proofs.lidrup.judge_input.Goals as goal

pub returns-in-Some-clause-judged : goal.returns-in-Some-clause-judged
returns-in-Some-clause-judged c = input_order c.args.p.now.store _ _ _ _ _ c.order_rule.result c.order_rule.ensures c.in-Some.rule c.in-Some.is

pub returns-in-Err-IdTaken-clause-judged : goal.returns-in-Err-IdTaken-clause-judged
returns-in-Err-IdTaken-clause-judged c = input_taken _ _ _ _ _ _ c.order_rule.result c.order_rule.ensures c.in_default.is
    (taken_by_fault _ c.in-Err-IdTaken.field-0 c.in-Err-IdTaken.field-0-is c.in-Err-IdTaken.ensures.memory)

pub returns-in_err-take_input-clause-inside : goal.returns-in_err-take_input-clause-inside
returns-in_err-take_input-clause-inside c = inside-added _ _ _ c.requires.inside _ _ _ c.in-Ok.field-0 _ c.requires.reserved c.in-Ok.ensures.ok
    (ap (λ z. z.reserved) c.in_err-take_input.ensures.err)

pub returns-clause-judged : goal.returns-clause-judged
returns-clause-judged c = input_done _ _ _ _ _ _ c.order_rule.result c.order_rule.ensures c.in_default.is c.in-Ok.ensures.free c.in-Ok.field-0 c.in-Ok.ensures.ok c.in_ok-take_input.ensures.stands

pub returns-clause-inside : goal.returns-clause-inside
returns-clause-inside c = inside-added _ _ _ c.requires.inside _ _ _ c.in-Ok.field-0 _ c.requires.reserved c.in-Ok.ensures.ok
    (ap (λ z. z.reserved) c.in_ok-take_input.ensures.ok)
