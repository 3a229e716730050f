use Rattle.std.proofs.Common.{ap, ◌∙◌, sym, subst}
use Rattle.session_events.specs.State.{StandsFor}
use Rattle.pair_matcher.specs.Inside.{HasHintRoom}
use Rattle.pair_matcher.proofs.Judging.{core_order, core_hint, core_stranger, core_done}
use Rattle.pair_matcher.proofs.Insides.{at_below, inside-events, store_within}
use Rattle.pair_matcher.proofs.lidrup.judge_core.Goals as goal

pub returns-in-Some-clause-judged : goal.returns-in-Some-clause-judged
returns-in-Some-clause-judged c = core_order c.args.p.now.store _ _ c.order_rule.result _ _ c.order_rule.ensures c.in-Some.rule c.in-Some.is

pub run-requires-clause-start : goal.run-requires-clause-start
run-requires-clause-start c = λ l k. at_below c.args.u.now c.args.p.now.hints l c.requires.room k

pub run-requires-clause-store : goal.run-requires-clause-store
run-requires-clause-store c = store_within _ _ _ c.requires.inside

pub returns-in-Fails-clause-judged : goal.returns-in-Fails-clause-judged
returns-in-Fails-clause-judged c = core_hint c.args.p.now.store _ _ c.order_rule.result _ _ c.order_rule.ensures c.in_default.is c.run.result c.run.ensures.end
    c.in-Fails.position c.in-Fails.is

pub returns-in-Some-core_rule-clause-judged : goal.returns-in-Some-core_rule-clause-judged
returns-in-Some-core_rule-clause-judged c = core_stranger c.args.p.now.store _ _ c.order_rule.result _ _ c.order_rule.ensures c.in_default.is c.run.result c.run.ensures.end
    c.in-Closed.is c.core_rule.result c.core_rule.ensures.rule c.in-Some-core_rule.rule c.in-Some-core_rule.is

pub returns-clause-judged : goal.returns-clause-judged
returns-clause-judged c = core_done c.args.p.now.store _ _ c.order_rule.result _ _ c.order_rule.ensures c.in_default.is c.run.result c.run.ensures.end
    c.in-Closed.is c.core_rule.result c.core_rule.ensures.rule c.in_default-core_rule.is
    (λ es h. c.take_core.ensures.stands es c.args.u.now (subst (λ z. StandsFor z es) (sym c.core_rule.ensures.unchanged) h))

pub returns-clause-inside : goal.returns-clause-inside
returns-clause-inside c = subst (λ z. HasHintRoom c.args.p.now.store c.take_core.new.self z) (sym c.run.ensures.reserved) (inside-events _ _ _ c.requires.inside _
    (ap (λ z. z.reserved) (c.take_core.ensures.state c.args.u.now) ∙ ap (λ z. z.reserved) c.core_rule.ensures.unchanged))
