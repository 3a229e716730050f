use Rattle.std.proofs.Common.{ap, ◌∙◌, sym, subst}
use Rattle.session_events.specs.State.{StandsFor}
use Rattle.pair_matcher.specs.Inside.{clauses_of_engine}
use Rattle.pair_matcher.proofs.JudgingSets.{model_order, model_broken, model_done}
use Rattle.pair_matcher.proofs.Insides.{between-events}
use Rattle.pair_matcher.proofs.idrup.judge_model.Goals as goal

pub returns-in-Some-clause-judged : goal.returns-in-Some-clause-judged
returns-in-Some-clause-judged c = model_order _ _ _ _ _ _ c.order_rule.result _ c.order_rule.ensures c.in-Some.rule c.in-Some.is

pub returns-in-Some-model_rule-clause-judged : goal.returns-in-Some-model_rule-clause-judged
returns-in-Some-model_rule-clause-judged c = model_broken _ _ _ _ _ _ c.order_rule.result _ c.order_rule.ensures c.in_default.is c.model_rule.result c.model_rule.ensures.rule
    c.in-Some-model_rule.rule c.in-Some-model_rule.is

pub returns-clause-judged : goal.returns-clause-judged
returns-clause-judged c = model_done (clauses_of_engine c.args.p.now.engine) (clauses_of_engine c.args.p.now.engine) c.args.p.now.next c.args.p.now.next _ _
    c.order_rule.result _ c.order_rule.ensures c.in_default.is c.model_rule.result c.model_rule.ensures.rule c.in_default-model_rule.is
    (λ es h. c.take_model.ensures.stands es c.args.m.now (subst (λ z. StandsFor z es) (sym c.model_rule.ensures.unchanged) h))

pub returns-clause-inside : goal.returns-clause-inside
returns-clause-inside c = between-events _ _ c.requires.inside _ (ap (λ z. z.reserved) (c.take_model.ensures.state c.args.m.now) ∙ ap (λ z. z.reserved) c.model_rule.ensures.unchanged)
