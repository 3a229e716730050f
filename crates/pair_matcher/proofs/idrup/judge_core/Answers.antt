use Rattle.std.proofs.Common.{ap, ◌∙◌, sym, subst, refl, true, false}
use Rattle.session_events.specs.State.{StandsFor}
use Rattle.pair_matcher.proofs.JudgingSets.{core_order, core_stranger, core_open, core_done, tested}
use Rattle.pair_matcher.proofs.Engines.{grown_clauses}
use Rattle.pair_matcher.proofs.Insides.{between-grown}
use Rattle.pair_matcher.proofs.Converting.{core_found}
use Rattle.pair_matcher.proofs.idrup.judge_core.Goals as goal

pub returns-in-Some-clause-judged : goal.returns-in-Some-clause-judged
returns-in-Some-clause-judged c = core_order _ _ _ _ _ _ _ c.order_rule.result c.order_rule.ensures c.in-Some.rule c.in-Some.is

pub returns-in-Some-core_rule-clause-judged : goal.returns-in-Some-core_rule-clause-judged
returns-in-Some-core_rule-clause-judged c = core_stranger _ _ _ _ _ _ _ c.order_rule.result c.order_rule.ensures c.in_default.is c.core_rule.result c.core_rule.ensures.rule
    c.in-Some-core_rule.rule c.in-Some-core_rule.is

pub returns-in-Ok-false-clause-judged : goal.returns-in-Ok-false-clause-judged
returns-in-Ok-false-clause-judged c = core_open _ _ _ _ _ _ _ c.order_rule.result c.order_rule.ensures c.in_default.is c.core_rule.result c.core_rule.ensures.rule c.in_default-core_rule.is
    (tested c.args.p.now.engine c.args.u.now c.args.u.now c.in-Ok-false.field-0 false c.in-Ok-false.ensures.sound c.in-Ok-false.ensures.complete c.in-Ok-false.field-0-test refl)

pub returns-clause-judged : goal.returns-clause-judged
returns-clause-judged c = core_done _ _ c.args.p.now.next c.args.p.now.next _ _ _ c.order_rule.result c.order_rule.ensures c.in_default.is c.core_rule.result c.core_rule.ensures.rule c.in_default-core_rule.is
    (tested c.args.p.now.engine c.args.u.now c.args.u.now c.in-Ok-true.field-0 true c.in-Ok-true.ensures.sound c.in-Ok-true.ensures.complete c.in-Ok-true.field-0-test refl)
    (grown_clauses c.args.p.now.engine c.closes_as_wanted.new.engine c.closes_as_wanted.ensures.frame)
    (λ es h. c.take_core.ensures.stands es c.args.u.now (subst (λ z. StandsFor z es) (sym c.core_rule.ensures.unchanged) h))

pub returns-clause-found : goal.returns-clause-found
returns-clause-found c = core_found c.args.p.now.engine _ _ c.args.wanted c.args.u.now _ c.closes_as_wanted.new.hints (λ w. c.in-Ok-true.ensures.hints c.in-Ok-true.field-0-test w)

pub returns-in-Ok-false-clause-inside : goal.returns-in-Ok-false-clause-inside
returns-in-Ok-false-clause-inside c = between-grown _ _ c.requires c.closes_as_wanted.new.engine _ c.closes_as_wanted.ensures.frame (ap (λ z. z.reserved) c.core_rule.ensures.unchanged)

pub returns-in-Err-clause-inside : goal.returns-in-Err-clause-inside
returns-in-Err-clause-inside c = between-grown _ _ c.requires c.closes_as_wanted.new.engine _ c.closes_as_wanted.ensures.frame (ap (λ z. z.reserved) c.core_rule.ensures.unchanged)

pub returns-clause-inside : goal.returns-clause-inside
returns-clause-inside c = between-grown _ _ c.requires c.closes_as_wanted.new.engine _ c.closes_as_wanted.ensures.frame
    (ap (λ z. z.reserved) (c.take_core.ensures.state c.args.u.now) ∙ ap (λ z. z.reserved) c.core_rule.ensures.unchanged)
