use Rattle.std.proofs.Common.{◌∙◌, sym, subst}
use Rattle.side_laws.specs.ClauseStates.{clauses_of_store}
use Rattle.pair_matcher.specs.Sides.{AreAfterIds}
use Rattle.pair_matcher.proofs.TranslatingIds.{strange_order, strange_hint, strange_done}
use Rattle.pair_matcher.proofs.lidrup.judge_strange_core.Goals as goal

pub returns-in-Some-clause-judged : goal.returns-in-Some-clause-judged
returns-in-Some-clause-judged c = strange_order c.args.numbers.now.vars _ _ _ _ _ c.args.u.now c.args.hints.now c.order_rule.result c.order_rule.ensures c.in-Some.rule c.in-Some.is

pub returns-in-Ok-Fails-clause-judged : goal.returns-in-Ok-Fails-clause-judged
returns-in-Ok-Fails-clause-judged c = strange_hint c.args.numbers.now.vars _ _ _ _ _ c.args.u.now c.args.hints.now c.order_rule.result c.order_rule.ensures c.in_default.is
    c.in-Ok-Fails.field-0 c.in-Ok-Fails.ensures.end c.in-Ok-Fails.position c.in-Ok-Fails.field-0-is

pub returns-in-Ok-clause-judged : goal.returns-in-Ok-clause-judged
returns-in-Ok-clause-judged c = strange_done c.args.numbers.now.vars _ _ _ _ _ c.args.u.now c.args.hints.now c.order_rule.result c.order_rule.ensures c.in_default.is
    c.in-Ok-Closed.field-0 c.in-Ok-Closed.ensures.end c.in-Ok-Closed.field-0-is (clauses_of_store c.follow_strange.new.p.store) c.follow_strange.new.p.events
    (λ ps h. subst (λ z. AreAfterIds z ps) (sym c.follow_strange.ensures.kept) h)
    c.find.new.self.vars (c.find.ensures.vars ∙ c.follow_strange.ensures.vars) c.first_stranger.result c.first_stranger.ensures.rule
