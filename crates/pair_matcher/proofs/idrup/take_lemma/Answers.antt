use Rattle.std.proofs.Common.{◌∙◌, ap}
use Rattle.session_rules.specs.declared.Step.TheVariants as steps
use Rattle.pair_matcher.proofs.Translating.{judged_through}
use Rattle.pair_matcher.proofs.Converting.{found_behind}
use Rattle.pair_matcher.proofs.idrup.take_lemma.Goals as goal

pub returns-in-Ok-clause-judged : goal.returns-in-Ok-clause-judged
returns-in-Ok-clause-judged c = judged_through c.args.numbers.now.vars c.number.new.numbers.vars c.number.ensures.continues _ _ _ _ _ _ _ _ _ _ _ c.dense.result.now _ c.shown_answer.result
    c.number.ensures.stands c.in_ok-number.ensures.known (ap (λ z. steps.Lemma z) (c.lits.ensures ∙ c.in_ok-number.ensures.lits)) c.in-Ok.ensures.judged c.shown_answer.ensures c.dense.ensures

pub returns-in-Ok-clause-found : goal.returns-in-Ok-clause-found
returns-in-Ok-clause-found c = found_behind c.args.wanted c.args.numbers.now.vars c.number.new.numbers.vars c.number.ensures.continues _ _ (steps.Lemma c.args.lits.now) _ _ _ c.dense.result.now _ c.shown_answer.result
    c.number.ensures.stands c.in_ok-number.ensures.known (ap (λ z. steps.Lemma z) (c.lits.ensures ∙ c.in_ok-number.ensures.lits)) c.in-Ok.ensures.found c.shown_answer.ensures
