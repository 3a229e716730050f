use Rattle.std.proofs.Common.{◌∙◌, ap}
use Rattle.session_rules.specs.declared.LStep.TheVariants as lsteps
use Rattle.pair_matcher.proofs.TranslatingIds.{judged_through}
use Rattle.pair_matcher.proofs.lidrup.take_input.Goals as goal

pub returns-in-Ok-clause-judged : goal.returns-in-Ok-clause-judged
returns-in-Ok-clause-judged c = judged_through c.args.numbers.now.vars c.number.new.numbers.vars c.number.ensures.continues _ _ _ _ _ _ _ _ c.dense.result.now _ c.shown_answer.result
    c.number.ensures.stands c.in_ok-number.ensures.known (ap (λ z. lsteps.Input c.args.id z) (c.lits.ensures ∙ c.in_ok-number.ensures.lits)) c.in-Ok.ensures.judged c.shown_answer.ensures c.dense.ensures
