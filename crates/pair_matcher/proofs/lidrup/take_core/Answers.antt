use Rattle.std.proofs.Common.{◌∙◌, ap, sym}
use Rattle.lits.specs.Numbering.{dense_lits}
use Rattle.session_rules.specs.declared.LStep.TheVariants as lsteps
use Rattle.pair_matcher.proofs.Translating.{continues-same}
use Rattle.pair_matcher.proofs.TranslatingIds.{judged_through, found-known}
use Rattle.pair_matcher.proofs.lidrup.take_core.Goals as goal

pub returns-in-Ok-true-clause-judged : goal.returns-in-Ok-true-clause-judged
returns-in-Ok-true-clause-judged c = judged_through c.args.numbers.now.vars c.find.new.self.vars (continues-same c.args.numbers.now.vars c.find.new.self.vars c.find.ensures.vars) _ _ _ _ _ _ _ _ c.dense.result.now _ c.shown_answer.result
    (λ ps h. h) (found-known c.args.numbers.now.vars c.find.new.self.vars c.args.u.now _ c.find.ensures.vars c.in-Ok-true.ensures.known c.in-Ok-true.field-0-test)
    (ap (λ z. lsteps.Core z c.args.hints.now) (c.lits.ensures ∙ c.in-Ok-true.ensures.lits c.in-Ok-true.field-0-test ∙ ap (λ z. dense_lits z c.args.u.now) (sym c.find.ensures.vars)))
    c.judge_core-answer.ensures.judged c.shown_answer.ensures c.dense.ensures
