use Rattle.std.proofs.Common.{refl}
use Rattle.pair_matcher.proofs.Translating.{continues-same}
use Rattle.pair_matcher.proofs.TranslatingIds.{judged_through}
use Rattle.pair_matcher.proofs.lidrup.take_weakening.Goals as goal

pub returns-in-Ok-clause-judged : goal.returns-in-Ok-clause-judged
returns-in-Ok-clause-judged c = judged_through c.args.numbers.now.vars c.args.numbers.now.vars (continues-same c.args.numbers.now.vars c.args.numbers.now.vars refl) _ _ _ _ _ _ _ _ c.dense.result.now _ c.shown_answer.result
    (λ ps h. h) refl refl c.in-Ok.ensures.judged c.shown_answer.ensures c.dense.ensures
