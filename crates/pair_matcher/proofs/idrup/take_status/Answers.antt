use Rattle.std.proofs.Common.{refl}
use Rattle.pair_matcher.proofs.Translating.{judged_through, continues-same}
use Rattle.pair_matcher.proofs.idrup.take_status.Goals as goal

pub returns-clause-judged : goal.returns-clause-judged
returns-clause-judged c = judged_through c.args.numbers.now.vars c.args.numbers.now.vars (continues-same c.args.numbers.now.vars c.args.numbers.now.vars refl) _ _ _ _ _ _ _ _ _ _ _ c.dense.result.now _ c.shown_answer.result
    (λ ps h. h) refl refl c.judge_status-answer.ensures.judged c.shown_answer.ensures c.dense.ensures
