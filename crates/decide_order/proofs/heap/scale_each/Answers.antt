use Rattle.std.proofs.Common.{◌/◌, ◌^◌, sym, arith}
use Rattle.std.proofs.lemmas.Grind.{common_steps}
use Rattle.std.proofs.lemmas.List.{take_all, drop_all, get_or_default}
use Rattle.std.proofs.lemmas.List.Edits.{map_over_more}
use Rattle.decide_order.proofs.heap.scale_each.Goals as goal

pub loop-score-preserved : goal.loop-score-preserved
loop-score-preserved c =
    let more = c.loop-score-test.true in
    let long = c.loop-score.auto.score-items in
    map_over_more (λ s. s / 2 ^ c.args.bits) c.args.scores.now c.loop-score.score-items c.loop-score.score-index _ (omega arith) c.loop-score.invariant
    (sym (get_or_default c.loop-score.score-items c.loop-score.score-index _ 0 (omega arith)))

pub returns : goal.returns
returns c = grind (arith, common_steps, take_all, drop_all)
