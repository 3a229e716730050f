use Rattle.std.proofs.Common.{◌≡◌, ◌/◌, ◌^◌, ◌++◌, map, take, drop}
use Rattle.decide_order.proofs.heap.scale_each.Given as goal

abbrev pub invariant-loop-score : goal.invariant-loop-score
invariant-loop-score l = l.score-items ≡ map (λ s. s / 2 ^ l.fn.bits) (take l.score-index l.fn.scores) ++ drop l.score-index l.fn.scores
