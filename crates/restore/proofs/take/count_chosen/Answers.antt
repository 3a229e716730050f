use Rattle.std.proofs.Common.{◌≡◌, ◌+◌, sym, ◌∙◌, ap, subst, arith, take, length}
use Rattle.restore.specs.Split.{chosen_count}
use Rattle.restore.proofs.Splitting.{counted_more, counted_same, count_le}
use Rattle.restore.proofs.take.count_chosen.Goals as goal
use Rattle.restore.proofs.take.count_chosen.Goals.{then-m, else-m}

pub overflow_add-count : goal.overflow_add-count
overflow_add-count c =
    let low = count_le c.args.chosen.now c.loop-m.m-index in
    let is : c.loop-m.count ≡ chosen_count (take c.loop-m.m-index c.args.chosen.now) = c.loop-m.invariant in
    let lt = c.loop-m-test.true in
    record { fits = omega arith }

pub loop-m-preserved : goal.loop-m-preserved
loop-m-preserved c = elim c.if-m.branch [
  | then-m w ↦ counted_more c.args.chosen.now c.loop-m.m-index c.loop-m.count c.if-m.count c.loop-m-test.true w.if-m.true c.loop-m.invariant w.count-is
  | else-m w ↦ counted_same c.args.chosen.now c.loop-m.m-index c.if-m.count c.loop-m-test.true w.if-m.false (w.count-is ∙ c.loop-m.invariant)
]
