use Rattle.std.proofs.Common.{length, arith}
use Rattle.occurrence_lists.proofs.Counting.{times-past, times-before}
use Rattle.occurrence_lists.proofs.last_place.Goals as goal

pub loop-at-init : goal.loop-at-init
loop-at-init c = record { within = omega arith; none = times-past c.args.id c.args.ids.now (length c.args.ids.now) (omega arith) }

pub loop-at-preserved : goal.loop-at-preserved
loop-at-preserved c = record { within = omega (arith, c.loop-at.invariant.within); none = times-before c.args.id c.loop-at.at c.args.ids.now c.loop-at-test.true c.loop-at.invariant.within c.if-ids-at.false c.loop-at.invariant.none }
