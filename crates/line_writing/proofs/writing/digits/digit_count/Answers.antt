use Rattle.std.proofs.Common.{◌≡◌, arith}
use Rattle.line_writing.proofs.Digits.{length-decimal, powers_of_ten}
use Rattle.line_writing.proofs.writing.digits.digit_count.Goals as goal

pub returns-then-n-power : goal.returns-then-n-power
returns-then-n-power c =
    let power = powers_of_ten c.loop-power.power-index 0 c.loop-power-test.true in
    let count = length-decimal c.loop-power.power-index c.args.n c.loop-power.invariant.passed (rw power at c.if-n-power.true) c.ranges.n.fits in
    record { count = omega arith; bound = omega arith }

pub loop-power-preserved : goal.loop-power-preserved
loop-power-preserved c =
    let power = powers_of_ten c.loop-power.power-index 0 c.loop-power-test.true in
    record { count = omega arith; passed = λ more. rw power at c.if-n-power.false }

pub returns : goal.returns
returns c =
    let last : c.loop-power.power-index ≡ 19 = omega arith in
    let count = length-decimal c.loop-power.power-index c.args.n c.loop-power.invariant.passed (rw last (omega arith)) c.ranges.n.fits in
    record { count = omega arith; bound = omega arith }
