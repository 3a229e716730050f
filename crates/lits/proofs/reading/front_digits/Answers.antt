use Rattle.std.proofs.Common.{get_or, arith, sym, ◌∙◌}
use Rattle.lits.proofs.Digits.{digit_range}
use Rattle.lits.proofs.Front.{more_digits, few_digits}
use Rattle.lits.proofs.reading.front_digits.Goals as goal

pub overflow_mul-value : goal.overflow_mul-value
overflow_mul-value c =
    let few = few_digits c.args.bytes.now c.digits.count 17 c.digits.invariant.1 (omega (arith, c.digits-test.true, c.min-most.ensures)) in
    omega (arith, few, c.digits.invariant.2)

pub overflow_add-value : goal.overflow_add-value
overflow_add-value c =
    let few = few_digits c.args.bytes.now c.digits.count 17 c.digits.invariant.1 (omega (arith, c.digits-test.true, c.min-most.ensures)) in
    let range = digit_range (get_or c.args.bytes.now c.digits.count 0) (sym c.is_ascii_digit.ensures.value ∙ c.if-is_ascii_digit.true) in
    omega (arith, few, c.digits.invariant.2, range.1)

pub digits-preserved : goal.digits-preserved
digits-preserved c =
    let more = more_digits c.args.bytes.now c.digits.count c.digits.value (omega (arith, c.digits-test.true, c.min-most.ensures)) c.digits.invariant.1 (sym c.is_ascii_digit.ensures.value ∙ c.if-is_ascii_digit.true) c.digits.invariant.2 in
    (omega (arith, c.digits-test.true), more.0, more.1)
