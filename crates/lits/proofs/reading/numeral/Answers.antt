use Rattle.std.proofs.Common.{◌∙◌, sym, ap, min, Some, ltb-true}
use Rattle.std.specs.Option.{option_map}
use Rattle.lits.specs.declared.reading.TheConstants.{LARGE}
use Rattle.std.proofs.lemmas.Bool.{ltb-false}
use Rattle.lits.proofs.Digits.{gathered_more, no_numeral_first, no_numeral_at, numeral_is}
use Rattle.lits.proofs.reading.numeral.Goals as goal

pub returns-then-not-starts_above_zero : goal.returns-then-not-starts_above_zero
returns-then-not-starts_above_zero c =
    sym (ap (option_map (min LARGE)) (no_numeral_first c.args.bytes.now (ltb-false _ _ (sym c.starts_above_zero.ensures ∙ c.if-not-starts_above_zero.true))))

pub returns-then-not-is_ascii_digit : goal.returns-then-not-is_ascii_digit
returns-then-not-is_ascii_digit c =
    sym (ap (option_map (min LARGE)) (no_numeral_at c.args.bytes.now c.loop-b.b-index c.loop-b-test.true (sym c.is_ascii_digit.ensures.value ∙ c.if-not-is_ascii_digit.true)))

pub loop-b-preserved : goal.loop-b-preserved
loop-b-preserved c = gathered_more LARGE c.args.bytes.now c.loop-b.b-index c.loop-b.value c.with_digit-value.result c.loop-b-test.true c.loop-b.invariant.0 (sym c.is_ascii_digit.ensures.value ∙ c.if-not-is_ascii_digit.false) c.loop-b.invariant.1 c.with_digit-value.ensures

pub returns : goal.returns
returns c =
    ap Some c.loop-b.invariant.1 ∙ sym (ap (option_map (min LARGE)) (numeral_is c.args.bytes.now c.loop-b.b-index (ltb-true _ _ (sym c.starts_above_zero.ensures ∙ c.if-not-starts_above_zero.false)) c.loop-b-test.false c.loop-b.invariant.0))
