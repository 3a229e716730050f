use Rattle.std.proofs.Common.{◌≡◌, ◌&&◌, nat_lt, false, length, get_or, refl, ap, ◌∙◌, ne_eqb}
use Rattle.std.proofs.Math.Bool.{and-false}
use Rattle.lits.specs.Word.{is_end_byte}
use Rattle.lits.proofs.Front.{none_found}
use Rattle.lits.proofs.reading.front_numeral.Goals as goal

pub returns-clause-none : goal.returns-clause-none
returns-clause-none c =
    let n = c.front_digits-count.result.0 in
    let b = get_or c.args.bytes.now n 0 in
    let inside : is_end_byte b ≡ false = rw (ne_eqb b 32 c.if-behind-eq32.false, ne_eqb b 10 c.if-behind-eq10.false) refl in
    none_found c.args.bytes.now n c.front_digits-count.ensures.digits c.front_digits-count.ensures.longest (ap (λ e. nat_lt n (length c.args.bytes.now) && e) inside ∙ and-false _)
