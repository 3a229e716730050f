use Rattle.std.proofs.Common.{get_or, sym, ◌∙◌, eqb-true}
use Rattle.std.proofs.lemmas.Bool.{OnTrue_from, eqb-false}
use Rattle.lits.proofs.Front.{zero_at, zero_missing}
use Rattle.lits.proofs.reading.front_zero.Goals as goal

pub returns-then-ends_at-clause-yes : goal.returns-then-ends_at-clause-yes
returns-then-ends_at-clause-yes c = OnTrue_from _ _ (λ e. zero_at c.args.bytes.now (eqb-true (get_or c.args.bytes.now 0 0) 48 e) (sym c.ends_at.ensures ∙ c.if-ends_at.true))

pub returns-then-ends_at-clause-no : goal.returns-then-ends_at-clause-no
returns-then-ends_at-clause-no c = λ e f. eqb-false (get_or c.args.bytes.now 0 0) 48 e

pub returns-else-ends_at-clause-no : goal.returns-else-ends_at-clause-no
returns-else-ends_at-clause-no c = λ e f. absurd (zero_missing c.args.bytes.now (sym c.ends_at.ensures ∙ c.if-ends_at.false) f)
