use Rattle.std.proofs.Common.{sym, arith}
use Rattle.lits.specs.Literal.{neg}
use Rattle.lits.specs.Clause.{has}
use Rattle.hint_check.proofs.Lefts.{any_none}
use Rattle.hint_check.proofs.are_opposite.Goals as goal

pub returns : goal.returns
returns c = sym (any_none (λ l. has c.args.start.now (neg l)) c.args.start.now (λ k lt. c.loop-l.invariant k (omega (arith, lt, c.loop-l-test.false))))
