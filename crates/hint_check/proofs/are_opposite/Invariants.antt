use Rattle.std.proofs.Common.{◌≡◌, ℕ, ◌<◌, get_or, false}
use Rattle.lits.specs.Literal.{neg}
use Rattle.lits.specs.Clause.{has}
use Rattle.hint_check.proofs.are_opposite.Given as goal

abbrev pub invariant-loop-l : goal.invariant-loop-l
invariant-loop-l l = (k : ℕ) → k < l.l-index → has l.start (neg (get_or l.start k 0)) ≡ false
