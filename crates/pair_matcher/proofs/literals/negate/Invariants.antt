use Rattle.std.proofs.Common.{◌≡◌, take, map}
use Rattle.lits.specs.Literal.{neg}
use Rattle.pair_matcher.proofs.literals.negate.Given as goal

abbrev pub invariant-loop-l : goal.invariant-loop-l
invariant-loop-l l = l.items.items ≡ map neg (take l.l-index l.lits)
