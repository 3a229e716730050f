use Rattle.std.proofs.Common.{◌≡◌, ◌++◌, drop, filter}
use Rattle.resolvents.specs.Held.{unmarked}
use Rattle.resolvents.proofs.push_unmarked.Given as goal

abbrev pub invariant-loop-l : goal.invariant-loop-l
invariant-loop-l l = l.out.items ++ filter (unmarked l.marks l.var) (drop l.l-index l.lits) ≡ l.fn.out.items ++ filter (unmarked l.marks l.var) l.lits
