use Rattle.std.proofs.Common.{◌≡◌, ◌++◌, drop}
use Rattle.restore.specs.Resolution.{without}
use Rattle.resolvents.proofs.push_others.Given as goal

abbrev pub invariant-loop-l : goal.invariant-loop-l
invariant-loop-l l = l.out.items ++ without l.var (drop l.l-index l.lits) ≡ l.fn.out.items ++ without l.var l.lits
