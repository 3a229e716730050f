use Rattle.std.proofs.Common.{◌≡◌, drop}
use Rattle.std.specs.List.{list_all}
use Rattle.resolvents.specs.Held.{marked}
use Rattle.resolvents.proofs.are_marked.Given as goal

abbrev pub invariant-loop-l : goal.invariant-loop-l
invariant-loop-l l = list_all (marked l.marks) (drop l.l-index l.lits) ≡ list_all (marked l.marks) l.lits
