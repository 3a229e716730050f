use Rattle.std.proofs.Common.{◌≡◌, ℕ, false, drop, get_or, if◌then◌else◌}
use Rattle.lits.specs.Clause.{has}
use Rattle.resolvents.proofs.write_marks.Given as goal

abbrev pub invariant-loop-l : goal.invariant-loop-l
invariant-loop-l l = (q : ℕ) → (if has (drop l.l-index l.lits) q then l.to else get_or l.marks q false) ≡ (if has l.lits q then l.to else get_or l.fn.marks q false)
