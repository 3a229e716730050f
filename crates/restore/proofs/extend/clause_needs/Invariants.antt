use Rattle.restore.specs.Values.{value}
use Rattle.restore.proofs.Needing.{Looked}
use Rattle.restore.proofs.extend.clause_needs.Given as goal

abbrev pub invariant-loop-l : goal.invariant-loop-l
invariant-loop-l l = Looked (value l.values) l.variable l.lits l.l-index l.held
