use Rattle.std.proofs.Common.{map, take}
use Rattle.restore.specs.declared.lists.Kept.{Kept}
use Rattle.restore.specs.Resolution.{all_variables}
use Rattle.restore.proofs.Choosing.{SoFar}
use Rattle.restore.proofs.take.choose_clauses.Given as goal

abbrev pub invariant-loop-kept : goal.invariant-loop-kept
invariant-loop-kept l = SoFar l.places l.initial.choice.chosen.items l.choice.chosen.items l.initial.choice.due.items l.choice.due.items (all_variables (map (λ (k : Kept). k.lits) (take l.kept-index l.clauses)))
