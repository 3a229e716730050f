use Rattle.std.proofs.Common.{◌≤◌, length, drop}
use Rattle.clause_store.specs.Clauses.{IsOnce}
use Rattle.clause_store.proofs.once.is_short.Given as goal

abbrev pub invariant-loop-at : goal.invariant-loop-at
invariant-loop-at l = record { within : l.at ≤ length l.lits; once : IsOnce (drop l.at l.lits) }

abbrev pub decreases-loop-at : goal.decreases-loop-at
decreases-loop-at l = l.at
