use Rattle.std.proofs.Common.{◌≡◌, ◌+◌, ◌≤◌, ◌^◌, take}
use Rattle.elimination.specs.Restoring.{Restores}
use Rattle.elimination.proofs.touching.restore_clauses.Given as goal

abbrev pub invariant-loop-clause : goal.invariant-loop-clause
invariant-loop-clause g l = record {
  restored : Restores g.L.Log.takes l.initial.log l.initial.clauses (take l.clause-index l.kept) l.clauses l.log;
  room : l.clauses.next_id + g.L.Log.room l.log ≤ 2 ^ 63;
}
