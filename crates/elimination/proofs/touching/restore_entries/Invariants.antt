use Rattle.std.proofs.Common.{◌≡◌, ◌+◌, ◌≤◌, ◌^◌, take}
use Rattle.elimination.specs.Restoring.{kept_of, Restores}
use Rattle.elimination.proofs.touching.restore_entries.Given as goal

abbrev pub invariant-loop-entry : goal.invariant-loop-entry
invariant-loop-entry g l = record {
  restored : Restores g.L.Log.takes l.initial.log l.initial.clauses (kept_of (take l.entry-index l.entries)) l.clauses l.log;
  room : l.clauses.next_id + g.L.Log.room l.log ≤ 2 ^ 63;
}
