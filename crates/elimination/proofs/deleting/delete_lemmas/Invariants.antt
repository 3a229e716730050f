use Rattle.std.proofs.Common.{◌≡◌, ◌+◌, ◌≤◌, ◌^◌}
use Rattle.elimination.specs.Deleting.{DeletesLemmas}
use Rattle.elimination.proofs.deleting.delete_lemmas.Given as goal

abbrev pub invariant-loop-id : goal.invariant-loop-id
invariant-loop-id g l = record {
  deleted : DeletesLemmas g.L.Log.takes l.var l.initial.log l.initial.clauses 0 l.id l.clauses l.log;
  room : l.clauses.next_id + g.L.Log.room l.log ≤ 2 ^ 63;
}
