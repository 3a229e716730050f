use Rattle.std.proofs.Common.{◌≡◌, ◌+◌, ◌≤◌, ◌^◌, take}
use Rattle.elimination.specs.Weakening.{WeakensEach}
use Rattle.elimination.proofs.weakening.weaken_each.Given as goal

abbrev pub invariant-loop-id : goal.invariant-loop-id
invariant-loop-id g l = record {
  weakened : WeakensEach g.L.Log.takes l.initial.log l.initial.clauses (take l.id-index l.ids) l.kept l.clauses l.log;
  room : l.clauses.next_id + g.L.Log.room l.log ≤ 2 ^ 63;
}
