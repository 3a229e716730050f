use Rattle.std.proofs.Common.{◌≡◌, ◌+◌, ◌≤◌, ◌^◌, [], ◌∷◌, take}
use Rattle.elimination.specs.Resolving.{ResolvesEach}
use Rattle.elimination.proofs.resolving.resolve_with.Given as goal

abbrev pub invariant-loop-second : goal.invariant-loop-second
invariant-loop-second g l = record {
  each : ResolvesEach g.L.Log.takes l.var l.initial.log l.initial.clauses (l.first ∷ []) (take l.second-index l.seconds) l.clauses l.log;
  held : l.bench.first ≡ l.initial.bench.first;
  second : l.bench.second.reserved ≡ l.initial.bench.second.reserved;
  room : l.clauses.next_id + g.L.Log.room l.log ≤ 2 ^ 63;
}
