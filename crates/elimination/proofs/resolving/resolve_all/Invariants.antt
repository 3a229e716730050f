use Rattle.std.proofs.Common.{◌≡◌, ◌+◌, ◌≤◌, ◌^◌, take}
use Rattle.elimination.specs.Resolving.{ResolvesEach}
use Rattle.elimination.proofs.resolving.resolve_all.Given as goal

abbrev pub invariant-loop-first : goal.invariant-loop-first
invariant-loop-first g l = record {
  each : ResolvesEach g.L.Log.takes l.var l.initial.log l.initial.clauses (take l.first-index l.firsts) l.seconds l.clauses l.log;
  first : l.bench.first.reserved ≡ l.initial.bench.first.reserved;
  second : l.bench.second.reserved ≡ l.initial.bench.second.reserved;
  room : l.clauses.next_id + g.L.Log.room l.log ≤ 2 ^ 63;
}
