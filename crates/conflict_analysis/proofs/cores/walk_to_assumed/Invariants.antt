use Rattle.std.proofs.Common.{◌≡◌, length}
use Rattle.conflict_analysis.specs.Cores.{IsTracing}
use Rattle.conflict_analysis.proofs.cores.walk_to_assumed.Given as goal

abbrev pub invariant-loop-i : goal.invariant-loop-i
invariant-loop-i l = record {
  tracing : IsTracing l.engine l.i l.marks l.initial.core.items l.core.items l.hints.items;
  same : length l.marks ≡ length l.initial.marks;
}
