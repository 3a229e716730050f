use Rattle.std.proofs.Common.{◌≡◌, ℕ, ◌+◌, List, drop}
use Rattle.session_rules.specs.Logic.{hints_fail_from}
use Rattle.hint_check.specs.Hints.{active_at}
use Rattle.hint_check.specs.Runs.{AreTrueIn, NoneLater}
use Rattle.hint_check.proofs.follow.Given as goal

abbrev pub invariant-loop-i : goal.invariant-loop-i
invariant-loop-i l = record {
  below : NoneLater l.last_true l.run_number;
  so_far : (first : List ℕ) → AreTrueIn l.initial.last_true l.run_number first
      → (trues : List ℕ) × AreTrueIn l.last_true l.run_number trues × (hints_fail_from (active_at l.store) (l.i + 1) trues (drop l.i l.hints) ≡ hints_fail_from (active_at l.store) 1 first l.hints);
}
