use Rattle.std.proofs.Common.{◌≡◌, ℕ, List, take}
use Rattle.session_rules.specs.Logic as logic
use Rattle.hint_check.specs.Hints.{met_seen, IsMetIn}
use Rattle.hint_check.specs.Runs.{AreTrueIn}
use Rattle.hint_check.proofs.left_of.Given as goal

abbrev pub invariant-loop-l : goal.invariant-loop-l
invariant-loop-l l = record {
  left : (trues : List ℕ) → AreTrueIn l.last_true l.run_number trues → met_seen l.met ≡ logic.left trues (take l.l-index l.lits);
  known : IsMetIn l.met l.lits;
}
