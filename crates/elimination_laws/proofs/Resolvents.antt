-- No resolvent that is due is a tautology.
use Rattle.std.proofs.Common.{◌≡◌, ℕ, true, false, List, Contains, ◌∙◌}
use Rattle.lits.proofs.Sets.{tautology-same}
use Rattle.lits.proofs.Members.{any_at}
use Rattle.session_rules.specs.Logic.{same_set, is_tautology}
use Rattle.restore.specs.Resolution.{resolvents}
use Rattle.restore.specs.Stack.{are_due}
use Rattle.restore.proofs.Keeping.{resolvents_at, due_resolvent}

pub due-no_tautology : (x : ℕ) (cs ls : List (List ℕ)) → are_due x cs ls ≡ true → (l : List ℕ) → Contains ls l → is_tautology l ≡ false
due-no_tautology x cs ls h l m = let r = any_at (same_set l) (resolvents x cs) (due_resolvent x cs ls h l m) in
    tautology-same l r.0 r.2 ∙ (resolvents_at x cs r.0 r.1).6
