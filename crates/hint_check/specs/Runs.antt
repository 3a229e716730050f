-- Which literals are true in a run: for each literal code the number of the last run in which it was true.
use Rattle.std.specs.Prelude.{◌≡◌, ℕ, ◌*◌, ◌<◌, ◌≤◌, List, length, slice_index, nat_eq}
use Rattle.lits.specs.Literal.{max_var}
use Rattle.lits.specs.Clause.{has}

-- no literal was true in a later run than this one
abbrev pub NoneLater : List ℕ → ℕ → Type 0
NoneLater last_true run_number = (k : ℕ) → k < length last_true → slice_index last_true k ≤ run_number

-- the literals that are true in this run are these
abbrev pub AreTrueIn : List ℕ → ℕ → List ℕ → Type 0
AreTrueIn last_true run_number trues = (l : ℕ) → l < length last_true → nat_eq (slice_index last_true l) run_number ≡ has trues l

-- the table has two rows for each reserved variable, none of a later run than the last
pub record IsTable (last_true : List ℕ) (run_number vars : ℕ) : Type 0 where
  pub size : length last_true ≡ 2 * vars
  pub limit : vars ≤ max_var
  pub below : NoneLater last_true run_number
