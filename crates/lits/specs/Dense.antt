-- How the parts of `Dense` give the numbering.
use Rattle.std.specs.Prelude.{◌≡◌, ℕ, ◌+◌, ◌*◌, ◌≤◌, nat_eq, if◌then◌else◌, List, length, slice_index, Option, Some, None}
use Rattle.std.specs.Option.{option_or}
use Rattle.std.specs.Map.{lookup}
use Rattle.lits.specs.Numbering.{find_number, IsNumbering}

-- a number, if it isn't 0
abbrev pub if_number : ℕ → Option ℕ
if_number n = if nat_eq n 0 then None else Some n

-- what the map has for a variable
abbrev pub far_number : List (ℕ × ℕ) → ℕ → Option ℕ
far_number far q = lookup (nat_eq q) far

-- what is noted of a variable: what the table has, or else what the map has
abbrev pub noted : List ℕ → List (ℕ × ℕ) → ℕ → Option ℕ
noted near far q = option_or (if_number (slice_index near q)) (far_number far q)

-- what holds inside every `Dense`
pub record IsDense (near : List ℕ) (far : List (ℕ × ℕ)) (vars : List ℕ) : Type 0 where
  pub numbering : IsNumbering vars
  pub numbers : (q : ℕ) → noted near far q ≡ find_number vars q
  -- the memory is at most a constant times the count of variables
  pub near_size : length near ≤ 8 * length vars + 4097
  pub far_size : length far ≤ length vars
