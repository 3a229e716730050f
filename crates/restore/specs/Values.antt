-- The values of variables as a list: the variable v has the place v - 1.
use Rattle.std.specs.Prelude.{ℕ, zero, suc, ◌<◌, ◌≤◌, Bool, false, List, length}
use Rattle.std.specs.List.{slice_index_or}

-- the value of a variable, which is false where it isn't reserved
abbrev pub value : List Bool → ℕ → Bool
value vs zero = false
value vs (suc k) = slice_index_or vs k false

-- the greatest reserved variable
abbrev pub reserved : List Bool → ℕ
reserved vs = length vs

-- the variable may be used
abbrev pub IsReserved : List Bool → ℕ → Type 0
IsReserved vs x = (0 < x) × (x ≤ length vs)
