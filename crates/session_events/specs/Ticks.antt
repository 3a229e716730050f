-- A table with a tick for each literal, at the place of its code.
use Rattle.std.specs.Prelude.{◌≡◌, ℕ, ◌*◌, ◌≤◌, Bool, false, not, ◌&&◌, List, slice_index_or}
use Rattle.lits.specs.Literal.{var}
use Rattle.session_rules.specs.Logic.{has}

-- whether the table ticks a literal; none beyond it is ticked
abbrev pub is_ticked : List Bool → ℕ → Bool
is_ticked ticks l = slice_index_or ticks l false

-- the table ticks these literals and no other
pub record Ticks (ticks : List Bool) (ls : List ℕ) : Type 0 where
  pub each : (l : ℕ) → is_ticked ticks l ≡ has ls l

-- the table ticks what the other ticks, without these literals
pub record Unticks (old new : List Bool) (ls : List ℕ) : Type 0 where
  pub each : (l : ℕ) → is_ticked new l ≡ (is_ticked old l && not (has ls l))

-- a table of this length has a place for each literal of the variable
abbrev pub HasPlace : ℕ → ℕ → Type 0
HasPlace size l = 2 * var l ≤ size
