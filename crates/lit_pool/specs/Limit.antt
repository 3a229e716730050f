-- How many slots there may be.
use Rattle.std.specs.Prelude.{ℕ}

-- each slot is below this number
abbrev pub slots_end : ℕ
slots_end = 4294967293
