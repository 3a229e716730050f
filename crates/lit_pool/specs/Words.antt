-- How a block keeps the words of a table.
use Rattle.std.specs.Prelude.{◌≡◌, ℕ, ◌-◌, ◌≤◌, List, [], Option, Some, None, length, take, drop, replicate}
use Rattle.lit_pool.specs.declared.words.Held.{Held}
use Rattle.lit_pool.specs.declared.words.Words.TheInside.{Inside}

-- the items of a block, where there is one
abbrev pub items_of : Option Held → List ℕ
items_of None = []
items_of (Some held) = held.block.items

-- the words are the items at the front
abbrev pub words_of : Inside → List ℕ
words_of w = take w.used (items_of w.held)

-- the first n of some items are words, and all others are the default literal
pub record Placed (items : List ℕ) (n : ℕ) : Type 0 where
  pub within : n ≤ length items
  pub unused : drop n items ≡ replicate (length items - n) 0

abbrev pub ArePlaced : Inside → Type 0
ArePlaced w = Placed (items_of w.held) w.used
