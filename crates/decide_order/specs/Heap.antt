-- The binary heap: the children of the place i are 2 i + 1 and 2 i + 2, and no variable is better than the one above it.
use Rattle.std.specs.Prelude.{◌≡◌, ◌≢◌, ℕ, ◌+◌, ◌-◌, ◌*◌, ◌/◌, ◌^◌, ◌<◌, ◌≤◌, List, length, slice_index}
use Rattle.decide_order.specs.Placed.{Placed, has}

-- a number that is the greater, the better the variable is: by its score, then by the least variable
unfoldable pub rank : List ℕ → ℕ → ℕ
rank scores v = slice_index scores (v - 1) * 2 ^ 32 + (2 ^ 32 - v)

-- the rank of the variable at a place
abbrev pub rank_at : List ℕ → List ℕ → ℕ → ℕ
rank_at scores items i = rank scores (slice_index items i)

-- the place above
abbrev pub parent : ℕ → ℕ
parent i = (i - 1) / 2

-- no variable is better than the one above it, for those above from this place on
pub record IsHeapFrom (scores items : List ℕ) (start : ℕ) : Type 0 where
  pub ordered : (j : ℕ) → 0 < j → j < length items → start ≤ parent j → rank_at scores items j ≤ rank_at scores items (parent j)

-- the same for each place but this one, whose variable may be better than the one above it
pub record RisesAt (scores items : List ℕ) (i : ℕ) : Type 0 where
  pub others : (j : ℕ) → 0 < j → j < length items → j ≢ i → rank_at scores items j ≤ rank_at scores items (parent j)
  pub below : (j : ℕ) → 0 < j → j < length items → parent j ≡ i → 0 < i → rank_at scores items j ≤ rank_at scores items (parent i)

-- the same for each place but those below this one, whose variables may be better than the one here
pub record SinksAt (scores items : List ℕ) (start i : ℕ) : Type 0 where
  pub others : (j : ℕ) → 0 < j → j < length items → start ≤ parent j → parent j ≢ i → rank_at scores items j ≤ rank_at scores items (parent j)
  pub below : (j : ℕ) → 0 < j → j < length items → parent j ≡ i → 0 < i → start ≤ parent i → rank_at scores items j ≤ rank_at scores items (parent i)

-- the child is the best of those below the place, and better than the one there
pub record IsBetterChild (scores items : List ℕ) (i child : ℕ) : Type 0 where
  pub positive : 0 < child
  pub within : child < length items
  pub up : parent child ≡ i
  pub better : rank_at scores items i < rank_at scores items child
  pub best : (j : ℕ) → 0 < j → j < length items → parent j ≡ i → rank_at scores items j ≤ rank_at scores items child

-- no child is better than the one at the place
pub record NoBetterChild (scores items : List ℕ) (i : ℕ) : Type 0 where
  pub none : (j : ℕ) → 0 < j → j < length items → parent j ≡ i → rank_at scores items j ≤ rank_at scores items i

-- the list was put in another order
pub record IsReordered (old new : Placed) : Type 0 where
  pub reserved : new.reserved ≡ old.reserved
  pub count : length new.items ≡ length old.items
  pub same : (v : ℕ) → has new.items v ≡ has old.items v

-- the list belongs to the scores and is a heap
pub record IsOrder (scores : List ℕ) (placed : Placed) : Type 0 where
  pub sized : length scores ≡ placed.reserved
  pub heap : IsHeapFrom scores placed.items 0
