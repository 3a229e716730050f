-- A list of distinct variables that knows the place of each: rows with the variables, and for each variable its place
-- plus one, or 0 where it isn't in the list.
use Rattle.std.specs.Prelude.{◌≡◌, ℕ, zero, suc, ◌+◌, ◌-◌, ◌<◌, ◌≤◌, Bool, nat_eq, List, [], ◌∷◌, length, slice_index}
use Rattle.std.specs.List.{list_any}

-- the greatest variable that may be put in, and the list
pub record Placed : Type 0 where
  pub reserved : ℕ
  pub items : List ℕ

-- whether a list has the variable
abbrev pub has : List ℕ → ℕ → Bool
has xs v = list_any (λ y. nat_eq y v) xs

-- how many variables have a place
abbrev pub placed_count : List ℕ → ℕ
placed_count [] = 0
placed_count (zero ∷ ps) = placed_count ps
placed_count (suc k ∷ ps) = suc (placed_count ps)

-- the first rows and the places belong together
pub record IsPlaced (rows places : List ℕ) (count most : ℕ) : Type 0 where
  pub sized : length rows ≡ length places
  pub small : length places ≤ most
  pub counted : placed_count places ≡ count
  pub above : (i : ℕ) → i < count → 0 < slice_index rows i
  pub within : (i : ℕ) → i < count → slice_index rows i ≤ length places
  pub there : (i : ℕ) → i < count → slice_index places (slice_index rows i - 1) ≡ i + 1
  pub place : (k : ℕ) → k < length places → 0 < slice_index places k → slice_index places k ≤ count
  pub back : (k : ℕ) → k < length places → 0 < slice_index places k → slice_index rows (slice_index places k - 1) ≡ k + 1
