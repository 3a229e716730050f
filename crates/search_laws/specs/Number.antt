-- The number that is read off a trail: a ternary digit for each place, the first place the highest.
use Rattle.std.specs.Prelude.{ℕ, zero, suc, ◌+◌, ◌*◌, ◌^◌, List, [], ◌∷◌, Option, Some, None}
use Rattle.propagation.specs.declared.TrailEntry.{TrailEntry}

-- 1 for an assumed literal, 2 for one that has a reason
abbrev pub digit : Option ℕ → ℕ
digit None = 1
digit (Some r) = 2

-- with so many places; a place that no entry takes has the digit 0
unfoldable pub number : ℕ → List TrailEntry → ℕ
number zero ss = 0
number (suc v) [] = 0
number (suc v) (s ∷ ss) = digit s.reason * 3 ^ v + number v ss
