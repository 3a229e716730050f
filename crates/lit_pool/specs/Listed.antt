-- Entries with their numbers, from a list in which some places have none.
use Rattle.std.specs.Prelude.{ℕ, suc, List, [], ◌∷◌, ◌++◌, Option, Some, None}
use Rattle.lit_pool.specs.Entry.{Entry}

-- the entry of a place that has one, with its number
abbrev pub entry_if : ℕ → Option Entry → List (ℕ × Entry)
entry_if k None = []
entry_if k (Some e) = (k, e) ∷ []

-- the entries with their numbers, which begin at k
abbrev pub listed : ℕ → List (Option Entry) → List (ℕ × Entry)
listed k [] = []
listed k (e ∷ es) = entry_if k e ++ listed (suc k) es
