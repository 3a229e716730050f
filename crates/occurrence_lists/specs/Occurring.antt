-- The lists of ids by literal, and the clauses for which they stand.
use Rattle.std.specs.Prelude.{◌≡◌, ℕ, ◌+◌, ◌-◌, ◌<◌, Bool, true, false, ◌&&◌, nat_eq, if◌then◌else◌, List, [], ◌∷◌, ◌++◌, length, map, filter, replicate, count_by, slice_index_or, Contains}
use Rattle.lits.specs.Clause.{has}

-- the list of a literal
abbrev pub row : List (List ℕ) → ℕ → List ℕ
row rows l = slice_index_or rows l []

-- how often an id stands in a list
unfoldable pub times : ℕ → List ℕ → ℕ
times q ids = count_by (nat_eq q) ids

abbrev pub one_if : Bool → ℕ
one_if true = 1
one_if false = 0

-- so many lists, where there are fewer, with empty ones at the end
abbrev pub with_rows : List (List ℕ) → ℕ → List (List ℕ)
with_rows rows n = rows ++ replicate (n - length rows) []

-- each literal has a list
abbrev pub AreListed : List (List ℕ) → List ℕ → Type 0
AreListed rows ls = (l : ℕ) → has ls l ≡ true → l < length rows

-- the id stands at the end of the list of each literal of the clause, and nothing else has changed
pub record IsAdded (old : List (List ℕ)) (id : ℕ) (c : List ℕ) (new : List (List ℕ)) : Type 0 where
  pub sized : length new ≡ length old
  pub rows : (l : ℕ) → row new l ≡ (if has c l then row old l ++ id ∷ [] else row old l)

-- the id stands in the list of each literal of the clause once less, and each other one as often
pub record IsRemoved (old : List (List ℕ)) (id : ℕ) (c : List ℕ) (new : List (List ℕ)) : Type 0 where
  pub sized : length new ≡ length old
  pub rows : (l q : ℕ) → times q (row old l) ≡ times q (row new l) + one_if (has c l && nat_eq q id)

-- each list has the ids that it had, each as often
pub record IsSame (old new : List (List ℕ)) : Type 0 where
  pub sized : length new ≡ length old
  pub rows : (l q : ℕ) → times q (row old l) ≡ times q (row new l)

-- ---- Clauses

-- a clause with its id
abbrev pub Numbered : Type 0
Numbered = ℕ × List ℕ

-- the ids of the clauses that hold a literal
abbrev pub ids_with : ℕ → List Numbered → List ℕ
ids_with l cs = map (λ (c : Numbered). c.0) (filter (λ (c : Numbered). has c.1 l) cs)

-- each literal of the clauses has a list, and the list of each literal has the ids of the clauses that hold it, each as often
pub record StandsFor (rows : List (List ℕ)) (cs : List Numbered) : Type 0 where
  pub reserved : (c : Numbered) → Contains cs c → AreListed rows c.1
  pub listed : (l q : ℕ) → times q (row rows l) ≡ times q (ids_with l cs)
