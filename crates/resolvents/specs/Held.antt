-- The clause that is held, and the marks of its literals.
use Rattle.std.specs.Prelude.{◌≡◌, ℕ, ◌*◌, ◌<◌, ◌≤◌, Bool, true, false, not, ◌&&◌, List, [], length, max, slice_index_or}
use Rattle.lits.specs.Literal.{var, neg, max_var}
use Rattle.lits.specs.Clause.{has}
use Rattle.restore.specs.Resolution.{of_variable}

-- the greatest reserved variable, and the clause
pub record Held : Type 0 where
  pub reserved : ℕ
  pub clause : List ℕ

-- nothing reserved, and the empty clause
abbrev pub empty : Held
empty = record { reserved = 0; clause = [] }

-- the same with another clause
abbrev pub holding : Held → List ℕ → Held
holding h c = record { reserved = h.reserved; clause = c }

-- the same with the variables up to this one
abbrev pub reserving : Held → ℕ → Held
reserving h vars = record { reserved = max h.reserved vars; clause = h.clause }

-- each literal is one of the variables up to this one
abbrev pub AreReserved : ℕ → List ℕ → Type 0
AreReserved vars ls = (l : ℕ) → has ls l ≡ true → var l ≤ vars

-- each literal is below an end
abbrev pub AreBelow : ℕ → List ℕ → Type 0
AreBelow end ls = (l : ℕ) → has ls l ≡ true → l < end

-- there is a mark for each literal of the variables up to the greatest, and those of the clause are set
pub record AreMarked (marks : List Bool) (clause : List ℕ) (vars : ℕ) : Type 0 where
  pub sized : length marks ≡ 2 * vars
  pub small : vars ≤ max_var
  pub set : (l : ℕ) → slice_index_or marks l false ≡ has clause l

-- whether a literal isn't of the variable, and its negation passes a test
abbrev pub clashing_by : (ℕ → Bool) → ℕ → ℕ → Bool
clashing_by test x l = not (of_variable x l) && test (neg l)

-- whether a literal isn't of the variable, and its negation has a mark
abbrev pub clashing : List Bool → ℕ → ℕ → Bool
clashing marks x l = clashing_by (λ m. slice_index_or marks m false) x l

-- whether a literal isn't of the variable and has no mark
abbrev pub unmarked : List Bool → ℕ → ℕ → Bool
unmarked marks x l = not (of_variable x l) && not (slice_index_or marks l false)

-- whether a literal has a mark
abbrev pub marked : List Bool → ℕ → Bool
marked marks l = slice_index_or marks l false
