-- Marks of variables, and what they say of literals.
use Rattle.std.specs.Prelude.{◌≡◌, ◌≢◌, ℕ, ◌/◌, Bool, true, false, List, Contains, get_or, length, filter}
use Rattle.conflict_analysis.specs.declared.marks.Mark.{Mark}
use Rattle.conflict_analysis.specs.declared.marks.Mark.TheVariants as mark

-- the mark of a literal's variable
abbrev pub mark_at : List Mark → ℕ → Mark
mark_at ms l = get_or ms (l / 2) mark.Clear

-- whether its step is yet to be visited
abbrev pub is_pending : Mark → Bool
is_pending (mark.Clear) = false
is_pending (mark.Kept) = true
is_pending (mark.Needed) = true
is_pending (mark.Redundant) = false
is_pending (mark.Failed) = false

abbrev pub pending : List Mark → ℕ → Bool
pending ms l = is_pending (mark_at ms l)

-- nothing is marked
abbrev pub IsClear : List Mark → Type 0
IsClear ms = (i : ℕ) → get_or ms i mark.Clear ≡ mark.Clear

-- each marked variable is that of one of these literals
abbrev pub AreNoted : List Mark → List ℕ → Type 0
AreNoted ms ls = (i : ℕ) → get_or ms i mark.Clear ≢ mark.Clear → (l : ℕ) × Contains ls l × (l / 2 ≡ i)

abbrev pub one_if : Bool → ℕ
one_if true = 1
one_if false = 0

-- how many are pending
abbrev pub how_many_pending : List Mark → ℕ
how_many_pending ms = length (filter is_pending ms)

-- what holds inside all marks
pub record AreMarks (ms : List Mark) (noted : List ℕ) (count : ℕ) : Type 0 where
  pub noted_are : AreNoted ms noted
  pub count_is : count ≡ how_many_pending ms
