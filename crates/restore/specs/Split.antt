-- Splitting the entries by the choice, and the table of places while it is done.
use Rattle.std.specs.Prelude.{◌≡◌, ℕ, suc, ◌+◌, ◌-◌, ◌<◌, ◌≤◌, ◌⊎◌, Bool, true, false, List, [], ◌∷◌, length, if◌then◌else◌, slice_index}
use Rattle.restore.specs.declared.lists.Elim.{Elim}

-- the entries for which the choice is this one, in their order
abbrev pub with_choice : Bool → List Bool → List Elim → List Elim
with_choice b [] es = []
with_choice b (m ∷ ms) [] = []
with_choice true (true ∷ ms) (e ∷ es) = e ∷ with_choice true ms es
with_choice true (false ∷ ms) (e ∷ es) = with_choice true ms es
with_choice false (true ∷ ms) (e ∷ es) = with_choice false ms es
with_choice false (false ∷ ms) (e ∷ es) = e ∷ with_choice false ms es

-- how many are chosen
abbrev pub chosen_count : List Bool → ℕ
chosen_count [] = 0
chosen_count (true ∷ ms) = suc (chosen_count ms)
chosen_count (false ∷ ms) = chosen_count ms

-- so many variables are left in front, and from a place on the variables have their old places
pub record IsSplit (front vars places : List ℕ) (left next : ℕ) : Type 0 where
  pub low : left ≤ next
  pub there : (i : ℕ) → i < left → slice_index places (slice_index front i) ≡ i + 1
  pub later : (j : ℕ) → next ≤ j → j < length vars → slice_index places (slice_index vars j) ≡ j + 1
  pub back : (v : ℕ) → 0 < slice_index places v
      → ((slice_index places v ≤ left) × (slice_index front (slice_index places v - 1) ≡ v))
      ⊎ ((next < slice_index places v) × (slice_index places v ≤ length vars) × (slice_index vars (slice_index places v - 1) ≡ v))
