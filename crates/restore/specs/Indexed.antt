-- The table of the places of variables: for each variable its place in the stack plus one, or 0 where it has no entry.
use Rattle.std.specs.Prelude.{◌≡◌, ℕ, ◌+◌, ◌-◌, ◌<◌, ◌≤◌, List, length, map, slice_index}
use Rattle.restore.specs.declared.lists.Elim.{Elim}

-- the variables of the entries
abbrev pub variables_of : List Elim → List ℕ
variables_of es = map (λ (e : Elim). e.var) es

-- the table belongs to the variables of the entries
pub record IsIndexed (vars places : List ℕ) : Type 0 where
  pub there : (i : ℕ) → i < length vars → slice_index places (slice_index vars i) ≡ i + 1
  pub within : (v : ℕ) → 0 < slice_index places v → slice_index places v ≤ length vars
  pub back : (v : ℕ) → 0 < slice_index places v → slice_index vars (slice_index places v - 1) ≡ v
