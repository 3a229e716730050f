-- Which entries are chosen to be taken out, and the places that are still to be looked at.
use Rattle.std.specs.Prelude.{◌≡◌, ℕ, suc, ◌+◌, ◌<◌, ◌⊎◌, Bool, true, false, List, [], ◌∷◌, length, Contains, slice_index}
use Rattle.std.specs.List.{slice_index_or}
use Rattle.session_rules.specs.Logic.{has}

-- whether the place is chosen
abbrev pub is_chosen : List Bool → ℕ → Bool
is_chosen m i = slice_index_or m i false

-- how many places are not chosen
abbrev pub unchosen : List Bool → ℕ
unchosen [] = 0
unchosen (true ∷ m) = unchosen m
unchosen (false ∷ m) = suc (unchosen m)

-- the places of these variables were chosen, and those that were new are due
pub record Chosen (vars : List ℕ) (before after : List Bool) (old due asked : List ℕ) : Type 0 where
  pub size : length after ≡ length before
  pub kept : (i : ℕ) → is_chosen before i ≡ true → is_chosen after i ≡ true
  pub named : (i : ℕ) → is_chosen after i ≡ true → is_chosen before i ≡ false → has asked (slice_index vars i) ≡ true
  pub added : (i : ℕ) → is_chosen after i ≡ true → is_chosen before i ≡ false → Contains due i
  pub done : (i : ℕ) → i < length vars → has asked (slice_index vars i) ≡ true → is_chosen after i ≡ true
  pub due_kept : (i : ℕ) → Contains old i → Contains due i
  pub due_chosen : (i : ℕ) → Contains due i → Contains old i ⊎ (is_chosen after i ≡ true)
  pub sum : unchosen after + length due ≡ unchosen before + length old
