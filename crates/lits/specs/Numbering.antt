-- Numbers for variables in the order in which they come. A numbering is the list of the variables that came, each once; the
-- number of a variable is its place in the list, counted from 1. So a numbering of n variables translates their literals into
-- those of the variables 1 to n, with their signs.
use Rattle.std.specs.Prelude.{ℕ, suc, ◌+◌, ◌-◌, ◌*◌, ◌%◌, ◌<◌, ◌≤◌, Bool, nat_eq, if◌then◌else◌, List, [], ◌∷◌, ◌++◌, map, slice_index, Option, Some, None, Contains}
use Rattle.std.specs.List.{list_all, IsDistinct}
use Rattle.lits.specs.Literal.{max_var, var}
use Rattle.lits.specs.Clause.{has}

-- a variable is from 1 to the greatest
abbrev pub IsVariable : ℕ → Type 0
IsVariable v = (0 < v) × (v ≤ max_var)

-- what holds of every numbering
pub record IsNumbering (vars : List ℕ) : Type 0 where
  -- no variable stands twice
  pub once : IsDistinct nat_eq vars
  pub variables : (v : ℕ) → Contains vars v → IsVariable v

-- how many stand before a variable; where it is missing, all
unfoldable pub place : List ℕ → ℕ → ℕ
place [] v = 0
place (x ∷ xs) v = if nat_eq v x then 0 else suc (place xs v)

-- the number of a variable. One that is missing gets this number if it comes next
abbrev pub number_of : List ℕ → ℕ → ℕ
number_of vars v = place vars v + 1

-- the number of a variable, if it has one
abbrev pub find_number : List ℕ → ℕ → Option ℕ
find_number vars v = if has vars v then Some (number_of vars v) else None

-- the variable of a number
abbrev pub var_of : List ℕ → ℕ → ℕ
var_of vars n = slice_index vars (n - 1)

-- the numbering after a variable came: at the end, unless it has a number
abbrev pub with_var : List ℕ → ℕ → List ℕ
with_var vars v = if has vars v then vars else vars ++ v ∷ []

-- ---- Literals

-- whether the variable of a literal has a number
abbrev pub is_known : List ℕ → ℕ → Bool
is_known vars l = has vars (var l)

-- whether each literal's variable has a number
abbrev pub are_known : List ℕ → List ℕ → Bool
are_known vars ls = list_all (is_known vars) ls

-- a literal with its variable's number in place of the variable
abbrev pub dense_lit : List ℕ → ℕ → ℕ
dense_lit vars l = 2 * place vars (var l) + l % 2

-- a literal with its variable's number in place of the variable, if that has one
abbrev pub find_dense_lit : List ℕ → ℕ → Option ℕ
find_dense_lit vars l = if is_known vars l then Some (dense_lit vars l) else None

-- a literal over numbers with the number's variable in place of the number
abbrev pub file_lit : List ℕ → ℕ → ℕ
file_lit vars l = 2 * (var_of vars (var l) - 1) + l % 2

-- a list of literals, each with its variable's number
abbrev pub dense_lits : List ℕ → List ℕ → List ℕ
dense_lits vars ls = map (dense_lit vars) ls

-- a list of literals over numbers, each with its number's variable
abbrev pub file_lits : List ℕ → List ℕ → List ℕ
file_lits vars ls = map (file_lit vars) ls

-- the numbering after these literals came, one after another
unfoldable pub with_lits : List ℕ → List ℕ → List ℕ
with_lits vars [] = vars
with_lits vars (l ∷ ls) = with_lits (with_var vars (var l)) ls

-- a list of literals, each translated when it comes
abbrev pub numbered_lits : List ℕ → List ℕ → List ℕ
numbered_lits vars ls = dense_lits (with_lits vars ls) ls
