-- What contracts see of numbers with room for a list: the variables in the order in which they came, and the list that was
-- translated last.
use Rattle.std.specs.Prelude.{◌≡◌, ℕ, ◌≤◌, if◌then◌else◌, List, [], ◌∷◌, length, ◌++◌, All, refl}
use Rattle.std.specs.Coded.{Coded, code_by, coded×, coded_list, coded_ℕ}
use Rattle.lits.specs.Literal.{var}
use Rattle.lits.specs.Numbering.{is_known}

pub record NumbersView : Type 0 where
  pub vars : List ℕ
  pub lits : List ℕ

-- it is stored as its parts
abbrev pub numbers_code : Coded NumbersView
numbers_code = code_by (List ℕ × List ℕ) (coded× (coded_list coded_ℕ) (coded_list coded_ℕ)) (λ n. (n.vars, n.lits)) (λ p. record { vars = p.0; lits = p.1 }) (λ _. refl)

-- the variables of the first are the first of the second
pub record Continues (vars after : List ℕ) : Type 0 where
  pub more : List ℕ
  pub is : after ≡ vars ++ more

-- each literal's variable is a number of a variable
abbrev pub AreNumbers : List ℕ → List ℕ → Type 0
AreNumbers vars ls = All (λ l. var l ≤ length vars) ls

-- the literals before the first whose variable has no number
unfoldable pub known_front : List ℕ → List ℕ → List ℕ
known_front vars [] = []
known_front vars (l ∷ ls) = let more = l ∷ known_front vars ls in if is_known vars l then more else []
