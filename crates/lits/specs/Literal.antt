-- Literals, by their codes: the variable v is 2 (v - 1), and its negation is one more. So each number is a literal
-- of some variable, and no fact on literals has a premise; `IsLiteral` is the limit on the variable.
use Rattle.std.specs.Prelude.{ℕ, ◌+◌, ◌-◌, ◌*◌, ◌/◌, ◌%◌, ◌<◌, ◌≤◌, Bool, nat_eq, if◌then◌else◌, ℤ, pos, negsuc, nat_abs}
use Rattle.lits.specs.declared.TheConstants.{MAX_VAR}

-- the greatest variable
abbrev pub max_var : ℕ
max_var = MAX_VAR

-- the variable of a literal
abbrev pub var : ℕ → ℕ
var l = l / 2 + 1

-- whether it is the variable itself
abbrev pub positive : ℕ → Bool
positive l = nat_eq (l % 2) 0

-- its negation
abbrev pub neg : ℕ → ℕ
neg l = l + 1 - 2 * (l % 2)

-- the literal that is the variable itself, for a variable from 1 on
abbrev pub of_var : ℕ → ℕ
of_var v = 2 * (v - 1)

-- the number that is written for it
abbrev pub number : ℕ → ℤ
number l = if positive l then pos (var l) else negsuc (l / 2)

-- the literal that a number other than 0 is written for
abbrev pub of_number : ℤ → ℕ
of_number (pos v) = 2 * (v - 1)
of_number (negsuc v) = 2 * v + 1

-- the variable is within the limit
abbrev pub IsLiteral : ℕ → Type 0
IsLiteral l = l < 2 * max_var

-- the number is one of a literal
abbrev pub IsNumber : ℤ → Type 0
IsNumber n = (0 < nat_abs n) × (nat_abs n ≤ max_var)
