-- Laws of negation, variable and sign, over codes.
use Rattle.std.proofs.Common.{◌≡◌, ◌≢◌, ℕ, arith}
use Rattle.lits.specs.Literal.{var, neg, IsLiteral}

pub neg-neg : (l : ℕ) → neg (neg l) ≡ l
neg-neg l = omega arith

pub var-neg : (l : ℕ) → var (neg l) ≡ var l
var-neg l = omega arith

pub neg-ne : (l : ℕ) → l ≢ neg l
neg-ne l = omega arith

pub IsLiteral-neg : (l : ℕ) → IsLiteral l → IsLiteral (neg l)
IsLiteral-neg l h = omega arith

-- two literals of one variable are the same or opposite
pub same_var : (l m : ℕ) → var l ≡ var m → l ≢ m → l ≡ neg m
same_var l m e d = omega arith

pub neg_swap : (l m : ℕ) → l ≡ neg m → neg l ≡ m
neg_swap l m e = omega arith
