-- How many digits a number has.
use Rattle.std.proofs.Common.{◌≡◌, ℕ, zero, suc, ◌+◌, ◌*◌, ◌/◌, ◌%◌, ◌^◌, ◌<◌, ◌≤◌, List, length, map, get_or, refl, ◌∙◌, ap, arith, length-append, ◌++◌, ◌∷◌, []}
use Rattle.std.specs.Fmt.{decimal}
use Rattle.std.specs.List.{range_with_len}
use Rattle.std.proofs.lemmas.Fmt.{decimal_digit, decimal_step}
use Rattle.std.proofs.Math.Nat.{pow-succ'}
use Rattle.std.proofs.lemmas.List.FromFn.{get_or-map-range_with_len}
use Rattle.line_writing.specs.declared.writing.digits.TheConstants.{POWERS}

pow_more : (k : ℕ) → 10 ^ suc k ≡ 10 * 10 ^ k
pow_more k = pow-succ' 10 k

pow_some : (k : ℕ) → 1 ≤ 10 ^ k
pow_some zero = omega arith
pow_some (suc k) = omega (arith, pow_more k, pow_some k)

-- between two powers of ten the number of digits is the greater one's exponent
pub length-decimal : (k n : ℕ) → (0 < k → 10 ^ k ≤ n) → n < 10 ^ (k + 1) → n < 2 ^ 64 → length (decimal n) ≡ k + 1
length-decimal zero n low high small = ap length (decimal_digit n (omega arith))
length-decimal (suc k) n low high small =
    let above : 10 ^ suc k ≤ n = low (omega arith) in
    let lower : 10 ^ suc k ≡ 10 * 10 ^ k = pow_more k in
    let upper : 10 ^ (suc k + 1) ≡ 10 * 10 ^ (k + 1) = ap (λ (e : ℕ). 10 ^ e) (omega arith) ∙ pow_more (k + 1) in
    let some : 1 ≤ 10 ^ k = pow_some k in
    let rest : length (decimal (n / 10)) ≡ k + 1 = length-decimal k (n / 10) (λ more. omega arith) (omega arith) (omega arith) in
    let step : decimal n ≡ decimal (n / 10) ++ ((48 + n % 10) ∷ []) = decimal_step n (omega arith) small in
    ap length step ∙ length-append (decimal (n / 10)) ((48 + n % 10) ∷ []) ∙ omega arith

-- the table has the powers of ten
pub powers_of_ten : (i d : ℕ) → i < 19 → get_or POWERS i d ≡ 10 ^ (i + 1)
powers_of_ten i d within =
    let table : POWERS ≡ map (λ k. 10 ^ (k + 1)) (range_with_len 0 19) = refl in
    ap (λ (t : List ℕ). get_or t i d) table ∙ get_or-map-range_with_len (λ k. 10 ^ (k + 1)) 0 19 i i d within (omega arith)
