-- The number of a numeral, gathered one digit at a time up to a cap.
use Rattle.std.proofs.Common.{◌≡◌, ℕ, ◌+◌, ◌-◌, ◌*◌, ◌<◌, ◌≤◌, true, false, nat_lt, List, length, get_or, take, min, Some, None, refl, sym, ◌∙◌, ap, subst, arith, rules, leb-true, lt-ltb, le-ltb}
use Rattle.std.specs.List.{list_all}
use Rattle.std.specs.Char.{is_ascii_digit, digit_value}
use Rattle.std.specs.Str.Parse.{digits_value}
use Rattle.std.proofs.lemmas.Str.Parse.{IsDigitsTest, IsNumeralModel, numerals_by_value}
use Rattle.std.proofs.lemmas.Int.Digits.{digits_value_more}
use Rattle.std.proofs.lemmas.List.{take_all}
use Rattle.std.proofs.lemmas.List.Folds.{list_all_more, list_all_at}
use Rattle.std.proofs.lemmas.Bool.{and_parts, and_from, and_left, and_right}
use Rattle.lits.specs.Word.{is_numeral, numeral}

digits_test : IsDigitsTest (λ ds. list_all is_ascii_digit ds ≡ true)
digits_test = search rules

pub own : IsNumeralModel (λ ds. list_all is_ascii_digit ds ≡ true) (digits_value 10)
own = numerals_by_value _ digits_test

-- a digit is between 0 and 9
pub digit_range : (c : ℕ) → is_ascii_digit c ≡ true → (48 ≤ c) × (c ≤ 57)
digit_range c h = let parts = and_parts _ _ h in (leb-true _ _ parts.0, leb-true _ _ parts.1)

pub digit_is : (c : ℕ) → 48 ≤ c → c ≤ 57 → digit_value c ≡ c - 48
digit_is c low high = let a : nat_lt c 48 ≡ false = le-ltb c 48 low in let b : nat_lt c 58 ≡ true = lt-ltb c 58 (omega arith) in rw (a, b) refl

-- one more digit, up to a cap
capped : (cap v x d : ℕ) → v ≡ min cap x → min cap (v * 10 + d) ≡ min cap (x * 10 + d)
capped cap v x d e = omega arith

pub gathered_more : (cap : ℕ) (ds : List ℕ) (i v r : ℕ) → i < length ds → list_all is_ascii_digit (take i ds) ≡ true → is_ascii_digit (get_or ds i 0) ≡ true → v ≡ min cap (digits_value 10 (take i ds)) → r ≡ min cap (v * 10 + (get_or ds i 0 - 48))
    → (list_all is_ascii_digit (take (i + 1) ds) ≡ true) × (r ≡ min cap (digits_value 10 (take (i + 1) ds)))
gathered_more cap ds i v r lt before digit e f =
    let range = digit_range (get_or ds i 0) digit in
    let more = digits_value_more 10 ds i lt in (
      list_all_more is_ascii_digit ds i 0 lt ∙ and_from _ _ before digit,
      f ∙ capped cap v (digits_value 10 (take i ds)) (get_or ds i 0 - 48) e ∙ ap (λ d. min cap (digits_value 10 (take i ds) * 10 + d)) (sym (digit_is (get_or ds i 0) range.0 range.1)) ∙ ap (min cap) (sym more),
    )

-- what the loop over the bytes finds of a numeral
pub no_numeral_first : (ds : List ℕ) → get_or ds 0 0 ≤ 48 → numeral ds ≡ None
unfolding numeral
no_numeral_first ds h = let q : is_numeral ds ≡ false = and_left _ _ (le-ltb 48 (get_or ds 0 0) h) in rw q refl

pub no_numeral_at : (ds : List ℕ) (i : ℕ) → i < length ds → is_ascii_digit (get_or ds i 0) ≡ false → numeral ds ≡ None
unfolding numeral
no_numeral_at ds i lt h = let q : is_numeral ds ≡ false = and_right _ _ (list_all_at is_ascii_digit ds i 0 lt h) in rw q refl

pub numeral_is : (ds : List ℕ) (i : ℕ) → 48 < get_or ds 0 0 → length ds ≤ i → list_all is_ascii_digit (take i ds) ≡ true → numeral ds ≡ Some (digits_value 10 (take i ds))
unfolding numeral
numeral_is ds i first le all =
    let whole = take_all i ds le in
    let q : is_numeral ds ≡ true = and_from _ _ (lt-ltb 48 (get_or ds 0 0) first) (subst (λ xs. list_all is_ascii_digit xs ≡ true) whole all) in
    rw q (ap (λ xs. Some (digits_value 10 xs)) (sym whole))
