-- The word of a literal is read as the literal, and that of an id as the id.
use Rattle.std.proofs.Common.{◌≡◌, ℕ, suc, ◌+◌, ◌-◌, ◌*◌, ◌%◌, ◌^◌, ◌<◌, ◌≤◌, true, false, ◌&&◌, nat_eq, nat_lt, nat_le, List, [], ◌∷◌, length, get_or, decimal, inl, inr, refl, ◌∙◌, ap, arith, ne_eqb, eqb-true, lt-ltb, le-leb}
use Rattle.std.specs.List.{list_all}
use Rattle.std.specs.Char.{is_ascii_digit}
use Rattle.lits.specs.Word.{magnitude, numeral}
use Rattle.std.specs.Str.Parse.{digits_value}
use Rattle.std.proofs.Common.{rules}
use Rattle.std.proofs.lemmas.Str.Parse.{IsNumeralModel, numerals_by_fold}
use Rattle.std.proofs.lemmas.Fmt.{decimal_is_IsNumeral, digits_decimal, length-decimal-le, first_decimal, decimal_nonempty}
use Rattle.std.proofs.lemmas.Bool.{and_from, cases_Bool, eqb-false}
use Rattle.lits.specs.declared.LitWord.TheVariants as words
use Rattle.lits.specs.declared.IdWord.TheVariants as ids
use Rattle.lits.specs.Literal.{max_var, neg, of_var, var, positive, IsLiteral}
use Rattle.lits.specs.Word.{literal_word, id_word, literal_text}

-- the value of digits, as a fold
abbrev read_on : ℕ → List ℕ → ℕ
read_on n [] = n
read_on n (c ∷ cs) = read_on (10 * n + (c - 48)) cs

own : IsNumeralModel (λ ds. list_all is_ascii_digit ds ≡ true) (read_on 0)
own = numerals_by_fold _ (search rules) read_on (search rules)

-- a numeral: its first byte isn't 0, all are digits, and it is short
pub record IsWord (ds : List ℕ) (n : ℕ) : Type 0 where
  pub nonempty : 0 < length ds
  pub first : 48 < get_or ds 0 0
  pub digits : list_all is_ascii_digit ds ≡ true
  pub short : length ds ≤ 31
  pub value : digits_value 10 ds ≡ n

pub IsWord-decimal : (n : ℕ) → 0 < n → n < 2 ^ 63 → IsWord (decimal n) n
IsWord-decimal n pos small = let fits : n < 2 ^ 64 = omega arith in record {
  nonempty = decimal_nonempty n fits;
  first = first_decimal n pos fits;
  digits = digits_decimal own n fits;
  short = omega (arith, length-decimal-le 20 n (omega arith) (omega arith) fits);
  value = (decimal_is_IsNumeral n fits).1;
}

-- what is read of a word that is a numeral
positive_word : (ds : List ℕ) (n : ℕ) → IsWord ds n → n ≤ max_var → literal_word ds ≡ words.Value (of_var n)
unfolding literal_word magnitude numeral
positive_word [] n w small = absurd (omega (arith, w.nonempty))
positive_word (d ∷ ds) n w small =
    let big : nat_lt 48 d ≡ true = lt-ltb 48 d w.first in
    let not_zero : nat_eq d 48 ≡ false = ne_eqb d 48 (λ e. omega (arith, w.first)) in
    let not_minus : nat_eq d 45 ≡ false = ne_eqb d 45 (λ e. omega (arith, w.first)) in
    let short : nat_le (suc (length ds)) 32 ≡ true = le-leb _ _ (omega (arith, w.short)) in
    let numeral : (nat_lt 48 d && list_all is_ascii_digit (d ∷ ds)) ≡ true = and_from _ _ big w.digits in
    let within : nat_le n max_var ≡ true = le-leb _ _ small in
    rw (not_zero, not_minus, short, numeral, w.value, within) refl

negative_word : (ds : List ℕ) (n : ℕ) → IsWord ds n → n ≤ max_var → literal_word (45 ∷ ds) ≡ words.Value (neg (of_var n))
unfolding literal_word magnitude numeral
negative_word [] n w small = absurd (omega (arith, w.nonempty))
negative_word (d ∷ ds) n w small =
    let big : nat_lt 48 d ≡ true = lt-ltb 48 d w.first in
    let short : nat_le (suc (suc (length ds))) 32 ≡ true = le-leb _ _ (omega (arith, w.short)) in
    let numeral : (nat_lt 48 d && list_all is_ascii_digit (d ∷ ds)) ≡ true = and_from _ _ big w.digits in
    let within : nat_le n max_var ≡ true = le-leb _ _ small in
    rw (short, numeral, w.value, within) refl

-- the word of a literal is read as this literal
pub literal_word-literal_text : (l : ℕ) → IsLiteral l → literal_word (literal_text l) ≡ words.Value l
literal_word-literal_text l small = elim (cases_Bool (positive l)) [
  | inl q ↦ let even : l % 2 ≡ 0 = eqb-true _ _ q in let same : of_var (var l) ≡ l = omega arith in
      rw q (positive_word (decimal (var l)) (var l) (IsWord-decimal (var l) (omega arith) (omega arith)) (omega arith) ∙ ap words.Value same)
  | inr q ↦ let odd : (l % 2 ≡ 0) → ⊥ = eqb-false _ _ q in let same : neg (of_var (var l)) ≡ l = omega arith in
      rw q (negative_word (decimal (var l)) (var l) (IsWord-decimal (var l) (omega arith) (omega arith)) (omega arith) ∙ ap words.Value same)
]

pub id_numeral : (ds : List ℕ) (n : ℕ) → IsWord ds n → n < 2 ^ 63 → id_word ds ≡ ids.Value n
unfolding id_word numeral
id_numeral [] n w small = absurd (omega (arith, w.nonempty))
id_numeral (d ∷ ds) n w small =
    let big : nat_lt 48 d ≡ true = lt-ltb 48 d w.first in
    let not_zero : nat_eq d 48 ≡ false = ne_eqb d 48 (λ e. omega (arith, w.first)) in
    let short : nat_le (suc (length ds)) 32 ≡ true = le-leb _ _ (omega (arith, w.short)) in
    let numeral : (nat_lt 48 d && list_all is_ascii_digit (d ∷ ds)) ≡ true = and_from _ _ big w.digits in
    let within : nat_lt n (2 ^ 63) ≡ true = lt-ltb _ _ small in
    rw (not_zero, short, numeral, w.value, within) refl

-- the word of an id is read as this id
pub id_word-decimal : (n : ℕ) → 0 < n → n < 2 ^ 63 → id_word (decimal n) ≡ ids.Value n
id_word-decimal n pos small = id_numeral (decimal n) n (IsWord-decimal n pos small) small
