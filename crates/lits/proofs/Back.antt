-- What is read as a literal or an id is its word.
use Rattle.std.proofs.Common.{◌≡◌, ℕ, zero, suc, ◌%◌, ◌^◌, ◌<◌, ◌≤◌, true, false, nat_lt, nat_le, List, [], ◌∷◌, length, get_or, drop, decimal, Option, Some, None, refl, sym, ◌∙◌, ap, subst, inl, inr, arith, eqb-true, eq-eqb, ltb-true, leb-true, ne_eqb}
use Rattle.std.specs.List.{list_all}
use Rattle.std.specs.Char.{is_ascii_digit}
use Rattle.std.specs.Str.Parse.{digits_value}
use Rattle.std.proofs.lemmas.Fmt.{decimal-digits_value, decimal_digit}
use Rattle.std.proofs.lemmas.Bool.{and_parts, cases_Bool}
use Rattle.lits.specs.declared.LitWord.TheVariants as words
use Rattle.lits.specs.Literal.{max_var, neg, of_var, var, positive, IsLiteral}
use Rattle.lits.specs.Word.{literal_word, literal_text, is_numeral, is_zero, is_short, numeral, magnitude, literal_of, signed, without_minus, starts_with_minus}
use Rattle.lits.proofs.Digits.{own}

-- a list whose first element isn't 0 isn't empty
some_first : (ds : List ℕ) → 48 < get_or ds 0 0 → 0 < length ds
some_first [] h = absurd (omega arith)
some_first (d ∷ ds) h = omega arith

-- the digits are those of the number, which isn't 0
pub numeral_back : (ds : List ℕ) (v : ℕ) → numeral ds ≡ Some v → v < 2 ^ 64 → (decimal v ≡ ds) × (0 < v)
unfolding numeral
numeral_back ds v e small = elim (cases_Bool (is_numeral ds)) [
  | inl q ↦ let f : Some (digits_value 10 ds) ≡ Some v = rw q at e in let value : digits_value 10 ds ≡ v = cc f in
      let parts = and_parts (nat_lt 48 (get_or ds 0 0)) (list_all is_ascii_digit ds) q in
      let first : 48 < get_or ds 0 0 = ltb-true _ _ parts.0 in
      let text : decimal (digits_value 10 ds) ≡ ds = decimal-digits_value own ds parts.1 (some_first ds first) (λ z. absurd (omega arith)) (subst (λ n. n < 2 ^ 64) (sym value) small) in
      let back : decimal v ≡ ds = subst (λ n. decimal n ≡ ds) value text in
      (back, positive_value ds v first back)
  | inr q ↦ let f : None ≡ Some v = rw q at e in cc f
]
  where
    positive_value : (ds : List ℕ) (v : ℕ) → 48 < get_or ds 0 0 → decimal v ≡ ds → 0 < v
    positive_value ds zero first back = let zero_text : 48 ∷ [] ≡ ds = sym (decimal_digit 0 (omega arith)) ∙ back in absurd (omega (arith, ap (λ xs. get_or xs 0 0) zero_text, first))
    positive_value ds (suc v) first back = omega arith

minus_word : (w : List ℕ) → starts_with_minus w ≡ true → w ≡ 45 ∷ drop 1 w
minus_word [] e = cc
minus_word (b ∷ bs) e = ap (λ x. x ∷ bs) (eqb-true b 45 e)

text_of_var : (v : ℕ) → 0 < v → literal_text (of_var v) ≡ decimal v
text_of_var v pos = let even : of_var v % 2 ≡ 0 = omega arith in let same : var (of_var v) ≡ v = omega arith in
    let is : positive (of_var v) ≡ true = eq-eqb _ _ even in rw is (ap decimal same)

text_of_neg : (v : ℕ) → 0 < v → literal_text (neg (of_var v)) ≡ 45 ∷ decimal v
text_of_neg v pos = let odd : neg (of_var v) % 2 ≡ 1 = omega arith in let same : var (neg (of_var v)) ≡ v = omega arith in
    let is : positive (neg (of_var v)) ≡ false = ne_eqb _ _ (λ z. omega arith) in rw is (ap (λ n. 45 ∷ decimal n) same)

module _ (w : List ℕ) (l v : ℕ) where
  -- by the sign
  by_sign : v ≤ max_var → numeral (without_minus w) ≡ Some v → signed (starts_with_minus w) v ≡ l → IsLiteral l × (w ≡ literal_text l)
  by_sign small e s = let back = numeral_back (without_minus w) v e (omega arith) in elim (cases_Bool (starts_with_minus w)) [
    | inl q ↦ let is : neg (of_var v) ≡ l = rw q at s in let digits : decimal v ≡ drop 1 w = rw q at back.0 in
        (omega (arith, back.1), minus_word w q ∙ sym (ap (λ xs. 45 ∷ xs) digits) ∙ sym (text_of_neg v back.1) ∙ ap literal_text is)
    | inr q ↦ let is : of_var v ≡ l = rw q at s in let digits : decimal v ≡ w = rw q at back.0 in
        (omega (arith, back.1), sym digits ∙ sym (text_of_var v back.1) ∙ ap literal_text is)
  ]

literal_by_size : (w : List ℕ) (l : ℕ) (o : Option ℕ) → magnitude w ≡ o → literal_of (starts_with_minus w) o ≡ words.Value l → IsLiteral l × (w ≡ literal_text l)
unfolding magnitude
literal_by_size w l None m e = cc e
literal_by_size w l (Some v) m e = elim (cases_Bool (nat_le v max_var)) [
  | inl q ↦ let f : words.Value (signed (starts_with_minus w) v) ≡ words.Value l = rw q at e in
      elim (cases_Bool (is_short w)) [
        | inl s ↦ let g : numeral (without_minus w) ≡ Some v = rw s at m in by_sign w l v (leb-true _ _ q) g (cc f)
        | inr s ↦ let g : None ≡ Some v = rw s at m in cc g
      ]
  | inr q ↦ let f : words.OutOfRange ≡ words.Value l = rw q at e in cc f
]

-- a word that is read as a literal is the word of this literal
pub literal_text-literal_word : (w : List ℕ) (l : ℕ) → literal_word w ≡ words.Value l → IsLiteral l × (w ≡ literal_text l)
unfolding literal_word
literal_text-literal_word w l e = elim (cases_Bool (is_zero w)) [
  | inl q ↦ let f : words.Zero ≡ words.Value l = rw q at e in cc f
  | inr q ↦ let f : literal_of (starts_with_minus w) (magnitude w) ≡ words.Value l = rw q at e in literal_by_size w l (magnitude w) refl f
]
