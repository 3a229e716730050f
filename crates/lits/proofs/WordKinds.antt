-- Which words are 0, beyond the limit or no number, and that a word read as an id is the id's.
use Rattle.std.proofs.Common.{◌≡◌, ◌≢◌, ℕ, ◌^◌, ◌<◌, ◌≤◌, Bool, true, false, nat_lt, nat_le, if◌then◌else◌, List, [], ◌∷◌, All, length, codes, decimal, Option, Some, None, refl, sym, ◌∙◌, ap, subst, inl, inr, arith, leb-true, ltb-true, lt-ltb, le-ltb, le-leb, eqb-true}
use Rattle.std.specs.List.{list_all}
use Rattle.std.specs.Char.{is_ascii_digit}
use Rattle.std.specs.Str.Parse.{digits_value, starts_with_minus}
use Rattle.std.proofs.lemmas.Bool.{and_parts, and_from, cases_Bool, leb-false, ltb-false, lt-leb, both_ways, false_from_ne_true}
use Rattle.std.proofs.lemmas.List.Elements.{All-nil, All-cons, All-head, All-tail}
use Rattle.lits.specs.declared.LitWord.TheVariants as words
use Rattle.lits.specs.declared.IdWord.TheVariants as ids
use Rattle.lits.specs.Literal.{max_var}
use Rattle.lits.specs.Word.{literal_word, id_word, IsNumeral, is_numeral, is_zero, is_short, numeral, magnitude, literal_of, id_of, without_minus}
use Rattle.lits.proofs.Digits.{digit_range}
use Rattle.lits.proofs.Back.{numeral_back}

-- ---- The tests and what they say

abbrev IsDigit : ℕ → Type 0
IsDigit b = (48 ≤ b) × (b ≤ 57)

digits_at : (ds : List ℕ) → list_all is_ascii_digit ds ≡ true → All IsDigit ds
digits_at [] h = All-nil IsDigit
digits_at (d ∷ ds) h = let parts = and_parts _ _ h in All-cons IsDigit d ds (digit_range d parts.0) (digits_at ds parts.1)

digit_from : (d : ℕ) → IsDigit d → is_ascii_digit d ≡ true
digit_from d h = and_from _ _ (le-leb 48 d h.0) (le-leb d 57 h.1)

digits_from : (ds : List ℕ) → All IsDigit ds → list_all is_ascii_digit ds ≡ true
digits_from [] h = refl
digits_from (d ∷ ds) h = and_from _ _ (digit_from d (All-head IsDigit d ds h)) (digits_from ds (All-tail IsDigit d ds h))

numeral_test_at : (ds : List ℕ) → is_numeral ds ≡ true → IsNumeral ds
numeral_test_at [] h = cc
numeral_test_at (d ∷ ds) h =
    let parts = and_parts (nat_lt 48 d) (list_all is_ascii_digit (d ∷ ds)) h in
    let digits = and_parts _ _ parts.1 in
    (ltb-true 48 d parts.0, (digit_range d digits.0).1, digits_at ds digits.1)

numeral_test_from : (ds : List ℕ) → IsNumeral ds → is_numeral ds ≡ true
numeral_test_from [] h = absurd h
numeral_test_from (d ∷ ds) h = and_from _ _ (lt-ltb 48 d (omega (arith, h.0))) (and_from _ _ (digit_from d (omega (arith, h.0), h.1)) (digits_from ds h.2))

-- the number of a short word whose digits are these
abbrev short_numeral : List ℕ → List ℕ → Option ℕ
short_numeral w ds = if is_short w then numeral ds else None

short_at : (w ds : List ℕ) (v : ℕ) → short_numeral w ds ≡ Some v → (length w ≤ 32) × (numeral ds ≡ Some v)
short_at w ds v e = elim (cases_Bool (is_short w)) [
  | inl q ↦ let f : numeral ds ≡ Some v = rw q at e in (leb-true _ _ q, f)
  | inr q ↦ let f : None ≡ Some v = rw q at e in cc f
]

numeral_at : (ds : List ℕ) (v : ℕ) → numeral ds ≡ Some v → IsNumeral ds × (digits_value 10 ds ≡ v)
unfolding numeral
numeral_at ds v e = elim (cases_Bool (is_numeral ds)) [
  | inl q ↦ let f : Some (digits_value 10 ds) ≡ Some v = rw q at e in (numeral_test_at ds q, cc f)
  | inr q ↦ let f : None ≡ Some v = rw q at e in cc f
]

short_from : (w ds : List ℕ) → length w ≤ 32 → IsNumeral ds → short_numeral w ds ≡ Some (digits_value 10 ds)
unfolding numeral
short_from w ds short h = let a : is_short w ≡ true = le-leb _ _ short in let b = numeral_test_from ds h in rw (a, b) refl

none_at : (w ds : List ℕ) → short_numeral w ds ≡ None → IsNumeral ds → 32 < length w
none_at w ds e h = elim (cases_Bool (is_short w)) [
  | inl q ↦ let f : None ≡ Some (digits_value 10 ds) = sym e ∙ short_from w ds (leb-true _ _ q) h in cc f
  | inr q ↦ leb-false _ _ q
]

none_from : (w ds : List ℕ) → (IsNumeral ds → 32 < length w) → short_numeral w ds ≡ None
unfolding numeral
none_from w ds h = elim (cases_Bool (is_short w)) [
  | inl q ↦ let long : is_numeral ds ≡ false = false_from_ne_true _ (λ e. absurd (omega (arith, leb-true _ _ q, h (numeral_test_at ds e)))) in rw (q, long) refl
  | inr q ↦ rw q refl
]

-- ---- The word 0

zero_at : (w : List ℕ) → is_zero w ≡ true → w ≡ codes "0"
zero_at [] e = cc
zero_at (d ∷ ds) e = let parts = and_parts _ _ e in one_byte d ds (eqb-true _ _ parts.0) (eqb-true _ _ parts.1)
  where
    one_byte : (d : ℕ) (ds : List ℕ) → d ≡ 48 → length (d ∷ ds) ≡ 1 → (d ∷ ds) ≡ codes "0"
    one_byte d [] e f = ap (λ x. x ∷ []) e
    one_byte d (b ∷ bs) e f = absurd (omega arith)

zero_from : (w : List ℕ) → w ≡ codes "0" → is_zero w ≡ true
zero_from w e = subst (λ x. is_zero x ≡ true) (sym e) refl

not_zero : (w : List ℕ) → (w ≢ codes "0") → is_zero w ≡ false
not_zero w h = false_from_ne_true _ (λ e. h (zero_at w e))

-- a numeral isn't 0, behind a minus or not
numeral_not_zero : (w : List ℕ) → IsNumeral w → w ≢ codes "0"
numeral_not_zero w h e = let zero : IsNumeral (codes "0") = subst IsNumeral e h in omega (arith, zero.0)

signed_not_zero : (w : List ℕ) → IsNumeral (without_minus w) → w ≢ codes "0"
signed_not_zero w h e = let zero : IsNumeral (codes "0") = subst (λ x. IsNumeral (without_minus x)) e h in omega (arith, zero.0)

-- ---- Literals

nonzero_literal : (w : List ℕ) → is_zero w ≡ false → literal_word w ≡ literal_of (starts_with_minus w) (short_numeral w (without_minus w))
unfolding literal_word magnitude
nonzero_literal w q = rw q refl

zero_literal : (w : List ℕ) → is_zero w ≡ true → literal_word w ≡ words.Zero
unfolding literal_word
zero_literal w q = rw q refl

literal_isnt_zero : (m : Bool) (o : Option ℕ) → literal_of m o ≡ words.Zero → ⊥
literal_isnt_zero m None e = cc
literal_isnt_zero m (Some v) e = elim (cases_Bool (nat_le v max_var)) [ inl q ↦ let f = rw q at e in cc f | inr q ↦ let f = rw q at e in cc f ]

literal_beyond_at : (m : Bool) (o : Option ℕ) → literal_of m o ≡ words.OutOfRange → (v : ℕ) × (o ≡ Some v) × (max_var < v)
literal_beyond_at m None e = cc
literal_beyond_at m (Some v) e = elim (cases_Bool (nat_le v max_var)) [ inl q ↦ let f = rw q at e in cc f | inr q ↦ (v, refl, leb-false v max_var q) ]

literal_none_at : (m : Bool) (o : Option ℕ) → literal_of m o ≡ words.NotNumber → o ≡ None
literal_none_at m None e = refl
literal_none_at m (Some v) e = elim (cases_Bool (nat_le v max_var)) [ inl q ↦ let f = rw q at e in cc f | inr q ↦ let f = rw q at e in cc f ]

-- a word that isn't read as 0 isn't 0
literal_past_zero : (w : List ℕ) → (literal_word w ≢ words.Zero) → is_zero w ≡ false
literal_past_zero w h = false_from_ne_true _ (λ e. h (zero_literal w e))

pub literal_zero_at : (w : List ℕ) → literal_word w ≡ words.Zero → w ≡ codes "0"
literal_zero_at w e = elim (cases_Bool (is_zero w)) [
  | inl q ↦ zero_at w q
  | inr q ↦ absurd (literal_isnt_zero (starts_with_minus w) (short_numeral w (without_minus w)) (sym (nonzero_literal w q) ∙ e))
]

pub literal_zero_from : (w : List ℕ) → w ≡ codes "0" → literal_word w ≡ words.Zero
literal_zero_from w e = zero_literal w (zero_from w e)

pub literal_beyond : (w : List ℕ) → literal_word w ≡ words.OutOfRange → IsNumeral (without_minus w) × (length w ≤ 32) × (max_var < digits_value 10 (without_minus w))
literal_beyond w e =
    let past = literal_past_zero w (λ z. let f : words.Zero ≡ words.OutOfRange = sym z ∙ e in cc f) in
    let r = literal_beyond_at (starts_with_minus w) (short_numeral w (without_minus w)) (sym (nonzero_literal w past) ∙ e) in
    let s = short_at w (without_minus w) r.0 r.1 in
    let n = numeral_at (without_minus w) r.0 s.1 in
    (n.0, s.0, subst (λ x. max_var < x) (sym n.1) r.2)

pub literal_beyond_from : (w : List ℕ) → IsNumeral (without_minus w) × (length w ≤ 32) × (max_var < digits_value 10 (without_minus w)) → literal_word w ≡ words.OutOfRange
literal_beyond_from w h =
    let q : nat_le (digits_value 10 (without_minus w)) max_var ≡ false = lt-leb _ _ h.2 in
    nonzero_literal w (not_zero w (signed_not_zero w h.0)) ∙ ap (literal_of (starts_with_minus w)) (short_from w (without_minus w) h.1 h.0) ∙ rw q refl

pub literal_none : (w : List ℕ) → literal_word w ≡ words.NotNumber → (w ≢ codes "0") × (IsNumeral (without_minus w) → 32 < length w)
literal_none w e =
    let past = literal_past_zero w (λ z. let f : words.Zero ≡ words.NotNumber = sym z ∙ e in cc f) in
    let none = literal_none_at (starts_with_minus w) (short_numeral w (without_minus w)) (sym (nonzero_literal w past) ∙ e) in
    (λ z. both_ways _ past (zero_from w z), none_at w (without_minus w) none)

pub literal_none_from : (w : List ℕ) → (w ≢ codes "0") × (IsNumeral (without_minus w) → 32 < length w) → literal_word w ≡ words.NotNumber
literal_none_from w h = nonzero_literal w (not_zero w h.0) ∙ ap (literal_of (starts_with_minus w)) (none_from w (without_minus w) h.1)

-- ---- Ids

nonzero_id : (w : List ℕ) → is_zero w ≡ false → id_word w ≡ id_of (short_numeral w w)
unfolding id_word
nonzero_id w q = rw q refl

zero_id : (w : List ℕ) → is_zero w ≡ true → id_word w ≡ ids.Zero
unfolding id_word
zero_id w q = rw q refl

id_isnt_zero : (o : Option ℕ) → id_of o ≡ ids.Zero → ⊥
id_isnt_zero None e = cc
id_isnt_zero (Some v) e = elim (cases_Bool (nat_lt v (2 ^ 63))) [ inl q ↦ let f = rw q at e in cc f | inr q ↦ let f = rw q at e in cc f ]

id_value_at : (o : Option ℕ) (n : ℕ) → id_of o ≡ ids.Value n → (o ≡ Some n) × (n < 2 ^ 63)
id_value_at None n e = cc e
id_value_at (Some v) n e = elim (cases_Bool (nat_lt v (2 ^ 63))) [
  | inl q ↦ let f : ids.Value v ≡ ids.Value n = rw q at e in let g : v ≡ n = cc f in (ap Some g, subst (λ x. x < 2 ^ 63) g (ltb-true v (2 ^ 63) q))
  | inr q ↦ let f = rw q at e in cc f
]

id_beyond_at : (o : Option ℕ) → id_of o ≡ ids.OutOfRange → (v : ℕ) × (o ≡ Some v) × (2 ^ 63 ≤ v)
id_beyond_at None e = cc
id_beyond_at (Some v) e = elim (cases_Bool (nat_lt v (2 ^ 63))) [ inl q ↦ let f = rw q at e in cc f | inr q ↦ (v, refl, ltb-false v (2 ^ 63) q) ]

id_none_at : (o : Option ℕ) → id_of o ≡ ids.NotNumber → o ≡ None
id_none_at None e = refl
id_none_at (Some v) e = elim (cases_Bool (nat_lt v (2 ^ 63))) [ inl q ↦ let f = rw q at e in cc f | inr q ↦ let f = rw q at e in cc f ]

id_past_zero : (w : List ℕ) → (id_word w ≢ ids.Zero) → is_zero w ≡ false
id_past_zero w h = false_from_ne_true _ (λ e. h (zero_id w e))

pub id_zero_at : (w : List ℕ) → id_word w ≡ ids.Zero → w ≡ codes "0"
id_zero_at w e = elim (cases_Bool (is_zero w)) [
  | inl q ↦ zero_at w q
  | inr q ↦ absurd (id_isnt_zero (short_numeral w w) (sym (nonzero_id w q) ∙ e))
]

pub id_zero_from : (w : List ℕ) → w ≡ codes "0" → id_word w ≡ ids.Zero
id_zero_from w e = zero_id w (zero_from w e)

-- a word that is read as an id is the word of this id
pub decimal-id_word : (w : List ℕ) (n : ℕ) → id_word w ≡ ids.Value n → (0 < n) × (n < 2 ^ 63) × (w ≡ decimal n)
decimal-id_word w n e =
    let past = id_past_zero w (λ z. let f : ids.Zero ≡ ids.Value n = sym z ∙ e in cc f) in
    let r = id_value_at (short_numeral w w) n (sym (nonzero_id w past) ∙ e) in
    let s = short_at w w n r.0 in
    let back = numeral_back w n s.1 (omega (arith, r.1)) in
    (back.1, r.1, sym back.0)

pub id_beyond : (w : List ℕ) → id_word w ≡ ids.OutOfRange → IsNumeral w × (length w ≤ 32) × (2 ^ 63 ≤ digits_value 10 w)
id_beyond w e =
    let past = id_past_zero w (λ z. let f : ids.Zero ≡ ids.OutOfRange = sym z ∙ e in cc f) in
    let r = id_beyond_at (short_numeral w w) (sym (nonzero_id w past) ∙ e) in
    let s = short_at w w r.0 r.1 in
    let n = numeral_at w r.0 s.1 in
    (n.0, s.0, subst (λ x. 2 ^ 63 ≤ x) (sym n.1) r.2)

pub id_beyond_from : (w : List ℕ) → IsNumeral w × (length w ≤ 32) × (2 ^ 63 ≤ digits_value 10 w) → id_word w ≡ ids.OutOfRange
id_beyond_from w h =
    let q : nat_lt (digits_value 10 w) (2 ^ 63) ≡ false = le-ltb _ _ h.2 in
    nonzero_id w (not_zero w (numeral_not_zero w h.0)) ∙ ap id_of (short_from w w h.1 h.0) ∙ rw q refl

pub id_none : (w : List ℕ) → id_word w ≡ ids.NotNumber → (w ≢ codes "0") × (IsNumeral w → 32 < length w)
id_none w e =
    let past = id_past_zero w (λ z. let f : ids.Zero ≡ ids.NotNumber = sym z ∙ e in cc f) in
    let none = id_none_at (short_numeral w w) (sym (nonzero_id w past) ∙ e) in
    (λ z. both_ways _ past (zero_from w z), none_at w w none)

pub id_none_from : (w : List ℕ) → (w ≢ codes "0") × (IsNumeral w → 32 < length w) → id_word w ≡ ids.NotNumber
id_none_from w h = nonzero_id w (not_zero w h.0) ∙ ap id_of (none_from w w h.1)
