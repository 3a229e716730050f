-- What the word at the front of some bytes says.
use Rattle.std.proofs.Common.{◌≡◌, ℕ, zero, suc, ◌+◌, ◌-◌, ◌*◌, ◌^◌, ◌%◌, ◌<◌, ◌≤◌, Bool, true, false, ◌&&◌, nat_eq, nat_lt, nat_le, if◌then◌else◌, List, [], ◌∷◌, length, get_or, take, drop, Some, refl, sym, ◌∙◌, ap, subst, arith, ne_eqb, lt-ltb, le-leb, ltb-true, eqb-true, eq-eqb, length-take, decimal, inl, inr}
use Rattle.std.proofs.lemmas.Str.Parse.{digits_value_short}
use Rattle.std.proofs.lemmas.Fmt.{length-decimal-le}
use Rattle.std.proofs.lemmas.Int.Digits.{digits_value_more}
use Rattle.std.proofs.lemmas.List.Folds.{list_all_more, list_all_at}
use Rattle.std.proofs.lemmas.List.{get_or-take}
use Rattle.std.proofs.lemmas.Bool.{and_parts, and_from, cases_Bool, true≢false, ltb-false, eqb-false}
use Rattle.std.specs.List.{list_all}
use Rattle.std.specs.Char.{is_ascii_digit}
use Rattle.std.specs.Str.Parse.{digits_value, starts_with_minus}
use Rattle.lits.specs.declared.LitWord.TheVariants as words
use Rattle.lits.specs.declared.IdWord.TheVariants as ids
use Rattle.lits.specs.Literal.{max_var, neg, of_var, var, positive, IsLiteral}
use Rattle.lits.specs.Word.{literal_word, id_word, magnitude, numeral, literal_of, is_number_byte, is_end_byte, IsFront, IsNumeralFront}
use Rattle.lits.proofs.Digits.{own, digit_range, digit_is}
use Rattle.lits.proofs.Back.{literal_text-literal_word}
use Rattle.lits.proofs.WordKinds.{decimal-id_word}
use Rattle.lits.proofs.Words.{IsWord, IsWord-decimal, id_numeral}

-- ---- Digits

pub more_digits : (ds : List ℕ) (i v : ℕ) → i < length ds → list_all is_ascii_digit (take i ds) ≡ true → is_ascii_digit (get_or ds i 0) ≡ true → v ≡ digits_value 10 (take i ds)
    → (list_all is_ascii_digit (take (i + 1) ds) ≡ true) × (v * 10 + (get_or ds i 0 - 48) ≡ digits_value 10 (take (i + 1) ds))
more_digits ds i v lt before digit e =
    let range = digit_range (get_or ds i 0) digit in (
      list_all_more is_ascii_digit ds i 0 lt ∙ and_from _ _ before digit,
      ap (λ n. n * 10 + (get_or ds i 0 - 48)) e ∙ ap (λ d. digits_value 10 (take i ds) * 10 + d) (sym (digit_is (get_or ds i 0) range.0 range.1)) ∙ sym (digits_value_more 10 ds i lt),
    )

pub few_digits : (ds : List ℕ) (i k : ℕ) → list_all is_ascii_digit (take i ds) ≡ true → i ≤ k → digits_value 10 (take i ds) < 10 ^ k
few_digits ds i k h le = digits_value_short own (take i ds) k h (omega (arith, length-take i ds))

-- ---- The bytes of a word

digit_in_number : (b : ℕ) → is_ascii_digit b ≡ true → is_number_byte b ≡ true
digit_in_number b h = rw h refl

digits_in_number : (ds : List ℕ) → list_all is_ascii_digit ds ≡ true → list_all is_number_byte ds ≡ true
digits_in_number [] h = refl
digits_in_number (d ∷ ds) h = let parts = and_parts _ _ h in and_from _ _ (digit_in_number d parts.0) (digits_in_number ds parts.1)

-- ---- A numeral

pub word_at : (bytes : List ℕ) (n v : ℕ) → IsNumeralFront bytes n v → IsWord (take n bytes) v
word_at bytes zero v h = absurd (omega (arith, h.some))
word_at [] (suc n) v h = absurd (omega (arith, h.first))
word_at (b ∷ bs) (suc n) v h = record {
  nonempty = omega arith;
  first = h.first;
  digits = h.digits;
  short = omega (arith, h.few, length-take (suc n) (b ∷ bs));
  value = sym h.value;
}

small_at : (bytes : List ℕ) (n v : ℕ) → IsNumeralFront bytes n v → v < 10 ^ 18
small_at bytes n v h = omega (arith, h.value, few_digits bytes n 18 h.digits h.few)

front_at : (bytes : List ℕ) (n v : ℕ) → IsNumeralFront bytes n v → IsFront bytes n
front_at bytes n v h = record { some = h.some; short = omega (arith, h.few); within = h.within; word = digits_in_number (take n bytes) h.digits; behind = h.behind }

pub id_at : (bytes : List ℕ) (n v : ℕ) → IsNumeralFront bytes n v → IsFront bytes n × (id_word (take n bytes) ≡ ids.Value v)
id_at bytes n v h = (front_at bytes n v h, id_numeral (take n bytes) v (word_at bytes n v h) (omega (arith, small_at bytes n v h)))

-- ---- A literal

positive_front : (ds : List ℕ) (n : ℕ) → IsWord ds n → literal_word ds ≡ literal_of false (Some n)
unfolding literal_word magnitude numeral
positive_front [] n w = absurd (omega (arith, w.nonempty))
positive_front (d ∷ ds) n w =
    let big : nat_lt 48 d ≡ true = lt-ltb 48 d w.first in
    let not_zero : nat_eq d 48 ≡ false = ne_eqb d 48 (λ e. omega (arith, w.first)) in
    let not_minus : nat_eq d 45 ≡ false = ne_eqb d 45 (λ e. omega (arith, w.first)) in
    let short : nat_le (suc (length ds)) 32 ≡ true = le-leb _ _ (omega (arith, w.short)) in
    let numeral : (nat_lt 48 d && list_all is_ascii_digit (d ∷ ds)) ≡ true = and_from _ _ big w.digits in
    rw (not_zero, not_minus, short, numeral, w.value) refl

negative_front : (ds : List ℕ) (n : ℕ) → IsWord ds n → literal_word (45 ∷ ds) ≡ literal_of true (Some n)
unfolding literal_word magnitude numeral
negative_front [] n w = absurd (omega (arith, w.nonempty))
negative_front (d ∷ ds) n w =
    let big : nat_lt 48 d ≡ true = lt-ltb 48 d w.first in
    let short : nat_le (suc (suc (length ds))) 32 ≡ true = le-leb _ _ (omega (arith, w.short)) in
    let numeral : (nat_lt 48 d && list_all is_ascii_digit (d ∷ ds)) ≡ true = and_from _ _ big w.digits in
    rw (short, numeral, w.value) refl

pub positive_at : (bytes : List ℕ) (n v : ℕ) → IsNumeralFront bytes n v → IsFront bytes n × (literal_word (take n bytes) ≡ literal_of false (Some v))
positive_at bytes n v h = (front_at bytes n v h, positive_front (take n bytes) v (word_at bytes n v h))

pub negative_at : (bytes : List ℕ) (n v : ℕ) → starts_with_minus bytes ≡ true → IsNumeralFront (drop 1 bytes) n v → IsFront bytes (suc n) × (literal_word (take (suc n) bytes) ≡ literal_of true (Some v))
negative_at [] n v m h = cc
negative_at (b ∷ bs) n v m h =
    let minus : b ≡ 45 = eqb-true b 45 m in (
      record {
        some = omega arith;
        short = omega (arith, h.few);
        within = omega (arith, h.within);
        word = and_from _ _ (rw minus refl) (digits_in_number (take n bs) h.digits);
        behind = h.behind;
      },
      rw minus (negative_front (take n bs) v (word_at bs n v h)),
    )

pub literal_at : (bytes : List ℕ) (minus : Bool) (from n v : ℕ) → starts_with_minus bytes ≡ minus → from ≡ (if minus then 1 else 0) → IsNumeralFront (drop from bytes) n v
    → IsFront bytes (from + n) × (literal_word (take (from + n) bytes) ≡ literal_of minus (Some v))
literal_at bytes true from n v m e h =
    let front : IsNumeralFront (drop 1 bytes) n v = subst (λ k. IsNumeralFront (drop k bytes) n v) e h in
    let sum : suc n ≡ from + n = omega (arith, e) in
    subst (λ k. IsFront bytes k × (literal_word (take k bytes) ≡ literal_of true (Some v))) sum (negative_at bytes n v m front)
literal_at bytes false from n v m e h =
    let front : IsNumeralFront bytes n v = subst (λ k. IsNumeralFront (drop k bytes) n v) e h in
    let sum : n ≡ from + n = omega (arith, e) in
    subst (λ k. IsFront bytes k × (literal_word (take k bytes) ≡ literal_of false (Some v))) sum (positive_at bytes n v front)

-- ---- The word 0

pub zero_at : (bytes : List ℕ) → get_or bytes 0 0 ≡ 48 → (nat_lt 1 (length bytes) && is_end_byte (get_or bytes 1 0)) ≡ true
    → IsFront bytes 1 × (literal_word (take 1 bytes) ≡ words.Zero) × (id_word (take 1 bytes) ≡ ids.Zero)
unfolding literal_word id_word
zero_at [] e h = cc
zero_at (b ∷ bs) e h =
    let parts = and_parts _ _ h in (
      record { some = omega arith; short = omega arith; within = ltb-true _ _ parts.0; word = rw e refl; behind = parts.1 },
      rw e refl,
      rw e refl,
    )

-- ---- The longest front

digit_at : (ds : List ℕ) (k i : ℕ) → list_all is_ascii_digit (take k ds) ≡ true → i < k → i < length ds → is_ascii_digit (get_or ds i 0) ≡ true
digit_at ds k i all lt within = elim (cases_Bool (is_ascii_digit (get_or ds i 0))) [
  | inl q ↦ q
  | inr q ↦ absurd (true≢false (sym all ∙ list_all_at is_ascii_digit (take k ds) i 0 (omega (arith, length-take k ds)) (ap is_ascii_digit (get_or-take k ds i 0 lt) ∙ q)))
]

digit_no_end : (b : ℕ) → is_ascii_digit b ≡ true → is_end_byte b ≡ false
digit_no_end b h =
    let range = digit_range b h in
    let space : nat_eq b 32 ≡ false = ne_eqb b 32 (λ e. omega (arith, range.0)) in
    let feed : nat_eq b 10 ≡ false = ne_eqb b 10 (λ e. omega (arith, range.0)) in
    rw (space, feed) refl

-- a byte behind a word isn't one of its digits
no_less : (bytes : List ℕ) (n k : ℕ) → is_end_byte (get_or bytes n 0) ≡ true → n < length bytes → list_all is_ascii_digit (take k bytes) ≡ true → n < k → ⊥
no_less bytes n k behind within digits lt = true≢false (sym behind ∙ digit_no_end (get_or bytes n 0) (digit_at bytes k n digits lt within))

same_count : (bytes : List ℕ) (n k : ℕ) → (n < k → ⊥) → (k < n → ⊥) → n ≡ k
same_count bytes n k up down = elim (cases_Bool (nat_lt n k)) [
  | inl q ↦ absurd (up (ltb-true _ _ q))
  | inr q ↦ elim (cases_Bool (nat_lt k n)) [
    | inl r ↦ absurd (down (ltb-true _ _ r))
    | inr r ↦ omega (arith, ltb-false _ _ q, ltb-false _ _ r)
  ]
]

-- no other digits than those that were found
pub none_found : (bytes : List ℕ) (count : ℕ) → list_all is_ascii_digit (take count bytes) ≡ true
    → ((k : ℕ) → k ≤ 18 → k ≤ length bytes → list_all is_ascii_digit (take k bytes) ≡ true → k ≤ count)
    → (nat_lt count (length bytes) && is_end_byte (get_or bytes count 0)) ≡ false → (n v : ℕ) → IsNumeralFront bytes n v → ⊥
none_found bytes count digits longest none n v h =
    let le = longest n h.few (omega (arith, h.within)) h.digits in
    let same : n ≡ count = same_count bytes n count (no_less bytes n count h.behind h.within digits) (λ lt. omega (arith, lt, le)) in
    true≢false (sym (and_from _ _ (lt-ltb count (length bytes) (omega (arith, h.within, same))) (subst (λ k. is_end_byte (get_or bytes k 0) ≡ true) same h.behind)) ∙ none)

pub numeral_once : (bytes : List ℕ) (n k v w : ℕ) → IsNumeralFront bytes n v → IsNumeralFront bytes k w → (n ≡ k) × (v ≡ w)
numeral_once bytes n k v w a b =
    let same : n ≡ k = same_count bytes n k (no_less bytes n k a.behind a.within b.digits) (no_less bytes k n b.behind b.within a.digits) in
    (same, a.value ∙ ap (λ m. digits_value 10 (take m bytes)) same ∙ sym b.value)

-- ---- The words of ids and literals at the front

numeral_from : (bytes : List ℕ) (n v : ℕ) → n < length bytes → is_end_byte (get_or bytes n 0) ≡ true → n ≤ 18 → take n bytes ≡ decimal v → 0 < v → v < 2 ^ 63 → IsNumeralFront bytes n v
numeral_from bytes n v within behind few text pos small =
    let w = IsWord-decimal v pos small in
    let some : 0 < n = omega (arith, w.nonempty, ap length text, length-take n bytes) in
    record {
      some = some;
      few = few;
      within = within;
      first = omega (arith, w.first, ap (λ l. get_or l 0 0) text, get_or-take n bytes 0 0 some);
      digits = ap (list_all is_ascii_digit) text ∙ w.digits;
      value = sym (ap (digits_value 10) text ∙ w.value);
      behind = behind;
    }

pub id_front_is : (bytes : List ℕ) (n v : ℕ) → IsFront bytes n → n ≤ 18 → id_word (take n bytes) ≡ ids.Value v → IsNumeralFront bytes n v
id_front_is bytes n v f few e =
    let r = decimal-id_word (take n bytes) v e in
    numeral_from bytes n v f.within f.behind few r.2 r.0 r.1

few_in_decimal : (v : ℕ) → 0 < v → v ≤ max_var → length (decimal v) ≤ 18
few_in_decimal v pos small = length-decimal-le 18 v (omega arith) (omega arith) (omega arith)

-- what is known of a literal whose word stands at the front, behind a minus or not
abbrev FrontOf : List ℕ → Bool → ℕ → Type 0
FrontOf bytes minus l = (k : ℕ) × IsNumeralFront (drop (if minus then 1 else 0) bytes) k (var l) × (literal_of minus (Some (var l)) ≡ words.Value l)

plain_front : (bytes : List ℕ) (n l : ℕ) → IsLiteral l → positive l ≡ true → IsFront bytes n → take n bytes ≡ decimal (var l) → (minus : Bool) → starts_with_minus bytes ≡ minus → FrontOf bytes minus l
plain_front bytes n l small p f text minus m =
    let few = few_in_decimal (var l) (omega arith) (omega arith) in
    let front = numeral_from bytes n (var l) f.within f.behind (omega (arith, few, ap length text, length-take n bytes, f.within)) text (omega arith) (omega arith) in
    let even : l % 2 ≡ 0 = eqb-true _ _ p in
    let within : nat_le (var l) max_var ≡ true = le-leb _ _ (omega arith) in
    let same : of_var (var l) ≡ l = omega arith in
    subst (λ b. FrontOf bytes b l) (sym (no_minus bytes (omega (arith, front.first))) ∙ m) (n, front, rw within (ap words.Value same))
  where
    no_minus : (bs : List ℕ) → 48 < get_or bs 0 0 → starts_with_minus bs ≡ false
    no_minus [] h = refl
    no_minus (b ∷ bs) h = ne_eqb b 45 (λ e. omega (arith, h))

negated_front : (bytes : List ℕ) (n l : ℕ) → IsLiteral l → positive l ≡ false → IsFront bytes n → take n bytes ≡ 45 ∷ decimal (var l) → (minus : Bool) → starts_with_minus bytes ≡ minus → FrontOf bytes minus l
negated_front bytes zero l small p f text minus m = absurd (omega (arith, f.some))
negated_front [] (suc n) l small p f text minus m = absurd (omega (arith, f.within))
negated_front (b ∷ bs) (suc n) l small p f text minus m =
    let first : b ≡ 45 = ap (λ xs. get_or xs 0 0) text in
    let digits : take n bs ≡ decimal (var l) = ap (drop 1) text in
    let few = few_in_decimal (var l) (omega arith) (omega arith) in
    let front = numeral_from bs n (var l) (omega (arith, f.within)) f.behind (omega (arith, few, ap length digits, length-take n bs, f.within)) digits (omega arith) (omega arith) in
    let odd : (l % 2 ≡ 0) → ⊥ = eqb-false _ _ p in
    let within : nat_le (var l) max_var ≡ true = le-leb _ _ (omega arith) in
    let same : neg (of_var (var l)) ≡ l = omega arith in
    subst (λ d. FrontOf (b ∷ bs) d l) (sym (eq-eqb b 45 first) ∙ m) (n, front, rw within (ap words.Value same))

front_of : (bytes : List ℕ) (n l : ℕ) → IsFront bytes n → literal_word (take n bytes) ≡ words.Value l → FrontOf bytes (starts_with_minus bytes) l
front_of bytes n l f is =
    let r = literal_text-literal_word (take n bytes) l is in
    elim (cases_Bool (positive l)) [
      | inl q ↦ plain_front bytes n l r.0 q f (rw q at r.1) (starts_with_minus bytes) refl
      | inr q ↦ negated_front bytes n l r.0 q f (rw q at r.1) (starts_with_minus bytes) refl
    ]

-- a literal's word at the front has its digits behind the minus, if there is one
pub literal_front_is : (bytes : List ℕ) (minus : Bool) (from n l : ℕ) → starts_with_minus bytes ≡ minus → from ≡ (if minus then 1 else 0) → IsFront bytes n → literal_word (take n bytes) ≡ words.Value l
    → (k : ℕ) × IsNumeralFront (drop from bytes) k (var l) × (literal_of minus (Some (var l)) ≡ words.Value l)
literal_front_is bytes minus from n l m e f is =
    let h : FrontOf bytes minus l = subst (λ d. FrontOf bytes d l) m (front_of bytes n l f is) in
    (h.0, subst (λ k. IsNumeralFront (drop k bytes) h.0 (var l)) (sym e) h.1, h.2)

-- where other digits were found, they are those of the literal
pub literal_found : (bytes : List ℕ) (minus : Bool) (from count size n l : ℕ) → starts_with_minus bytes ≡ minus → from ≡ (if minus then 1 else 0) → IsNumeralFront (drop from bytes) count size
    → IsFront bytes n → literal_word (take n bytes) ≡ words.Value l → literal_of minus (Some size) ≡ words.Value l
literal_found bytes minus from count size n l m e found f is =
    let h = literal_front_is bytes minus from n l m e f is in
    ap (λ v. literal_of minus (Some v)) (numeral_once (drop from bytes) count h.0 size (var l) found h.1).1 ∙ h.2

-- ---- The word 0 isn't there

pub zero_missing : (bytes : List ℕ) → (nat_lt 1 (length bytes) && is_end_byte (get_or bytes 1 0)) ≡ false → IsFront bytes 1 → ⊥
zero_missing bytes none f = true≢false (sym (and_from _ _ (lt-ltb 1 (length bytes) f.within) f.behind) ∙ none)
