-- What a word of a line is, where a literal, an id or the 0 at a list's end stands.
use Rattle.std.specs.Prelude.{◌≡◌, ℕ, ◌^◌, ◌<◌, ◌≤◌, Bool, true, ◌&&◌, ◌||◌, nat_eq, nat_lt, nat_le, if◌then◌else◌, List, [], ◌∷◌, All, length, slice_index, take, drop, Option, Some, None, decimal}
use Rattle.std.specs.List.{list_all}
use Rattle.std.specs.Char.{is_ascii_digit}
use Rattle.std.specs.Str.Parse.{digits_value}
pub use Rattle.std.specs.Str.Parse.{starts_with_minus}
use Rattle.lits.specs.declared.LitWord.{LitWord}
use Rattle.lits.specs.declared.LitWord.TheVariants as words
use Rattle.lits.specs.declared.IdWord.{IdWord}
use Rattle.lits.specs.declared.IdWord.TheVariants as ids
use Rattle.lits.specs.Literal.{max_var, neg, of_var, var, positive}

-- the word of a literal: its variable in decimal, behind a minus for a negation
abbrev pub literal_text : ℕ → List ℕ
literal_text l = if positive l then decimal (var l) else 45 ∷ decimal (var l)

-- the bytes are a digit from 1 to 9 and any digits
abbrev pub IsNumeral : List ℕ → Type 0
IsNumeral [] = ⊥
IsNumeral (d ∷ ds) = (49 ≤ d) × (d ≤ 57) × All (λ b. (48 ≤ b) × (b ≤ 57)) ds

-- the test of a numeral
abbrev pub is_numeral : List ℕ → Bool
is_numeral ds = nat_lt 48 (slice_index ds 0) && list_all is_ascii_digit ds

-- the test of the word `0`
abbrev pub is_zero : List ℕ → Bool
is_zero w = nat_eq (slice_index w 0) 48 && nat_eq (length w) 1

-- the number that a numeral writes
unfoldable pub numeral : List ℕ → Option ℕ
numeral ds = if is_numeral ds then Some (digits_value 10 ds) else None

-- the test of a word of at most 32 bytes
abbrev pub is_short : List ℕ → Bool
is_short w = nat_le (length w) 32

-- a word without the minus in front, if there is one
abbrev pub without_minus : List ℕ → List ℕ
without_minus w = if starts_with_minus w then drop 1 w else w

-- the absolute value of the number that a short word writes
unfoldable pub magnitude : List ℕ → Option ℕ
magnitude w = if is_short w then numeral (without_minus w) else None

-- the literal of a variable, negated behind a minus
abbrev pub signed : Bool → ℕ → ℕ
signed minus v = if minus then neg (of_var v) else of_var v

-- what a sign and an absolute value say as a literal
abbrev pub literal_of : Bool → Option ℕ → LitWord
literal_of minus None = words.NotNumber
literal_of minus (Some v) = if nat_le v max_var then words.Value (signed minus v) else words.OutOfRange

-- what a word says as a literal
unfoldable pub literal_word : List ℕ → LitWord
literal_word w = if is_zero w then words.Zero else literal_of (starts_with_minus w) (magnitude w)

-- what a number says as an id
abbrev pub id_of : Option ℕ → IdWord
id_of None = ids.NotNumber
id_of (Some v) = if nat_lt v (2 ^ 63) then ids.Value v else ids.OutOfRange

-- what a word says as an id
unfoldable pub id_word : List ℕ → IdWord
id_word w = if is_zero w then ids.Zero else id_of (if is_short w then numeral w else None)

-- ---- A word at the front of some bytes

-- a byte of the words of numbers
abbrev pub is_number_byte : ℕ → Bool
is_number_byte b = is_ascii_digit b || nat_eq b 45

-- a space, or the byte that ends a line
abbrev pub is_end_byte : ℕ → Bool
is_end_byte b = nat_eq b 32 || nat_eq b 10

-- the first n of some bytes are bytes of a number's word, and a space or a line's end stands behind them
pub record IsFront (bytes : List ℕ) (n : ℕ) : Type 0 where
  pub some : 0 < n
  pub short : n ≤ 32
  pub within : n < length bytes
  pub word : list_all is_number_byte (take n bytes) ≡ true
  pub behind : is_end_byte (slice_index bytes n) ≡ true

-- the first n of some bytes are digits of which the first isn't 0, they write the number v, and a space or a line's end stands behind them
pub record IsNumeralFront (bytes : List ℕ) (n v : ℕ) : Type 0 where
  pub some : 0 < n
  pub few : n ≤ 18
  pub within : n < length bytes
  pub first : 48 < slice_index bytes 0
  pub digits : list_all is_ascii_digit (take n bytes) ≡ true
  pub value : v ≡ digits_value 10 (take n bytes)
  pub behind : is_end_byte (slice_index bytes n) ≡ true
