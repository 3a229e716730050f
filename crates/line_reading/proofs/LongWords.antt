-- A word of more than 32 bytes says nothing, whatever its kind.
use Rattle.std.proofs.Common.{◌≡◌, ℕ, ◌<◌, ◌≤◌, Bool, true, false, ◌&&◌, nat_eq, List, [], ◌∷◌, length, Err, codes, refl, arith, ne_eqb}
use Rattle.std.proofs.lemmas.Bool.{lt-leb}
use Rattle.lits.specs.Word.{literal_word, id_word, magnitude, is_zero, is_short}
use Rattle.lits.specs.declared.IdWord.TheVariants as ids
use Rattle.session_rules.specs.declared.Letter.TheVariants as letters
use Rattle.session_rules.specs.declared.Rule.TheVariants as rules
use Rattle.session_rules.specs.Reading.{letter_of, same_word}
use Rattle.line_reading.specs.Kinds.{letter_says, literal_says, id_says, status_says}

pub long_letter : (w : List ℕ) → 32 < length w → letter_of w ≡ letters.NoLetter
long_letter [] h = absurd (omega arith)
long_letter (b ∷ []) h = absurd (omega arith)
long_letter (b ∷ c ∷ bs) h = refl

pub letter_long : (w : List ℕ) → 32 < length w → letter_says w ≡ Err rules.Letter
unfolding letter_says
letter_long [] h = absurd (omega arith)
letter_long (b ∷ []) h = absurd (omega arith)
letter_long (b ∷ c ∷ bs) h = refl

not_zero : (w : List ℕ) → 32 < length w → is_zero w ≡ false
not_zero w h = let other : nat_eq (length w) 1 ≡ false = ne_eqb _ _ (λ e. omega arith) in rw other (and_false _)
  where
    and_false : (a : Bool) → (a && false) ≡ false
    and_false true = refl
    and_false false = refl

not_short : (w : List ℕ) → 32 < length w → is_short w ≡ false
not_short w h = lt-leb (length w) 32 h

pub literal_long : (w : List ℕ) → 32 < length w → literal_says w ≡ Err rules.Number
unfolding literal_says literal_word magnitude
literal_long w h = rw (not_zero w h, not_short w h) refl

pub id_word_long : (w : List ℕ) → 32 < length w → id_word w ≡ ids.NotNumber
unfolding id_word
id_word_long w h = rw (not_zero w h, not_short w h) refl

pub id_long : (w : List ℕ) → 32 < length w → id_says w ≡ Err rules.Number
unfolding id_says
id_long w h = rw (id_word_long w h) refl

-- a word of another length than a short one is another word
pub other_length : (w v : List ℕ) → 32 < length w → length v ≤ 32 → same_word w v ≡ false
unfolding same_word
other_length w v h k = let other : nat_eq (length w) (length v) ≡ false = ne_eqb _ _ (λ e. omega arith) in rw other refl

pub status_long : (w : List ℕ) → 32 < length w → status_says w ≡ Err rules.Word
unfolding status_says
status_long w h = rw (other_length w (codes "SATISFIABLE") h (omega arith), other_length w (codes "UNSATISFIABLE") h (omega arith), other_length w (codes "UNKNOWN") h (omega arith)) refl
