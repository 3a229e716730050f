-- What is due on small lines, and before the first line.
use Rattle.std.proofs.Common.{◌≡◌, ℕ, Bool, true, false, List, [], ◌∷◌, refl}
use Rattle.std.specs.Prelude.{codes}
use Rattle.session_rules.specs.Lines.{Line, all_lines, numbered, words, ends_in_word}
use Rattle.slice_tokens.specs.Place.{Place, at_start, present, following, lines_behind, later}
use Rattle.slice_tokens.specs.declared.window.Standing.TheVariants.{Content}
use Rattle.slice_tokens.specs.Due.{due, due_word, due_end, due_long, due_cut}
use Rattle.slice_tokens.specs.Calls.{at_line_end}

-- a line that the bound doesn't cut, and one that it cuts, within its last word or behind it
abbrev whole : List (List ℕ) → Line
whole words = record { number = 1; words = words; cut = false; word_cut = false }

abbrev cut : Bool → List (List ℕ) → Line
cut word_cut words = record { number = 1; words = words; cut = true; word_cut = word_cut }

next_word : due (whole (codes "i" ∷ codes "12" ∷ [])) ≡ due_word (codes "i")
next_word = refl

no_word : due (whole []) ≡ due_end
no_word = refl

long_word : due (whole (codes "123456789012345678901234567890123" ∷ [])) ≡ due_long
long_word = refl

-- a word before the one that is cut, and one behind which a blank came
word_before : due (cut true (codes "i" ∷ codes "12" ∷ [])) ≡ due_word (codes "i")
word_before = refl

word_ended : due (cut false (codes "12" ∷ [])) ≡ due_word (codes "12")
word_ended = refl

-- a word that is cut may go on, unless it is too long already
word_cut : due (cut true (codes "12345678901234567890123456789012" ∷ [])) ≡ due_cut
word_cut = refl

long_cut : due (cut true (codes "123456789012345678901234567890123" ∷ [])) ≡ due_long
long_cut = refl

no_end : due (cut false []) ≡ due_cut
no_end = refl

start : at_line_end at_start ≡ true
start = refl

-- a line is due while no word of it was taken, and then those behind it
abbrev at_word : Bool → Place
at_word fresh = record at_start { standing = Content; fresh = fresh }

line_due : later (at_word true) (codes "q 0") ≡ whole (codes "q" ∷ codes "0" ∷ []) ∷ []
unfolding later present lines_behind following all_lines numbered words ends_in_word
line_due = refl

line_taken : later (at_word false) (codes "q 0") ≡ []
unfolding later present lines_behind following all_lines numbered words ends_in_word
line_taken = refl
