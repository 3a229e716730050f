-- What is due at a place of a line.
use Rattle.std.specs.Prelude.{ℕ, Bool, nat_lt, List, [], ◌∷◌, length, if◌then◌else◌}
use Rattle.session_rules.specs.Lines.{Line, without_cut_word}

-- the next word, the line's end, a word that is too long, or the bound
pub data Due : Type 0 where
  due_word : List ℕ → Due
  due_end : Due
  due_long : Due
  due_cut : Due

-- the words of a line that are known as a whole, or to be too long: all but a last one that the bound cuts and that has no
-- more than 32 bytes before it
abbrev pub known_words : Line → List (List ℕ)
known_words line = if line.word_cut then without_cut_word line.words else line.words

-- the first of these words; behind them the line's end, unless the bound cuts the line
abbrev pub due_of : Bool → List (List ℕ) → Due
due_of cut [] = if cut then due_cut else due_end
due_of cut (word ∷ more) = if nat_lt 32 (length word) then due_long else due_word word

-- what is due before the first word of a line
abbrev pub due : Line → Due
due line = due_of line.cut (known_words line)
