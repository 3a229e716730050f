-- The lines of a stream's bytes, and their words. Of a stream no more bytes are read than a bound.
use Rattle.std.specs.Prelude.{ℕ, ◌+◌, ◌^◌, Bool, true, false, not, ◌||◌, ◌&&◌, ◌==◌, nat_lt, count_by, List, [], ◌∷◌, length, take, filter, if◌then◌else◌}
use Rattle.std.specs.List.{slice_split}

-- ---- Words

-- space, tab and CR stand between words
abbrev pub is_blank : ℕ → Bool
is_blank b = b == 32 || b == 9 || b == 13

-- LF ends a line
abbrev pub is_line_feed : ℕ → Bool
is_line_feed b = b == 10

-- whether a list is empty
abbrev pub is_nil : {X : Type 0} → List X → Bool
is_nil [] = true
is_nil (x ∷ xs) = false

-- the words of a line's bytes: what stands between its blanks, where that is something
unfoldable pub words : List ℕ → List (List ℕ)
words text = filter (λ word. not (is_nil word)) (slice_split is_blank text)

-- whether no blank stands behind the last word of a line
unfoldable pub ends_in_word : List ℕ → Bool
ends_in_word [] = false
ends_in_word (b ∷ bs) = if is_nil bs then not (is_blank b) else ends_in_word bs

-- whether a word begins with the letter c
abbrev pub is_comment : List ℕ → Bool
is_comment [] = false
is_comment (b ∷ bs) = b == 99

-- whether a line of these words has content: there is a word, and the first doesn't begin with the letter c
abbrev pub has_content : List (List ℕ) → Bool
has_content [] = false
has_content (word ∷ more) = not (is_comment word)

-- ---- Lines

-- a line: its number, its words, whether the bound cuts it, and whether the bound cuts its last word
pub record Line : Type 0 where
  pub number : ℕ
  pub words : List (List ℕ)
  pub cut : Bool
  pub word_cut : Bool

-- the line of some bytes
abbrev pub line_of : ℕ → Bool → List ℕ → Line
line_of number cut text = record { number = number; words = words text; cut = cut; word_cut = cut && ends_in_word text }

-- texts as lines, numbered on; the last of them may be cut
unfoldable pub numbered : ℕ → Bool → List (List ℕ) → List Line
numbered number cut [] = []
numbered number cut (text ∷ texts) = line_of number (cut && is_nil texts) text ∷ numbered (number + 1) cut texts

-- all lines of bytes that begin at the line of this number, of which no more than `bound` are read
unfoldable pub all_lines : ℕ → ℕ → List ℕ → List Line
all_lines number bound bytes = numbered number (nat_lt bound (length bytes)) (slice_split is_line_feed (take bound bytes))

-- a line that counts: one with content, or the line that is cut
abbrev pub counts : Line → Bool
counts line = line.cut || has_content line.words

-- the content lines of a stream of which no more than `bound` bytes are read, and last the line that is cut
unfoldable pub lines_within : ℕ → List ℕ → List Line
lines_within bound bytes = filter counts (all_lines 1 bound bytes)

-- the number of its last line: 1 plus the number of its line feeds
unfoldable pub end_line_within : ℕ → List ℕ → ℕ
end_line_within bound bytes = 1 + count_by is_line_feed (take bound bytes)

-- how many bytes of a stream are read at most
abbrev pub most_bytes : ℕ
most_bytes = 2 ^ 62

-- the lines of a stream
unfoldable pub lines : List ℕ → List Line
lines bytes = lines_within most_bytes bytes

-- the end line of a stream
unfoldable pub end_line : List ℕ → ℕ
end_line bytes = end_line_within most_bytes bytes

-- ---- Words that are judged

-- the words without the last one, where that may go on and hasn't reached 33 bytes
abbrev pub without_cut_word : List (List ℕ) → List (List ℕ)
without_cut_word [] = []
without_cut_word (word ∷ []) = if nat_lt 32 (length word) then word ∷ [] else []
without_cut_word (word ∷ next ∷ more) = word ∷ without_cut_word (next ∷ more)

-- the words of a cut line that ended or reached 33 bytes before the bound; none where it has no content
abbrev pub judged_words : Line → List (List ℕ)
judged_words line = if has_content line.words then (if line.word_cut then without_cut_word line.words else line.words) else []
