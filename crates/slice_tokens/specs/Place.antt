-- Where a window stands in its stream, and what is to come there.
use Rattle.std.specs.Prelude.{◌≡◌, ℕ, ◌+◌, ◌-◌, ◌≤◌, ⊤, Bool, true, false, not, ◌&&◌, ◌||◌, nat_eq, nat_lt, count_by, List, [], ◌∷◌, ◌++◌, length, take, filter, Option, Some, None, if◌then◌else◌}
use Rattle.std.specs.Option.{option_map}
use Rattle.session_rules.specs.Lines.{Line, all_lines, counts, is_blank, is_line_feed, most_bytes}
use Rattle.slice_tokens.specs.declared.window.TheConstants.{SIZE}
use Rattle.slice_tokens.specs.declared.window.Standing.{Standing}
use Rattle.slice_tokens.specs.declared.window.Standing.TheVariants.{Start, Content, Comment}

-- What contracts see of a window: the bytes that it holds and hasn't passed over, whether it has met the end of the
-- stream, how many bytes it has passed over, the number of its line, where in that line it stands, and whether that is the
-- first word of a content line, of which no word was taken yet.
pub record Place : Type 0 where
  pub held : List ℕ
  pub ended : Bool
  pub passed : ℕ
  pub line : ℕ
  pub standing : Standing
  pub fresh : Bool

-- whether a window stands where it entered a content line: it has passed over as many bytes as then
abbrev pub is_fresh : Standing → ℕ → ℕ → Bool
is_fresh Content passed first = nat_eq passed first
is_fresh _ passed first = false

-- whether some bytes begin with a word that is content
abbrev pub begins_content : List ℕ → Bool
begins_content [] = false
begins_content (b ∷ bs) = not (is_blank b || is_line_feed b) && not (nat_eq b 99)

-- what holds of every window: of its numbers, where its buffer has this size and it had passed over `first` bytes when it
-- entered its line, and of the bytes that it holds
pub record IsSound (start end size passed line first : ℕ) (standing : Standing) (held : List ℕ) : Type 0 where
  pub ordered : start ≤ end
  pub within : end ≤ size
  pub full : size ≡ SIZE
  pub bounded : passed ≤ most_bytes
  pub counted : line ≤ passed + 1
  pub entered : first ≤ passed
  pub begins : is_fresh standing passed first ≡ true → begins_content (take (most_bytes - passed) held) ≡ true

-- a window that has read nothing
abbrev pub at_start : Place
at_start = record { held = []; ended = false; passed = 0; line = 1; standing = Start; fresh = false }

-- ---- Bytes to come

-- the bytes that are still to come at a place, where its source tells what it has left
abbrev pub ahead : Place → Option (List ℕ) → Option (List ℕ)
ahead place left = option_map (λ bytes. place.held ++ (if place.ended then [] else bytes)) left

-- where the bytes to come are told before a call, they are told after it, and the two lists are so related
abbrev pub WhereTold : Option (List ℕ) → Option (List ℕ) → (List ℕ → List ℕ → Type 0) → Type 0
WhereTold None after P = ⊤
WhereTold (Some bytes) None P = ⊥
WhereTold (Some bytes) (Some rest) P = P bytes rest

-- how many of the bytes to come may be read
abbrev pub room : Place → ℕ
room place = most_bytes - place.passed

-- ---- Lines to come

-- the first of some lines, and those behind it
abbrev pub first_of : Line → List Line → Line
first_of other [] = other
first_of other (line ∷ more) = line

abbrev pub behind_first : List Line → List Line
behind_first [] = []
behind_first (line ∷ more) = more

-- a line without its words
abbrev pub without_words : Line → Line
without_words line = record line { words = []; word_cut = false }

-- lines of which the first is a comment that is passed over in part
abbrev pub in_comment : List Line → List Line
in_comment [] = []
in_comment (line ∷ more) = without_words line ∷ more

-- the line of a number that has nothing
abbrev pub bare_line : ℕ → Line
bare_line number = record { number = number; words = []; cut = false; word_cut = false }

-- all lines from a place on, of which the first may have lost its beginning
abbrev pub lines_from : Place → List ℕ → List Line
lines_from place bytes = all_lines place.line (room place) bytes

abbrev pub present_of : Standing → ℕ → List Line → Line
present_of Content number lines = first_of (bare_line number) lines
present_of _ number lines = bare_line number

abbrev pub following_of : Standing → List Line → List Line
following_of Start lines = lines
following_of Content lines = behind_first lines
following_of Comment lines = in_comment lines

-- the present content line with the words that are still to come; it has nothing where the window isn't in such a line
unfoldable pub present : Place → List ℕ → Line
present place bytes = present_of place.standing place.line (lines_from place bytes)

-- all lines behind it
unfoldable pub following : Place → List ℕ → List Line
following place bytes = following_of place.standing (lines_from place bytes)

-- those of them that count, as in the lines of the whole stream
unfoldable pub lines_behind : Place → List ℕ → List Line
lines_behind place bytes = filter counts (following place bytes)

-- the lines that are due: those behind the present one, and before them the present one too while no word of it was taken
unfoldable pub later : Place → List ℕ → List Line
later place bytes = if place.fresh then present place bytes ∷ lines_behind place bytes else lines_behind place bytes

-- whether a byte comes that is beyond the bound
unfoldable pub is_cut : Place → List ℕ → Bool
is_cut place bytes = nat_lt (room place) (length bytes)

-- the number of the stream's last line
unfoldable pub last_line : Place → List ℕ → ℕ
last_line place bytes = place.line + count_by is_line_feed (take (room place) bytes)
