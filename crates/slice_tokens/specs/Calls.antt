-- What the calls of a window answer, and where they leave it.
use Rattle.std.specs.Prelude.{◌≡◌, ℕ, ◌+◌, ◌<◌, ◌≤◌, ⊤, Bool, true, false, List, [], ◌∷◌, ◌++◌, length, take, Option, Ok, Err, if◌then◌else◌}
use Rattle.std.specs.declared.result.Result.{Result}
use Rattle.session_rules.specs.Lines.{Line, has_content, is_line_feed, is_nil, most_bytes}
use Rattle.slice_tokens.specs.Place.{Place, WhereTold, room, begins_content, bare_line, without_words, present, lines_behind, later, is_cut, last_line}
use Rattle.slice_tokens.specs.Due.{Due, due_word, due_end, due_long, due_cut}
use Rattle.slice_tokens.specs.declared.window.Standing.{Standing}
use Rattle.slice_tokens.specs.declared.window.Standing.TheVariants.{Content}
use Rattle.slice_tokens.specs.declared.token.Token.{Token}
use Rattle.slice_tokens.specs.declared.token.Token.TheVariants.{Word, LineEnd}
use Rattle.slice_tokens.specs.declared.token.TokenFault.{TokenFault}
use Rattle.slice_tokens.specs.declared.token.TokenFault.TheVariants.{Read, LongWord, Length}

-- a window moved on in its stream: what it has passed over never falls and ends at the bound, and bounds the line's number
pub record Moves (old new : Place) : Type 0 where
  pub passed : old.passed ≤ new.passed
  pub bounded : new.passed ≤ most_bytes
  pub counted : new.line ≤ new.passed + 1
  pub ended : old.ended ≡ true → new.ended ≡ true

-- a window of whose line no word was taken stands at the line's first word, in content
abbrev pub Begins : Place → Type 0
Begins place = place.fresh ≡ true → (place.standing ≡ Content) × (begins_content (take (room place) place.held) ≡ true)

-- two places of one stream, and the bytes that were passed over on the way from the one to the other
pub record Passed (old : Place) (bytes : List ℕ) (new : Place) (rest : List ℕ) : Type 0 where
  pub front : List ℕ
  pub whole : bytes ≡ front ++ rest
  pub count : new.passed ≡ old.passed + length front

-- two places of one stream with the same lines behind the present one
pub record SameLater (old : Place) (bytes : List ℕ) (new : Place) (rest : List ℕ) : Type 0 where
  pub lines : lines_behind new rest ≡ lines_behind old bytes
  pub cut : is_cut new rest ≡ is_cut old bytes
  pub last : last_line new rest ≡ last_line old bytes
  pub passed : Passed old bytes new rest

-- ---- The next word

abbrev pub begins_line_feed : List ℕ → Bool
begins_line_feed [] = false
begins_line_feed (b ∷ bs) = is_line_feed b

abbrev pub stands_in_content : Standing → Bool
stands_in_content Content = true
stands_in_content _ = false

-- whether it is seen without a read that no further word comes in the line: the window isn't in a content line, or the
-- next byte ends the line, or the stream has ended
abbrev pub at_line_end : Place → Bool
at_line_end place = if stands_in_content place.standing
    then (if is_nil place.held then place.ended else begins_line_feed (take (room place) place.held))
    else true

abbrev pub IsLineEnd : Result Token TokenFault → Type 0
IsLineEnd (Ok LineEnd) = ⊤
IsLineEnd _ = ⊥

-- `next` answered what was due, unless a read failed
abbrev pub Answers : Due → Result Token TokenFault → Type 0
Answers due (Ok (Word word)) = due ≡ due_word word.now
Answers due (Ok LineEnd) = due ≡ due_end
Answers due (Err Read) = ⊤
Answers due (Err LongWord) = due ≡ due_long
Answers due (Err Length) = due ≡ due_cut

-- a line without its first word
abbrev pub without_first : List (List ℕ) → List (List ℕ)
without_first [] = []
without_first (word ∷ more) = more

-- what an answer of `next` leaves of a line
abbrev pub line_after : Result Token TokenFault → Line → Line
line_after (Ok (Word word)) line = record line { words = without_first line.words }
line_after _ line = line

-- where an answer of `next` leaves the window: a word was passed over, or the window is at the line's end, or it holds
-- what is too long, or what the bound cuts and a byte beyond
abbrev pub Passes : Place → Place → Result Token TokenFault → Type 0
Passes old new (Ok (Word word)) = (0 < length word.now) × (length word.now ≤ 32) × (old.passed + length word.now ≤ new.passed)
Passes old new (Ok LineEnd) = at_line_end new ≡ true
Passes old new (Err Read) = ⊤
Passes old new (Err LongWord) = 32 < length new.held
Passes old new (Err Length) = (room new ≤ 32) × (room new < length new.held)

-- whether the line is still to be taken as a whole behind an answer of `next`, by whether it was before
abbrev pub fresh_after : Result Token TokenFault → Bool → Bool
fresh_after (Ok (Word word)) fresh = false
fresh_after _ fresh = fresh

-- what `next` leaves of the lines to come
pub record LeavesLines (result : Result Token TokenFault) (old : Place) (bytes : List ℕ) (new : Place) (rest : List ℕ) : Type 0 where
  pub present : present new rest ≡ line_after result (present old bytes)
  pub behind : SameLater old bytes new rest

-- how `next` leaves a window: in its line, and before its word if there was a fault
pub record Leaves (result : Result Token TokenFault) (old new : Place) (before after : Option (List ℕ)) : Type 0 where
  pub moves : Moves old new
  pub line : new.line ≡ old.line
  pub standing : new.standing ≡ old.standing
  pub fresh : new.fresh ≡ fresh_after result old.fresh
  pub passes : Passes old new result
  pub again : at_line_end old ≡ true → new ≡ old
  pub told : WhereTold before after (λ bytes rest. LeavesLines result old bytes new rest)

-- what `peek` leaves of the lines to come: all of them, with all words of the present one
pub record SameLines (old : Place) (bytes : List ℕ) (new : Place) (rest : List ℕ) : Type 0 where
  pub present : present new rest ≡ present old bytes
  pub later : later new rest ≡ later old bytes
  pub behind : SameLater old bytes new rest

-- what a window holds behind an answer of `peek`: the word, at its front, and else what `next` leaves it with
abbrev pub Shows : Place → Place → Result Token TokenFault → Type 0
Shows old new (Ok (Word word)) = (0 < length word.now) × (length word.now ≤ 32) × (word.now ≡ take (length word.now) new.held)
Shows old new result = Passes old new result

-- how `peek` leaves a window: in its line, and before the word that it answered
pub record Peeks (result : Result Token TokenFault) (old new : Place) (before after : Option (List ℕ)) : Type 0 where
  pub moves : Moves old new
  pub line : new.line ≡ old.line
  pub standing : new.standing ≡ old.standing
  pub fresh : new.fresh ≡ old.fresh
  pub shows : Shows old new result
  pub again : at_line_end old ≡ true → new ≡ old
  pub told : WhereTold before after (λ bytes rest. SameLines old bytes new rest)

-- ---- The next line

-- where an answer of `next_line` leaves the window: before the first word of a content line, or at the stream's end, or at
-- the bound before a further byte
abbrev pub Halts : Place → Result Bool TokenFault → Type 0
Halts new (Ok true) = (new.standing ≡ Content) × (new.fresh ≡ true)
Halts new (Ok false) = (new.held ≡ []) × (new.ended ≡ true) × (new.fresh ≡ false)
Halts new (Err Read) = new.fresh ≡ false
Halts new (Err LongWord) = ⊥
Halts new (Err Length) = (new.passed ≡ most_bytes) × (0 < length new.held) × (new.fresh ≡ false)

-- the window stands before the first word of the line that came next, and that line is still due
pub record InLine (old : Place) (bytes : List ℕ) (new : Place) (rest : List ℕ) : Type 0 where
  pub lines : later old bytes ≡ present new rest ∷ lines_behind new rest
  pub due : later new rest ≡ later old bytes
  pub content : has_content (present new rest).words ≡ true
  pub number : (present new rest).number ≡ new.line
  pub whole : (present new rest).cut ≡ false → (present new rest).word_cut ≡ false
  pub over : (present new rest).cut ≡ true → is_cut new rest ≡ true
  pub cut : is_cut new rest ≡ is_cut old bytes
  pub last : last_line new rest ≡ last_line old bytes
  pub passed : Passed old bytes new rest

-- the window stands at the end of the stream, and no line came
pub record AtEnd (old : Place) (bytes : List ℕ) (new : Place) (rest : List ℕ) : Type 0 where
  pub none : later old bytes ≡ []
  pub later : later new rest ≡ []
  pub uncut : is_cut old bytes ≡ false
  pub line : new.line ≡ last_line old bytes
  pub all : rest ≡ []
  pub present : present new rest ≡ bare_line new.line
  pub behind : SameLater old bytes new rest

-- lines of which the first, if it has no content, has lost its words
abbrev pub but_comment : List Line → List Line
but_comment [] = []
but_comment (line ∷ more) = (if has_content line.words then line else without_words line) ∷ more

-- two places of one stream with the same lines behind the present one, but for the words of a comment that is passed
-- over in part
pub record SameContent (old : Place) (bytes : List ℕ) (new : Place) (rest : List ℕ) : Type 0 where
  pub later : but_comment (later new rest) ≡ but_comment (later old bytes)
  pub cut : is_cut new rest ≡ is_cut old bytes
  pub last : last_line new rest ≡ last_line old bytes
  pub passed : Passed old bytes new rest

-- no line but one that the bound cuts before it has content
abbrev pub OnlyCut : List Line → ℕ → Type 0
OnlyCut [] last = ⊤
OnlyCut (line ∷ more) last = (more ≡ []) × (line.cut ≡ true) × (has_content line.words ≡ false) × (line.number ≡ last)

-- the window stands at the bound in the line that is cut, and no content line came before
pub record AtBound (old : Place) (bytes : List ℕ) (new : Place) (rest : List ℕ) : Type 0 where
  pub only : OnlyCut (later old bytes) (last_line old bytes)
  pub cut : is_cut old bytes ≡ true
  pub line : new.line ≡ last_line old bytes
  pub behind : SameContent old bytes new rest

-- what `next_line` answered of the lines to come, and what it leaves of them
abbrev pub Reaches : Place → List ℕ → Place → List ℕ → Result Bool TokenFault → Type 0
Reaches old bytes new rest (Ok true) = InLine old bytes new rest
Reaches old bytes new rest (Ok false) = AtEnd old bytes new rest
Reaches old bytes new rest (Err Read) = SameContent old bytes new rest
Reaches old bytes new rest (Err LongWord) = ⊥
Reaches old bytes new rest (Err Length) = AtBound old bytes new rest
