-- What the single steps of a window find in the bytes that it holds.
use Rattle.std.specs.Prelude.{◌≡◌, ℕ, zero, suc, ◌+◌, ◌<◌, ◌≤◌, ⊤, Bool, true, false, not, ◌||◌, ◌&&◌, nat_eq, List, ◌∷◌, ◌++◌, length, take, drop, Ok, Err, MatchBool}
use Rattle.std.specs.List.{prefix_len}
use Rattle.std.specs.declared.result.Result.{Result}
use Rattle.session_rules.specs.Lines.{is_blank, is_line_feed, has_content}
use Rattle.slice_tokens.specs.Place.{Place, room, present, following, lines_behind, is_cut, last_line}
use Rattle.slice_tokens.specs.Due.{due, due_word, due_end, due_long, due_cut}
use Rattle.slice_tokens.specs.Calls.{Moves, Passed, SameLater, but_comment, without_first, at_line_end}
use Rattle.slice_tokens.specs.declared.window.Standing.{Standing}
use Rattle.slice_tokens.specs.declared.window.Standing.TheVariants.{Start, Content, Comment}
use Rattle.slice_tokens.specs.declared.window.Look.{Look}
use Rattle.slice_tokens.specs.declared.window.Look.TheVariants.{Ended, TooLong, AtBound, Going}
use Rattle.slice_tokens.specs.declared.token.TokenFault.{TokenFault}
use Rattle.slice_tokens.specs.declared.token.TokenFault.TheVariants.{Read, LongWord, Length}

-- whether two standings are the same
abbrev pub same_standing : Standing → Standing → Bool
same_standing Start Start = true
same_standing Content Content = true
same_standing Comment Comment = true
same_standing _ _ = false

abbrev pub standing_at : Standing → Place → Bool
standing_at standing place = same_standing place.standing standing

-- ---- Places

-- the same place after n bytes; where these are none, no word was taken
abbrev pub passed_over : ℕ → Place → Place
passed_over n place = record place { held = drop n place.held; passed = place.passed + n; fresh = nat_eq n 0 && place.fresh }

-- the place after n bytes, of which the last ends the line
abbrev pub past_line : ℕ → Place → Place
past_line n place = record place { held = drop n place.held; passed = place.passed + n; line = place.line + 1; standing = Start; fresh = false }

-- a read left the place as it is, but for what is held and for the end of the stream
pub record Stays (old new : Place) : Type 0 where
  pub ended : old.ended ≡ true → new.ended ≡ true
  pub passed : new.passed ≡ old.passed
  pub line : new.line ≡ old.line
  pub standing : new.standing ≡ old.standing
  pub fresh : new.fresh ≡ old.fresh

-- a read gave bytes, or met the end
abbrev pub Grows : Place → Place → Type 0
Grows old new = MatchBool new.ended (new.held ≡ old.held) (length old.held < length new.held)

-- ---- The next word

-- the bytes that are held and may be read
abbrev pub readable : Place → List ℕ
readable place = take (room place) place.held

-- the bytes of words
abbrev pub is_word_byte : ℕ → Bool
is_word_byte b = not (is_blank b || is_line_feed b)

-- how many blanks are held first
abbrev pub blanks : Place → ℕ
blanks place = prefix_len is_blank (readable place)

-- how many bytes of a word are held behind them
abbrev pub word_len : Place → ℕ
word_len place = prefix_len is_word_byte (drop (blanks place) (readable place))

-- what `look` answered of a place: the word that it holds has ended, is too long, is at the bound, or may go on
abbrev pub Looks : Place → Look → Type 0
Looks place (Ended n) = (n ≡ word_len place) × (n ≤ 32) × (blanks place + n < length (readable place))
Looks place TooLong = 32 < word_len place
Looks place AtBound = (word_len place ≤ 32) × (blanks place + word_len place ≡ length (readable place)) × (room place < length place.held)
Looks place (Going n) = (n ≡ word_len place) × (n ≤ 32) × (blanks place + n ≡ length (readable place)) × (length place.held ≤ room place)

-- what `find` found at the place where it stopped
abbrev pub Finds : Place → List ℕ → Result ℕ TokenFault → Type 0
Finds place bytes (Ok zero) = due (present place bytes) ≡ due_end
Finds place bytes (Ok (suc n)) = due (present place bytes) ≡ due_word (take (suc n) place.held)
Finds place bytes (Err Read) = ⊤
Finds place bytes (Err LongWord) = due (present place bytes) ≡ due_long
Finds place bytes (Err Length) = due (present place bytes) ≡ due_cut

-- what `find` holds where it stopped
abbrev pub Holds : Place → Result ℕ TokenFault → Type 0
Holds place (Ok zero) = at_line_end place ≡ true
Holds place (Ok (suc n)) = (suc n ≤ 32) × (suc n ≤ length place.held) × (suc n ≤ room place)
Holds place (Err Read) = ⊤
Holds place (Err LongWord) = 32 < length place.held
Holds place (Err Length) = (room place ≤ 32) × (room place < length place.held)

-- where `find` left the window
pub record Takes (old new : Place) (result : Result ℕ TokenFault) : Type 0 where
  pub moves : Moves old new
  pub line : new.line ≡ old.line
  pub standing : new.standing ≡ old.standing
  pub fresh : new.fresh ≡ old.fresh
  pub holds : Holds new result

-- the same lines from two places
pub record Same (old : Place) (bytes : List ℕ) (new : Place) (rest : List ℕ) : Type 0 where
  pub present : present new rest ≡ present old bytes
  pub behind : SameLater old bytes new rest

-- the place after the first word of the present line
pub record Next (old : Place) (bytes : List ℕ) (new : Place) (rest : List ℕ) : Type 0 where
  pub present : present new rest ≡ (let line = present old bytes in record line { words = without_first line.words })
  pub behind : SameLater old bytes new rest

-- ---- The next line

-- two places of one stream with the same lines behind the present one, but for the words of a comment that is passed over
-- in part
pub record SameBehind (old : Place) (bytes : List ℕ) (new : Place) (rest : List ℕ) : Type 0 where
  pub lines : but_comment (lines_behind new rest) ≡ but_comment (lines_behind old bytes)
  pub cut : is_cut new rest ≡ is_cut old bytes
  pub last : last_line new rest ≡ last_line old bytes
  pub passed : Passed old bytes new rest

-- what is passed over leaves the same content, whatever is behind what is held
pub record Skips (old new : Place) : Type 0 where
  pub passed : old.passed < new.passed
  pub fresh : new.fresh ≡ false
  pub content : (b : List ℕ) → SameBehind old (old.held ++ b) new (new.held ++ b)

-- the window stands before the first word of the line that came first
pub record EntersLine (old : Place) (bytes : List ℕ) (new : Place) (rest : List ℕ) : Type 0 where
  pub lines : following old bytes ≡ present new rest ∷ following new rest
  pub content : has_content (present new rest).words ≡ true
  pub cut : is_cut new rest ≡ is_cut old bytes
  pub last : last_line new rest ≡ last_line old bytes
  pub passed : Passed old bytes new rest

pub record Enters (old new : Place) : Type 0 where
  pub standing : new.standing ≡ Content
  pub fresh : new.fresh ≡ true
  pub lines : (b : List ℕ) → EntersLine old (old.held ++ b) new (new.held ++ b)
