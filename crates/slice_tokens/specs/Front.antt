-- A word that stands behind one space, and what is left behind it.
use Rattle.std.specs.Prelude.{◌≡◌, ℕ, ◌<◌, ◌≤◌, Bool, ◌&&◌, nat_eq, List, [], ◌∷◌, length, if◌then◌else◌}
use Rattle.std.specs.List.{prefix_len}
use Rattle.slice_tokens.specs.Place.{Place, present}
use Rattle.slice_tokens.specs.Due.{due, due_word}
use Rattle.slice_tokens.specs.Calls.{SameLater, without_first, begins_line_feed, stands_in_content}
use Rattle.slice_tokens.specs.Held.{is_word_byte, readable}

-- some bytes without the space in front; none where another byte stands there
abbrev pub without_space : List ℕ → List ℕ
without_space [] = []
without_space (b ∷ bs) = if nat_eq b 32 then bs else []

-- the bytes behind one space that are held and may be read, where the window is in a content line
abbrev pub behind_space : Place → List ℕ
behind_space place = if stands_in_content place.standing then without_space (readable place) else []

-- the bytes that are held and may be read, where the window is in a content line
abbrev pub coming : Place → List ℕ
coming place = if stands_in_content place.standing then readable place else []

-- the first n of some bytes are a whole word of at most 32 bytes
pub record IsWordFront (bytes : List ℕ) (n : ℕ) : Type 0 where
  pub some : 0 < n
  pub short : n ≤ 32
  pub within : n < length bytes
  pub word : prefix_len is_word_byte bytes ≡ n

-- a word that was due was taken off the present line
pub record TakesWord (word : List ℕ) (old : Place) (bytes : List ℕ) (new : Place) (rest : List ℕ) : Type 0 where
  pub due : due (present old bytes) ≡ due_word word
  pub present : present new rest ≡ (let line = present old bytes in record line { words = without_first line.words })
  pub behind : SameLater old bytes new rest

-- whether a line feed comes next in a content line, among the bytes that are held and may be read
abbrev pub at_line_feed : Place → Bool
at_line_feed place = stands_in_content place.standing && begins_line_feed (readable place)
