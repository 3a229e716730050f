-- How the words and the kinds of their units give the map. Words lie in units of 8. A piece is a run of units: its head has
-- the number of places for literals, the number of literals and the two links, and the literals follow. A slot is the number
-- of a piece's first unit.
use Rattle.std.specs.Prelude.{◌≡◌, ℕ, zero, suc, ◌+◌, ◌*◌, ◌<◌, ◌≤◌, ◌⊎◌, Bool, true, false, nat_lt, if◌then◌else◌, cond, List, [], ◌∷◌, length, slice_index_or, Option, Some, None}
use Rattle.std.specs.FinMap.{from_entries, len}
use Rattle.lit_pool.specs.Limit.{slots_end}
use Rattle.lit_pool.specs.declared.Which.{Which}
use Rattle.lit_pool.specs.declared.Which.TheVariants.{One, Two}
use Rattle.lit_pool.specs.declared.kind.Kind.{Kind}
use Rattle.lit_pool.specs.declared.kind.Kind.TheVariants as kinds
use Rattle.lit_pool.specs.Entry.{Entry, Entries}
use Rattle.lit_pool.specs.Listed.{listed}

-- no entry has more literals
abbrev pub most_literals : ℕ
most_literals = 4294967292

-- the word at a place
abbrev pub word : List ℕ → ℕ → ℕ
word ws i = slice_index_or ws i 0

-- how many places for literals the piece has that begins at a unit
abbrev pub room_in : List ℕ → ℕ → ℕ
room_in ws s = word ws (8 * s)

-- how many literals it has
abbrev pub len_in : List ℕ → ℕ → ℕ
len_in ws s = word ws (8 * s + 1)

-- the link that a word says: none where it is no slot's
abbrev pub link_of_word : ℕ → Option ℕ
link_of_word n = if nat_lt n slots_end then Some n else None

-- the word of a link
abbrev pub word_of_link : Option ℕ → ℕ
word_of_link None = slots_end
word_of_link (Some n) = n

-- the place of a link's word in a head
abbrev pub place_of_link : Which → ℕ
place_of_link One = 2
place_of_link Two = 3

-- so many words from a place on
unfoldable pub words_from : List ℕ → ℕ → ℕ → List ℕ
words_from ws at zero = []
words_from ws at (suc n) = word ws at ∷ words_from ws (suc at) n

-- the entry of the piece at a unit
abbrev pub entry_in : List ℕ → ℕ → Entry
entry_in ws s = record { lits = words_from ws (8 * s + 4) (len_in ws s); one = link_of_word (word ws (8 * s + 2)); two = link_of_word (word ws (8 * s + 3)) }

-- what the units are
abbrev pub kind_at : List Kind → ℕ → Kind
kind_at ks s = slice_index_or ks s kinds.Inside

-- whether a piece begins at a unit of this kind
abbrev pub is_piece : Kind → Bool
is_piece (kinds.Inside) = false
is_piece (kinds.Freed) = true
is_piece (kinds.Live) = true

-- whether it has an entry
abbrev pub is_live : Kind → Bool
is_live (kinds.Inside) = false
is_live (kinds.Freed) = false
is_live (kinds.Live) = true

-- what callers see of the unit with this number
abbrev pub seen : List ℕ → ℕ → Kind → Option Entry
seen ws s k = cond (is_live k) (Some (entry_in ws s)) None

-- what callers see of units, which begin at s
unfoldable pub seen_from : List ℕ → ℕ → List Kind → List (Option Entry)
seen_from ws s [] = []
seen_from ws s (k ∷ ks) = seen ws s k ∷ seen_from ws (suc s) ks

-- the pieces with an entry as a map
unfoldable pub live_pieces : List ℕ → List Kind → Entries
live_pieces ws ks = from_entries (listed 0 (seen_from ws 0 ks))

-- pieces lie within the words, apart from each other, and have places for their literals
pub record ArePieces (ws : List ℕ) (ks : List Kind) : Type 0 where
  pub wide : 8 * length ks ≤ length ws
  pub within : (s : ℕ) → is_piece (kind_at ks s) ≡ true → 8 * s + 4 + room_in ws s ≤ 8 * length ks
  pub apart : (s t : ℕ) → is_piece (kind_at ks s) ≡ true → is_piece (kind_at ks t) ≡ true → s < t → 8 * s + 4 + room_in ws s ≤ 8 * t
  pub fits : (s : ℕ) → is_live (kind_at ks s) ≡ true → len_in ws s ≤ room_in ws s
  pub few : (s : ℕ) → is_live (kind_at ks s) ≡ true → len_in ws s ≤ most_literals

-- what the fields of a pool fulfil
pub record IsPool (ws : List ℕ) (ks : List Kind) (live : ℕ) : Type 0 where
  pub pieces : ArePieces ws ks
  pub counted : live ≡ len (live_pieces ws ks)

-- the words have changed within the piece at a unit alone, and the number of its places stays
pub record IsWithin (s : ℕ) (ws vs : List ℕ) : Type 0 where
  pub long : length vs ≡ length ws
  pub kept : (i : ℕ) → (i ≤ 8 * s) ⊎ (8 * s + 4 + room_in ws s ≤ i) → word vs i ≡ word ws i
