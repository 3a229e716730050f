-- Where a fault stands in the order in which faults count. Places are counted by how many lines or steps stand before.
use Rattle.std.specs.Prelude.{◌≡◌, ℕ, ◌+◌, ◌<◌, ◌⊎◌, List, [], ◌∷◌}

pub data Key : Type 0 where
  interaction_header : Key
  proof_header : Key
  -- the spelling of the proof's line behind k others
  line_spelling : (k : ℕ) → Key
  -- the rule of this number that step k breaks by itself
  own_rule : (k number : ℕ) → Key
  -- step k has no partner, but owes one
  ended : (k : ℕ) → Key
  -- the spelling of the partner of step k behind n others
  partner_spelling : (k n : ℕ) → Key
  -- the rule of this number that step k and its partner behind n others break
  pair_rule : (k n number : ℕ) → Key
  open_query : Key
  further_line : Key

-- a key as numbers: the headers, then each line of the proof in turn, then an open query, and last a further line of the
-- interaction; of one line its spelling, then its own rules by their numbers, and under 20 the partners: 0 where one is missing, else each in turn,
-- its spelling and then the rules by their numbers
abbrev pub rank : Key → List ℕ
rank interaction_header = 1 ∷ []
rank proof_header = 2 ∷ []
rank (line_spelling k) = 3 ∷ k ∷ 1 ∷ []
rank (own_rule k number) = 3 ∷ k ∷ number ∷ []
rank (ended k) = 3 ∷ k ∷ 20 ∷ 0 ∷ []
rank (partner_spelling k n) = 3 ∷ k ∷ 20 ∷ (n + 1) ∷ 1 ∷ []
rank (pair_rule k n number) = 3 ∷ k ∷ 20 ∷ (n + 1) ∷ number ∷ []
rank open_query = 4 ∷ []
rank further_line = 5 ∷ []

-- numbers in the order of a dictionary: at the first place where they differ the number is less, or the first have ended
abbrev pub IsAtMost : List ℕ → List ℕ → Type 0
IsAtMost [] ms = Unit {0}
IsAtMost (n ∷ ns) [] = ⊥
IsAtMost (n ∷ ns) (m ∷ ms) = (n < m) ⊎ ((n ≡ m) × IsAtMost ns ms)

-- one key is another, or comes before it
abbrev pub ComesUpTo : Key → Key → Type 0
ComesUpTo key other = IsAtMost (rank key) (rank other)
