-- Literals that stand one after another at the front of some bytes, each behind one space.
use Rattle.std.specs.Prelude.{◌≡◌, ℕ, ◌+◌, Bool, false, nat_eq, List, [], ◌∷◌, take, drop, Option, Some, None, Ok}
use Rattle.lits.specs.Word.{IsFront}
use Rattle.slice_tokens.specs.Front.{without_space}
use Rattle.line_reading.specs.Kinds.{literal_says}

-- behind a space stands a word of n bytes that says this: a literal, or none, where the 0 at a list's end stands; and behind the
-- word a space or a line's end
pub record IsSpaced (said : Option ℕ) (bytes : List ℕ) (n : ℕ) : Type 0 where
  pub front : IsFront (without_space bytes) n
  pub says : literal_says (take n (without_space bytes)) ≡ Ok said

-- the first n of some bytes are the words of these literals, each behind a space
abbrev pub IsRun : List ℕ → List ℕ → ℕ → Type 0
IsRun [] bytes n = n ≡ 0
IsRun (l ∷ ls) bytes n = (m : ℕ) × (k : ℕ) × IsSpaced (Some l) bytes m × IsRun ls (drop (m + 1) bytes) k × (n ≡ m + 1 + k)

-- the first n of some bytes are these literals and the 0 at their list's end, each behind a space
pub record IsWholeRun (ls bytes : List ℕ) (n : ℕ) : Type 0 where
  pub count : ℕ
  pub run : IsRun ls bytes count
  pub zero : IsSpaced None (drop count bytes) 1
  pub all : n ≡ count + 2

-- whether a space stands in front
abbrev pub begins_with_space : List ℕ → Bool
begins_with_space [] = false
begins_with_space (b ∷ bs) = nat_eq b 32
