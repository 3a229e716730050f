-- Clauses as sets. A clause is a list of literals, and its set is what the list holds, without order and repeats.
use Rattle.std.specs.Prelude.{ℕ, Bool, ◌&&◌, nat_eq, nat_lt, if◌then◌else◌, List, [], ◌∷◌}
use Rattle.std.specs.List.{list_any, list_all}
use Rattle.lits.specs.Literal.{neg}

-- whether a list of literals has this one
abbrev pub has : List ℕ → ℕ → Bool
has ls l = list_any (nat_eq l) ls

-- whether each literal of the first is one of the second
abbrev pub is_part : List ℕ → List ℕ → Bool
is_part ls ms = list_all (has ms) ls

-- whether two clauses have the same set of literals
abbrev pub same_set : List ℕ → List ℕ → Bool
same_set c d = is_part c d && is_part d c

-- whether two literals are opposite
abbrev pub is_tautology : List ℕ → Bool
is_tautology c = list_any (λ l. has c (neg l)) c

-- ---- The set of a clause as a list in ascending order

-- an ascending list with one more literal
unfoldable pub with_literal : ℕ → List ℕ → List ℕ
with_literal l [] = l ∷ []
with_literal l (m ∷ ms) = if nat_lt l m then l ∷ m ∷ ms else (if nat_eq l m then m ∷ ms else m ∷ with_literal l ms)

-- the set of a clause: its literals in ascending order of their codes, each once
unfoldable pub set_of : List ℕ → List ℕ
set_of [] = []
set_of (l ∷ ls) = with_literal l (set_of ls)
