-- Clauses one behind another in one list of literals, with a list of the places where each ends.
use Rattle.std.specs.Prelude.{◌≡◌, ℕ, ◌≤◌, List, [], ◌∷◌, slice_range}

-- the clauses from this place on, that end at these places
abbrev pub pieces : List ℕ → ℕ → List ℕ → List (List ℕ)
pieces region start [] = []
pieces region start (end ∷ ends) = slice_range region start end ∷ pieces region end ends

-- the places ascend from this one, and the last is that one
abbrev pub ReachesFrom : ℕ → List ℕ → ℕ → Type 0
ReachesFrom start [] last = start ≡ last
ReachesFrom start (end ∷ ends) last = (start ≤ end) × ReachesFrom end ends last
