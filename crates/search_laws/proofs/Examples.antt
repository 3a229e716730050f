-- The definitions, computed: 1 is assumed, 2 follows, 3 is assumed, and then the lemma of -3 and -1 is asserted.
use Rattle.std.proofs.Common.{◌≡◌, ℕ, List, [], ◌∷◌, ◌++◌, Option, Some, None, refl, arith}
use Rattle.propagation.specs.declared.TrailEntry.{TrailEntry}
use Rattle.propagation.specs.Engine.{literals, up_to_level, level_behind, CameBefore}
use Rattle.search_laws.specs.Asserting.{level_below}
use Rattle.search_laws.specs.Number.{number}

entry : ℕ → Option ℕ → TrailEntry
entry l r = record { lit = l; reason = r }

kept : List TrailEntry
kept = entry 0 None ∷ entry 2 (Some 7) ∷ []

trail : List TrailEntry
trail = entry 0 None ∷ entry 2 (Some 7) ∷ entry 4 None ∷ []

-- the second literal is of level 1, to which the search goes back
goes_back_to_one : level_below trail (5 ∷ 1 ∷ []) ≡ 1
unfolding trail entry level_behind
goes_back_to_one = refl

-- a lemma of one literal is asserted at level 0
unit_at_zero : level_below trail (5 ∷ []) ≡ 0
unit_at_zero = refl

what_is_kept : up_to_level 1 trail ≡ kept
unfolding trail kept entry up_to_level
what_is_kept = refl

-- the first literal fell later than the second
later_first : CameBefore (literals trail) 0 4
unfolding trail entry
later_first = record { place_one = 0; place_two = 2; at_one = refl; at_two = refl; order = omega arith }

-- the digits are 1, 2, 1
before_the_lemma : number 3 trail ≡ 16
unfolding trail entry number
before_the_lemma = refl

-- and 1, 2, 2 behind it
behind_the_lemma : number 3 (kept ++ entry 5 (Some 8) ∷ []) ≡ 17
unfolding kept entry number
behind_the_lemma = refl
