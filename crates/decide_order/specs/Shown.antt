-- How the list of scores and the list of members are shown to callers.
use Rattle.std.specs.Prelude.{ℕ, suc, List, [], ◌∷◌}
use Rattle.std.specs.Ordering.{nat_cmp}
use Rattle.std.specs.FinMap as scored
use Rattle.std.specs.FinSet as set
use Rattle.decide_order.specs.Placed.{Placed}
use Rattle.decide_order.specs.Ranked.{Ranked}

-- the scores with their variables, of which this is the first
abbrev pub scores_from : ℕ → List ℕ → List (ℕ × ℕ)
scores_from v [] = []
scores_from v (s ∷ ss) = (v, s) ∷ scores_from (suc v) ss

unfoldable pub score_map : List ℕ → scored.FinMap nat_cmp ℕ
score_map ss = scored.from_entries (scores_from 1 ss)

unfoldable pub member_set : List ℕ → set.FinSet nat_cmp
member_set xs = set.from_list xs

abbrev pub shown : List ℕ → Placed → Ranked
shown ss placed = record { reserved = placed.reserved; scores = score_map ss; members = member_set placed.items }
