-- What callers see of an order: scores of variables, and which variables are members.
use Rattle.std.specs.Prelude.{◌≡◌, ℕ, zero, suc, ◌+◌, ◌-◌, ◌/◌, ◌^◌, ◌<◌, ◌≤◌, ◌⊎◌, IsTrue, map, max, unwrap_or, refl}
use Rattle.std.specs.Ordering.{nat_cmp}
use Rattle.std.specs.Coded.{Coded, code_by, coded×, coded_ℕ}
use Rattle.std.specs.FinMap as scored
use Rattle.std.specs.FinSet as set

-- the greatest reserved variable, the score of each reserved variable, and the members
pub record Ranked : Type 0 where
  pub reserved : ℕ
  pub scores : scored.FinMap nat_cmp ℕ
  pub members : set.FinSet nat_cmp

-- it is stored as its parts
abbrev pub ranked_code : Coded Ranked
ranked_code =
    code_by (ℕ × (scored.FinMap nat_cmp ℕ × set.FinSet nat_cmp)) (coded× coded_ℕ (coded× (scored.code coded_ℕ coded_ℕ) (set.code coded_ℕ)))
    (λ o. (o.reserved, (o.scores, o.members))) (λ p. record { reserved = p.0; scores = p.1.0; members = p.1.1 }) (λ _. refl)

-- the variable may be used
abbrev pub IsReserved : Ranked → ℕ → Type 0
IsReserved o v = (0 < v) × (v ≤ o.reserved)

-- the variable is a member
abbrev pub IsMember : Ranked → ℕ → Type 0
IsMember o v = IsTrue (set.contains o.members v)

-- the variable's score
abbrev pub score : Ranked → ℕ → ℕ
score o v = unwrap_or (scored.get o.scores v) 0

-- nothing reserved, no score and no member
abbrev pub empty : Ranked
empty = record { reserved = 0; scores = scored.empty; members = set.empty }

-- the scores, with 0 for so many variables behind the last one
abbrev pub with_zeros : scored.FinMap nat_cmp ℕ → ℕ → ℕ → scored.FinMap nat_cmp ℕ
with_zeros scores last zero = scores
with_zeros scores last (suc n) = with_zeros (scored.insert scores (last + 1) 0) (last + 1) n

-- with the variables up to this one, the new ones with the score 0 and no members
abbrev pub with_reserved : Ranked → ℕ → Ranked
with_reserved o vars = record { reserved = max o.reserved vars; scores = with_zeros o.scores o.reserved (vars - o.reserved); members = o.members }

-- with another score for one variable
abbrev pub with_score : Ranked → ℕ → ℕ → Ranked
with_score o v s = record { reserved = o.reserved; scores = scored.insert o.scores v s; members = o.members }

-- each score divided by 2^bits downwards
abbrev pub scaled_scores : scored.FinMap nat_cmp ℕ → ℕ → scored.FinMap nat_cmp ℕ
scaled_scores scores bits = scored.from_entries (map (λ e. (e.0, e.1 / 2 ^ bits)) (scored.entries scores))

abbrev pub scaled : Ranked → ℕ → Ranked
scaled o bits = record { reserved = o.reserved; scores = scaled_scores o.scores bits; members = o.members }

-- with one more member, and without one
abbrev pub with_member : Ranked → ℕ → Ranked
with_member o v = record { reserved = o.reserved; scores = o.scores; members = set.insert o.members v }

abbrev pub without_member : Ranked → ℕ → Ranked
without_member o v = record { reserved = o.reserved; scores = o.scores; members = set.remove o.members v }

-- the variable is a member, and each member has a smaller score, or the same score and is no smaller variable
pub record IsBest (o : Ranked) (v : ℕ) : Type 0 where
  pub member : IsMember o v
  pub best : (w : ℕ) → IsMember o w → (score o w < score o v) ⊎ ((score o w ≡ score o v) × (v ≤ w))
