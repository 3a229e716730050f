-- Scores computed: 5 and 4 divided by 2 are a tie, and no score is beyond the end.
use Rattle.std.proofs.Common.{◌≡◌, ◌+◌, ◌-◌, ◌/◌, ◌^◌, min, ◌∙◌, ap, arith}
use Rattle.decide_order.specs.Ranked.{Ranked, score, empty, with_reserved, with_score, with_member, scaled}
use Rattle.decide_order.proofs.Views.{score-scaled, score-same, score-other}

one : Ranked
one = with_member (with_score (with_reserved empty 2) 1 5) 1

-- the second variable is no member
two : Ranked
two = with_score one 2 4

first : score two 1 ≡ 5
unfolding one two
first = score-other one 2 4 1 (λ e. omega (arith, e)) ∙ score-same (with_reserved empty 2) 1 5

second : score two 2 ≡ 4
unfolding two
second = score-same one 2 4

first_scaled : score (scaled two 1) 1 ≡ 2
first_scaled = score-scaled two 1 1 ∙ ap (λ s. s / 2 ^ 1) first

second_scaled : score (scaled two 1) 2 ≡ 2
second_scaled = score-scaled two 1 2 ∙ ap (λ s. s / 2 ^ 1) second

nothing_is_left : score (scaled two 63) 1 ≡ 0
nothing_is_left = score-scaled two 63 1 ∙ ap (λ s. s / 2 ^ 63) first

raised_to_the_end : min (score two 1 + (2 ^ 64 - 1)) (2 ^ 64 - 1) ≡ 2 ^ 64 - 1
raised_to_the_end = ap (λ s. min (s + (2 ^ 64 - 1)) (2 ^ 64 - 1)) first

raised_by_seven : min (score two 2 + 7) (2 ^ 64 - 1) ≡ 11
raised_by_seven = ap (λ s. min (s + 7) (2 ^ 64 - 1)) second
