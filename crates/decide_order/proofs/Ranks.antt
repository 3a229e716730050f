-- What the rank of a variable says of its score.
use Rattle.std.proofs.Common.{◌≡◌, ℕ, ◌+◌, ◌-◌, ◌*◌, ◌^◌, ◌<◌, ◌≤◌, ◌⊎◌, List, ap, arith}
use Rattle.std.specs.Prelude.{slice_index}
use Rattle.decide_order.specs.Heap.{rank}

pub rank_more : (ss : List ℕ) (a b : ℕ) → 0 < b → slice_index ss (b - 1) < slice_index ss (a - 1) → rank ss b < rank ss a
unfolding rank
rank_more ss a b z h = omega arith

pub rank_tie : (ss : List ℕ) (a b : ℕ) → a < 2 ^ 32 → slice_index ss (b - 1) ≡ slice_index ss (a - 1) → a < b → rank ss b < rank ss a
unfolding rank
rank_tie ss a b la e h = omega arith

pub rank_less : (ss : List ℕ) (a b : ℕ) → 0 < a → slice_index ss (a - 1) < slice_index ss (b - 1) → rank ss a ≤ rank ss b
unfolding rank
rank_less ss a b z h = omega arith

pub rank_tied : (ss : List ℕ) (a b : ℕ) → slice_index ss (a - 1) ≡ slice_index ss (b - 1) → b ≤ a → rank ss a ≤ rank ss b
unfolding rank
rank_tied ss a b e h = omega arith

pub rank_best : (ss : List ℕ) (v w : ℕ) → 0 < v → v < 2 ^ 32 → 0 < w → rank ss w ≤ rank ss v
    → (slice_index ss (w - 1) < slice_index ss (v - 1)) ⊎ ((slice_index ss (w - 1) ≡ slice_index ss (v - 1)) × (v ≤ w))
unfolding rank
rank_best ss v w zv lv zw h = split (slice_index ss (w - 1)) (slice_index ss (v - 1)) h
  where
    split : (s t : ℕ) → s * 2 ^ 32 + (2 ^ 32 - w) ≤ t * 2 ^ 32 + (2 ^ 32 - v) → (s < t) ⊎ ((s ≡ t) × (v ≤ w))
    split s t k = grind arith

pub rank_same : (ss tt : List ℕ) (v : ℕ) → slice_index tt (v - 1) ≡ slice_index ss (v - 1) → rank tt v ≡ rank ss v
unfolding rank
rank_same ss tt v e = ap (λ s. s * 2 ^ 32 + (2 ^ 32 - v)) e

pub rank_grown : (ss tt : List ℕ) (v : ℕ) → slice_index ss (v - 1) ≤ slice_index tt (v - 1) → rank ss v ≤ rank tt v
unfolding rank
rank_grown ss tt v h = omega arith
