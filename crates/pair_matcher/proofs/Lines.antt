-- What the loop over a proof's lines keeps.
use Rattle.std.proofs.Common.{ℕ, ◌+◌, ◌^◌, ◌≤◌, List, Option}
use Rattle.pair_matcher.specs.Checks.{BothTold}

-- what was known of the streams at the start is known of what is left, and the numbers are bounded by the bytes passed over
pub record Taking (before after : List ℕ → List ℕ → List ℕ → List ℕ → Type 0) (interaction_old proof_old interaction_new proof_new : Option (List ℕ)) (id how_many passed : ℕ) (faults_old faults_new other_old other_new : ℕ) : Type 0 where
  pub told : (a b : Option (List ℕ)) → BothTold a interaction_old b proof_old before → BothTold a interaction_new b proof_new after
  pub next : id ≤ 1 + passed
  pub queries : how_many ≤ passed
  pub bound : passed ≤ 2 ^ 62
  pub faults : faults_old ≤ faults_new
  pub other : other_old ≤ other_new
