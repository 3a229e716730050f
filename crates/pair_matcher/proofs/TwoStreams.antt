-- Calls over two streams, each of which tells its bytes or doesn't: what is known of both is moved on by what a call says of one.
use Rattle.std.proofs.Common.{◌≡◌, ℕ, List, Option, Some, None, refl, subst}
use Rattle.slice_tokens.specs.Place.{WhereTold}
use Rattle.line_reading.proofs.Joined.{told_then, told_map}
use Rattle.pair_matcher.specs.Checks.{BothTold}

-- a call over the first stream
pub first_moves : (a t u b c : Option (List ℕ)) (P : List ℕ → List ℕ → List ℕ → List ℕ → Type 0) (Q : List ℕ → List ℕ → Type 0) (R : List ℕ → List ℕ → List ℕ → List ℕ → Type 0)
    → BothTold a t b c P → WhereTold t u Q → ((x tx ux y ty : List ℕ) → P x tx y ty → Q tx ux → R x ux y ty) → BothTold a u b c R
first_moves None t u b c P Q R h k f = tt
first_moves (Some x) None u b c P Q R h k f = absurd h
first_moves (Some x) (Some t) None b c P Q R h k f = absurd k
first_moves (Some x) (Some t) (Some u) b c P Q R h k f = told_map b c _ _ h (λ y ty p. f x t u y ty p k)

-- a call over the second
pub second_moves : (a t b c d : Option (List ℕ)) (P : List ℕ → List ℕ → List ℕ → List ℕ → Type 0) (Q : List ℕ → List ℕ → Type 0) (R : List ℕ → List ℕ → List ℕ → List ℕ → Type 0)
    → BothTold a t b c P → WhereTold c d Q → ((x tx y ty uy : List ℕ) → P x tx y ty → Q ty uy → R x tx y uy) → BothTold a t b d R
second_moves None t b c d P Q R h k f = tt
second_moves (Some x) None b c d P Q R h k f = absurd h
second_moves (Some x) (Some t) b c d P Q R h k f = told_then b c d _ _ _ h k (λ y ty uy p q. f x t y ty uy p q)

-- no call
pub both_map : (a t b c : Option (List ℕ)) (P R : List ℕ → List ℕ → List ℕ → List ℕ → Type 0) → BothTold a t b c P → ((x tx y ty : List ℕ) → P x tx y ty → R x tx y ty) → BothTold a t b c R
both_map a t b c P R h f = told_map a t _ _ h (λ x tx k. told_map b c _ _ k (λ y ty p. f x tx y ty p))

-- a call over each
pub both_told : (a t b c : Option (List ℕ)) (P Q : List ℕ → List ℕ → Type 0) (R : List ℕ → List ℕ → List ℕ → List ℕ → Type 0)
    → WhereTold a t P → WhereTold b c Q → ((x tx y ty : List ℕ) → P x tx → Q y ty → R x tx y ty) → BothTold a t b c R
both_told a t b c P Q R h k f = told_map a t _ _ h (λ x tx p. told_map b c _ _ k (λ y ty q. f x tx y ty p q))

-- a stream of these bytes
pub is_told : (o t : Option (List ℕ)) (P : List ℕ → List ℕ → Type 0) → WhereTold o t P → (a : List ℕ) → o ≡ Some a → (ta : List ℕ) × P a ta
is_told o t P h a e = by_rest t (subst (λ x. WhereTold x t P) e h)
  where
    by_rest : (t : Option (List ℕ)) → WhereTold (Some a) t P → (ta : List ℕ) × P a ta
    by_rest None h = absurd h
    by_rest (Some ta) h = (ta, h)

-- what is still to come of it is told too
pub to_come_told : (o t : Option (List ℕ)) (P : List ℕ → List ℕ → Type 0) → WhereTold o t P → (a : List ℕ) → o ≡ Some a → (ta : List ℕ) × (t ≡ Some ta) × P a ta
to_come_told o t P h a e = by_rest t (subst (λ x. WhereTold x t P) e h)
  where
    by_rest : (t : Option (List ℕ)) → WhereTold (Some a) t P → (ta : List ℕ) × (t ≡ Some ta) × P a ta
    by_rest None h = absurd h
    by_rest (Some ta) h = (ta, refl, h)

-- two streams of these bytes, and what is still to come of each
pub record BothKnown (t u : Option (List ℕ)) (P : List ℕ → List ℕ → List ℕ → List ℕ → Type 0) (a b : List ℕ) : Type 0 where
  pub interaction : List ℕ
  pub proof : List ℕ
  pub interaction_told : t ≡ Some interaction
  pub proof_told : u ≡ Some proof
  pub holds : P a interaction b proof

pub both_known : (o t p u : Option (List ℕ)) (P : List ℕ → List ℕ → List ℕ → List ℕ → Type 0) → BothTold o t p u P → (a b : List ℕ) → o ≡ Some a → p ≡ Some b → BothKnown t u P a b
both_known o t p u P h a b e f =
    let first = to_come_told o t (λ a ta. WhereTold p u (λ b tb. P a ta b tb)) h a e in
    let second = to_come_told p u (λ b tb. P a first.0 b tb) first.2 b f in
    record { interaction = first.0; proof = second.0; interaction_told = first.1; proof_told = second.1; holds = second.2 }
