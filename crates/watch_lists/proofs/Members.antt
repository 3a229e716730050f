-- Members of lists, by the test that the definitions use.
use Rattle.std.proofs.Common.{◌≡◌, ◌≢◌, ℕ, suc, zero, ◌<◌, ◌⊎◌, List, [], ◌∷◌, length, arith, refl, subst, inl, inr, true, false, nat_eq, eqb-true, eq-eqb}
use Rattle.std.specs.Prelude.{slice_index}
use Rattle.std.proofs.lemmas.Bool.{both_ways, false_from_ne_true, or_cases, or_left, or_right}
use Rattle.lits.specs.Clause.{has}

pub has-here : (s : ℕ) (ss : List ℕ) → has (s ∷ ss) s ≡ true
has-here s ss = or_left _ _ (eq-eqb s s refl)

pub has-there : (s t : ℕ) (ss : List ℕ) → has ss t ≡ true → has (s ∷ ss) t ≡ true
has-there s t ss h = or_right _ _ h

pub member_cases : (s t : ℕ) (ss : List ℕ) → has (s ∷ ss) t ≡ true → (t ≡ s) ⊎ (has ss t ≡ true)
member_cases s t ss h = elim (or_cases _ _ h) [ inl e ↦ inl (eqb-true t s e) | inr e ↦ inr e ]

pub apart_of : (s t : ℕ) (ss : List ℕ) → has ss s ≡ false → has ss t ≡ true → t ≢ s
apart_of s t ss n h e = both_ways _ n (subst (λ z. has ss z ≡ true) e h)

pub differs : (s t : ℕ) → s ≢ t → nat_eq s t ≡ false
differs s t ne = false_from_ne_true _ (λ e. ne (eqb-true s t e))

pub unlike : (s t : ℕ) → nat_eq s t ≡ false → s ≢ t
unlike s t n e = both_ways _ n (eq-eqb s t e)

pub has-place : (ls : List ℕ) (i : ℕ) → i < length ls → has ls (slice_index ls i) ≡ true
has-place [] i lt = absurd (omega arith)
has-place (x ∷ xs) zero lt = has-here x xs
has-place (x ∷ xs) (suc i) lt = has-there x (slice_index xs i) xs (has-place xs i (omega arith))
