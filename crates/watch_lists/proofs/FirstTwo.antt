-- The first two literals of a list.
use Rattle.std.proofs.Common.{◌≡◌, ℕ, ◌≤◌, ◌⊎◌, List, [], ◌∷◌, length, Some, refl, sym, ap, ◌∙◌, subst, inl, inr, cond, arith, Bool, true, false, nat_eq, eqb-true, eq-eqb}
use Rattle.std.specs.Prelude.{option_and_then, slice_index}
use Rattle.std.proofs.lemmas.Bool.{both_ways, or_cases, or_left, or_right, and_parts, and_from, le-leb}
use Rattle.lits.specs.Clause.{has}
use Rattle.clause_store.specs.Clauses.{Store, IsOnce, IsStore, slot_at, lits_at}
use Rattle.watch_lists.specs.Watched.{is_watch, watch_place}
use Rattle.watch_lists.proofs.Members.{has-here, has-there, differs}
use Rattle.watch_lists.proofs.Placed.{active, lits_placed}

pub first_watch : (ls : List ℕ) → 2 ≤ length ls → is_watch ls (slice_index ls 0) ≡ true
first_watch ls big = and_from _ _ (le-leb 2 (length ls) big) (or_left _ _ (eq-eqb (slice_index ls 0) (slice_index ls 0) refl))

pub second_watch : (ls : List ℕ) → 2 ≤ length ls → is_watch ls (slice_index ls 1) ≡ true
second_watch ls big = and_from _ _ (le-leb 2 (length ls) big) (or_right _ _ (eq-eqb (slice_index ls 1) (slice_index ls 1) refl))

pub has-first : (ls : List ℕ) → 2 ≤ length ls → has ls (slice_index ls 0) ≡ true
has-first [] big = absurd (omega arith)
has-first (a ∷ ls) big = has-here a ls

pub has-second : (ls : List ℕ) → 2 ≤ length ls → has ls (slice_index ls 1) ≡ true
has-second [] big = absurd (omega arith)
has-second (a ∷ []) big = absurd (omega arith)
has-second (a ∷ b ∷ ls) big = has-there a b (b ∷ ls) (has-here b ls)

pub firsts-apart : (ls : List ℕ) → IsOnce ls → 2 ≤ length ls → nat_eq (slice_index ls 1) (slice_index ls 0) ≡ false
firsts-apart [] o big = absurd (omega arith)
firsts-apart (a ∷ []) o big = absurd (omega arith)
firsts-apart (a ∷ b ∷ ls) o big = differs b a (λ e. both_ways _ o.0 (subst (λ z. has (b ∷ ls) z ≡ true) e (has-here b ls)))

-- the literals that are watched
pub watch_cases : (ls : List ℕ) (l : ℕ) → is_watch ls l ≡ true → (slice_index ls 0 ≡ l) ⊎ (slice_index ls 1 ≡ l)
watch_cases ls l h = elim (or_cases _ _ (and_parts _ _ h).1) [ inl e ↦ inl (eqb-true _ _ e) | inr e ↦ inr (eqb-true _ _ e) ]

-- a place is 0 or 1
pub watch_place-low : (ls : List ℕ) (l : ℕ) → watch_place ls l ≤ 1
watch_place-low ls l = by_case (nat_eq (slice_index ls 0) l)
  where
    by_case : (b : Bool) → cond b 0 1 ≤ 1
    by_case true = omega arith
    by_case false = omega arith

pub once-lits : (m : Store) (id s : ℕ) → IsStore m → slot_at m id ≡ Some s → IsOnce (lits_at m id)
once-lits m id s st e =
    let a = active m id s e in
    subst IsOnce (sym (lits_placed m id a.p (ap (option_and_then (λ h. h.place)) a.is ∙ a.place))) (st.same_literals id a.h a.p a.is a.place).1
