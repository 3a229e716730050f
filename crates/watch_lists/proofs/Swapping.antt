-- A clause's list with two places exchanged.
use Rattle.std.proofs.Common.{◌≡◌, ◌≢◌, ℕ, ◌<◌, List, [], length, Option, Some, None, refl, ap, ◌∙◌, inl, inr, cond, true, false, Bool, nat_eq, eqb-true, eq-eqb}
use Rattle.std.specs.Prelude.{slice_index, option_map, unwrap_or}
use Rattle.std.specs.List.{swap}
use Rattle.std.proofs.lemmas.List.Edits.{swapped_from_swap}
use Rattle.std.proofs.lemmas.Bool.{cases_Bool}
use Rattle.std.specs.FinMap.{get}
use Rattle.clause_store.specs.Clauses.{ClauseEntry, Place, Store, slot_at, place_at, lits_at, literals_at, clause_at, weakened_entry, swapped, with_place, with_swap}
use Rattle.clause_store.proofs.Stored.{get_put}
use Rattle.watch_lists.proofs.Placed.{place-changed, place-kept}

pub swap-slot : (m : Store) (id a b q : ℕ) → slot_at (with_swap m id a b) q ≡ slot_at m q
swap-slot m id a b q = place-kept (λ p. p.slot) m id (swapped a b) q (λ p. refl)

pub swap-lits : (m : Store) (id a b q : ℕ) → lits_at (with_swap m id a b) q ≡ cond (nat_eq id q) (swap (lits_at m q) a b) (lits_at m q)
swap-lits m id a b q = ap (λ o. unwrap_or (option_map (λ p. p.lits) o) []) (place-changed m id (swapped a b) q) ∙ by_case (nat_eq id q) (place_at m q)
  where
    by_case : (c : Bool) (o : Option Place) → unwrap_or (option_map (λ p. p.lits) (cond c (option_map (swapped a b) o) o)) [] ≡ cond c (swap (unwrap_or (option_map (λ p. p.lits) o) []) a b) (unwrap_or (option_map (λ p. p.lits) o) [])
    by_case true None = refl
    by_case true (Some p) = refl
    by_case false o = refl

pub swap-literals : (m : Store) (id a b q : ℕ) → literals_at (with_swap m id a b) q ≡ literals_at m q
swap-literals m id a b q = ap (λ o. unwrap_or (option_map (λ h. h.literals) o) []) (get_put m id (with_place (swapped a b) (clause_at m id)) q) ∙ elim (cases_Bool (nat_eq id q)) [
  | inl y ↦ rw y (held (get m id) ∙ ap (literals_at m) (eqb-true id q y))
  | inr n ↦ rw n refl
]
  where
    held : (o : Option ClauseEntry) → (unwrap_or o (weakened_entry [] 0)).literals ≡ unwrap_or (option_map (λ h. h.literals) o) []
    held None = refl
    held (Some h) = refl

pub swap-place : (m : Store) (id a b : ℕ) (p : Place) → place_at m id ≡ Some p → place_at (with_swap m id a b) id ≡ Some (swapped a b p)
swap-place m id a b p e = place-changed m id (swapped a b) id ∙ ap (λ c. cond c (option_map (swapped a b) (place_at m id)) (place_at m id)) (eq-eqb id id refl) ∙ ap (option_map (swapped a b)) e

pub swap-other : (m : Store) (id a b q : ℕ) → nat_eq id q ≡ false → place_at (with_swap m id a b) q ≡ place_at m q
swap-other m id a b q n = place-changed m id (swapped a b) q ∙ ap (λ c. cond c (option_map (swapped a b) (place_at m q)) (place_at m q)) n

pub at-first : (ls : List ℕ) (a b : ℕ) → a < length ls → b < length ls → slice_index (swap ls a b) a ≡ slice_index ls b
at-first ls a b lt lt2 = (swapped_from_swap ls (swap ls a b) a b 0 lt lt2 refl).0

pub at-second : (ls : List ℕ) (a b : ℕ) → a < length ls → b < length ls → slice_index (swap ls a b) b ≡ slice_index ls a
at-second ls a b lt lt2 = (swapped_from_swap ls (swap ls a b) a b 0 lt lt2 refl).1

pub at-third : (ls : List ℕ) (a b i : ℕ) → a < length ls → b < length ls → i ≢ a → i ≢ b → slice_index (swap ls a b) i ≡ slice_index ls i
at-third ls a b i lt lt2 ne ne2 = (swapped_from_swap ls (swap ls a b) a b 0 lt lt2 refl).2 i ne ne2
