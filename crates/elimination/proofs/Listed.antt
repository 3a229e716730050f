-- An active clause in the lists of its literals.
use Rattle.std.proofs.Common.{◌≡◌, ℕ, ◌+◌, ◌*◌, ◌<◌, ◌≤◌, Bool, true, false, List, [], ◌∷◌, ◌++◌, length, Contains, Option, None, Some, refl, sym, ap, ◌∙◌, subst, inl, inr, arith}
use Rattle.std.specs.Prelude.{option_and_then, option_map, unwrap_or, if◌then◌else◌}
use Rattle.std.specs.FinMap as finmap
use Rattle.std.proofs.lemmas.Bool.{cases_Bool}
use Rattle.lits.specs.Literal.{var}
use Rattle.lits.specs.Clause.{has}
use Rattle.lits.proofs.Members.{has_at}
use Rattle.clause_store.specs.Clauses.{Store, ClauseEntry, Place, IsStore, IsOnce, lits_at}
use Rattle.propagation.specs.Clauses.{Clauses, active_at, literals_at}
use Rattle.propagation.specs.Engine.{EngineView, IsEngine}
use Rattle.propagation.proofs.Changes.{literals-reserved}
use Rattle.occurrence_lists.specs.Occurring.{row, AreListed, IsAdded}
use Rattle.elimination.proofs.Seen.{literals-active}

-- the list of a stored clause has each literal once
pub once_stored : (m : Store) (id : ℕ) → IsStore m → IsOnce (lits_at m id)
once_stored m id s = by_entry (finmap.get m id) refl
  where
    by_place : (h : ClauseEntry) (o : Option Place) → finmap.get m id ≡ Some h → h.place ≡ o → IsOnce (unwrap_or (option_map (λ (p : Place). p.lits) o) [])
    by_place h None g e = tt
    by_place h (Some p) g e = (s.same_literals id h p g e).1

    by_entry : (o : Option ClauseEntry) → finmap.get m id ≡ o → IsOnce (lits_at m id)
    by_entry None g = subst (λ (z : Option ClauseEntry). IsOnce (unwrap_or (option_map (λ (p : Place). p.lits) (option_and_then (λ (h : ClauseEntry). h.place) z)) [])) (sym g) tt
    by_entry (Some h) g = subst (λ (z : Option ClauseEntry). IsOnce (unwrap_or (option_map (λ (p : Place). p.lits) (option_and_then (λ (h : ClauseEntry). h.place) z)) [])) (sym g) (by_place h h.place g refl)

module _ (e : EngineView) (st : Store) (id : ℕ) (a : (c : List ℕ) × (active_at e.clauses id ≡ Some c)) (shown : (id : ℕ) (c : List ℕ) → active_at e.clauses id ≡ Some c → (l : ℕ) → has (lits_at st id) l ≡ has c l) where
  pub stored_has : (l : ℕ) → has (lits_at st id) l ≡ has (literals_at e.clauses id) l
  stored_has l = shown id a.0 a.1 l ∙ ap (λ z. has z l) (sym (literals-active e.clauses id a.0 a.1))

  pub stored_listed : (rows : List (List ℕ)) → IsEngine e → 2 * e.vars ≤ length rows → AreListed rows (lits_at st id)
  stored_listed rows en wide = λ l h. let small = literals-reserved e id l en (has_at (literals_at e.clauses id) l (sym (stored_has l) ∙ h)) in omega (arith, small, wide)

pub added_same : (old new : List (List ℕ)) (id : ℕ) (c d : List ℕ) → ((l : ℕ) → has c l ≡ has d l) → IsAdded old id c new → IsAdded old id d new
added_same old new id c d h a = record { sized = a.sized; rows = λ l. a.rows l ∙ ap (λ b. if b then row old l ++ id ∷ [] else row old l) (h l) }
