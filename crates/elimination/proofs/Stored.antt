-- The stored list of an active clause has the literals of its set, each once.
use Rattle.std.proofs.Common.{◌≡◌, ℕ, ◌+◌, ◌<◌, true, ◌&&◌, nat_eq, List, [], ◌++◌, Contains, Option, Some, None, Result, Ok, Err, false, refl, sym, ap, ◌∙◌, subst}
use Rattle.std.specs.Prelude.{option_and_then, option_map, is_ok, is_err, if◌then◌else◌}
use Rattle.std.specs.FinMap as finmap
use Rattle.std.proofs.lemmas.Option.{none-some}
use Rattle.lits.specs.Clause.{has, set_of}
use Rattle.clause_store.specs.Clauses.{Store, ClauseEntry, Place, IsStore, lits_at}
use Rattle.session_rules.specs.declared.Told.TheVariants as told
use Rattle.propagation.specs.Clauses.{Clauses, active_at, literals_at, clause_of, clauses_of, if_active}
use Rattle.propagation.specs.Engine.{IsEngine}
use Rattle.propagation.proofs.ClausesMap.{get-clauses_of}
use Rattle.restore.proofs.Joined.{map_from}
use Rattle.occurrence_lists.specs.Occurring.{row, times, one_if, AreListed, IsRemoved}
use Rattle.occurrence_lists.proofs.Standing.{held_is_listed}
use Rattle.elimination.specs.declared.database.Database.{Database}
use Rattle.elimination.specs.Steps.{standing, active_in, IsDue}
use Rattle.elimination.specs.Known.{numbered_in}
use Rattle.elimination.specs.Databases.{IsDatabase}
use Rattle.elimination.proofs.Standings.{active-by}
use Rattle.elimination.proofs.Listed.{once_stored, stored_has, stored_listed}

module _ (st : Store) (stored : IsStore st) (n : ℕ) where
  seen_entry : active_at (clauses_of st) n ≡ option_and_then if_active (option_map clause_of (finmap.get st n))
  seen_entry = ap (option_and_then if_active) (get-clauses_of st n)

  by_place : (c : List ℕ) (h : ClauseEntry) (o : Option Place) → finmap.get st n ≡ Some h → h.place ≡ o → active_at (clauses_of st) n ≡ Some c → active_at (clauses_of st) n ≡ Some (set_of (lits_at st n))
  by_place c h None g p a = let f : option_and_then if_active (option_map clause_of (finmap.get st n)) ≡ None = rw (g, p) refl in absurd (none-some c (sym f ∙ sym seen_entry ∙ a))
  by_place c h (Some q) g p a =
      let e = (stored.same_literals n h q g p).0 in
      let f : option_and_then if_active (option_map clause_of (finmap.get st n)) ≡ Some (set_of (lits_at st n)) = rw (g, p) (ap Some (sym e)) in
      seen_entry ∙ f

  by_entry : (c : List ℕ) (o : Option ClauseEntry) → finmap.get st n ≡ o → active_at (clauses_of st) n ≡ Some c → active_at (clauses_of st) n ≡ Some (set_of (lits_at st n))
  by_entry c None g a = let f : option_and_then if_active (option_map clause_of (finmap.get st n)) ≡ None = rw g refl in absurd (none-some c (sym f ∙ sym seen_entry ∙ a))
  by_entry c (Some h) g a = by_place c h h.place g refl a

-- an active clause has the set of its stored list
pub stored_set : (m : Clauses) (st : Store) (n : ℕ) → clauses_of st ≡ m → IsStore st → (c : List ℕ) × (active_at m n ≡ Some c) → active_at m n ≡ Some (set_of (lits_at st n))
stored_set m st n e stored a = subst (λ z. active_at z n ≡ Some (set_of (lits_at st n))) e (by_entry st stored n a.0 (finmap.get st n) refl (ap (λ z. active_at z n) e ∙ a.1))

-- so it may be told to be deleted or weakened by this list
pub deletion_due : (m : Clauses) (st : Store) (n : ℕ) → clauses_of st ≡ m → IsStore st → (c : List ℕ) × (active_at m n ≡ Some c) → IsDue (standing m) (told.Delete n (lits_at st n))
deletion_due m st n e stored a = (once_stored st n stored, sym (active-by m n) ∙ stored_set m st n e stored a)

pub weakening_due : (m : Clauses) (st : Store) (n : ℕ) → clauses_of st ≡ m → IsStore st → (c : List ℕ) × (active_at m n ≡ Some c) → IsDue (standing m) (told.Weaken n (lits_at st n))
weakening_due m st n e stored a = (once_stored st n stored, sym (active-by m n) ∙ stored_set m st n e stored a)

pub removed_same : (old new : List (List ℕ)) (id : ℕ) (c d : List ℕ) → ((l : ℕ) → has c l ≡ has d l) → IsRemoved old id c new → IsRemoved old id d new
removed_same old new id c d h r = record { sized = r.sized; rows = λ l q. r.rows l q ∙ ap (λ b. times q (row new l) + one_if (b && nat_eq q id)) (h l) }

module _ (d : Database) (h : IsDatabase d) (st : Store) (shown : (id : ℕ) (c : List ℕ) → active_at d.engine.clauses id ≡ Some c → (l : ℕ) → has (lits_at st id) l ≡ has c l) (n : ℕ) (m : Contains d.irredundant n) where
  pub irredundant_active : (c : List ℕ) × (active_at d.engine.clauses n ≡ Some c)
  irredundant_active = let a = h.irredundant.active n m in (a.0, a.1)

  pub irredundant_has : (l : ℕ) → has (lits_at st n) l ≡ has (literals_at d.engine.clauses n) l
  irredundant_has = stored_has d.engine st n irredundant_active shown

  -- the lists have an irredundant clause
  pub listed_there : (l : ℕ) → has (lits_at st n) l ≡ true → 0 < times n (row d.occurrences l)
  listed_there l k = held_is_listed d.occurrences (numbered_in d.engine.clauses d.irredundant) (n, literals_at d.engine.clauses n) l h.listed.stands
      (map_from (λ (id : ℕ). (id, literals_at d.engine.clauses id)) d.irredundant n m) (sym (irredundant_has l) ∙ k)

  pub listed_within : IsEngine d.engine → AreListed d.occurrences (lits_at st n)
  listed_within en = stored_listed d.engine st n irredundant_active shown d.occurrences en h.wide

  pub taken_out : (new : List (List ℕ)) → IsRemoved d.occurrences n (lits_at st n) new → IsRemoved d.occurrences n (literals_at d.engine.clauses n) new
  taken_out new r = removed_same d.occurrences new n (lits_at st n) (literals_at d.engine.clauses n) irredundant_has r

-- a list that was copied into an empty one
pub copied : {F : Type 0} (r : Result (Unit {0}) F) (new old a b : List ℕ) → is_err r ≡ false → new ≡ (if is_ok r then old ++ a else old) → old ≡ [] → a ≡ b → new ≡ b
copied (Ok u) new old a b e n o s = n ∙ ap (λ z. z ++ a) o ∙ s
copied (Err f) new old a b e n o s = cc e
