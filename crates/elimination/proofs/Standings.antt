-- What is seen of a clause is seen of its standing.
use Rattle.std.proofs.Common.{◌≡◌, ◌≢◌, ℕ, Bool, true, false, nat_eq, ◌&&◌, List, [], Option, Some, None, is_some, refl, sym, ap, ◌∙◌, subst, inl, inr, arith, eq-eqb}
use Rattle.std.specs.Prelude.{is_none, option_map, option_and_then, unwrap_or}
use Rattle.std.specs.FinMap as finmap
use Rattle.std.specs.FinMap.{get-insert, get-remove}
use Rattle.std.specs.Ordering.{nat_cmp}
use Rattle.std.specs.Cmp.{nat_cmp_total}
use Rattle.std.proofs.lemmas.Bool.{cases_Bool, both_ways, ne_eqb}
use Rattle.std.proofs.lemmas.Option.{same_Some, none-some}
use Rattle.propagation.specs.Clauses.{Clauses, Clause, active_at, literals_at, slot_of, is_weakened}
use Rattle.propagation.specs.Clauses as seen
use Rattle.propagation.proofs.Changes.{ties, differs, cases}
use Rattle.elimination.specs.Steps.{Standing, standing_of, standing, active_in, weakened_in, with_at, if_active, if_weakened}

pub active-by : (m : Clauses) (id : ℕ) → active_at m id ≡ active_in (standing m) id
active-by m id = by_entry (finmap.get m id)
  where
    by_entry : (o : Option Clause) → option_and_then seen.if_active o ≡ option_and_then if_active (option_map standing_of o)
    by_entry None = refl
    by_entry (Some c) = refl

pub weakened-by : (m : Clauses) (id : ℕ) → is_weakened m id ≡ is_some (weakened_in (standing m) id)
weakened-by m id = by_entry (finmap.get m id)
  where
    by_slot : (ls : List ℕ) (o : Option ℕ) → (true && is_none o) ≡ is_some (if_weakened (record { literals = ls; active = is_some o }))
    by_slot ls None = refl
    by_slot ls (Some s) = refl

    by_entry : (o : Option Clause) → (is_some o && is_none (option_and_then (λ (c : Clause). c.slot) o)) ≡ is_some (option_and_then if_weakened (option_map standing_of o))
    by_entry None = refl
    by_entry (Some c) = by_slot c.literals c.slot

pub key-by : (m : Clauses) (id : ℕ) → finmap.contains_key m id ≡ is_some (standing m id)
key-by m id = by_entry (finmap.get m id)
  where
    by_entry : (o : Option Clause) → is_some o ≡ is_some (option_map standing_of o)
    by_entry None = refl
    by_entry (Some c) = refl

-- the literals of a standing
abbrev literals_in : Option Standing → List ℕ
literals_in o = unwrap_or (option_map (λ (s : Standing). s.literals) o) []

literals-by : (m : Clauses) (id : ℕ) → literals_at m id ≡ literals_in (standing m id)
literals-by m id = by_entry (finmap.get m id)
  where
    by_entry : (o : Option Clause) → unwrap_or (option_map (λ (c : Clause). c.literals) o) [] ≡ literals_in (option_map standing_of o)
    by_entry None = refl
    by_entry (Some c) = refl

-- the set of a weakened clause
pub weakened_set : (m : Clauses) (id : ℕ) → is_weakened m id ≡ true → weakened_in (standing m) id ≡ Some (literals_at m id)
weakened_set m id h = by_standing (standing m id) (sym (weakened-by m id) ∙ h) ∙ ap Some (sym (literals-by m id))
  where
    by_standing : (o : Option Standing) → is_some (option_and_then if_weakened o) ≡ true → option_and_then if_weakened o ≡ Some (literals_in o)
    by_standing None h = cc h
    by_standing (Some s) h = elim (cases_Bool s.active) [
      | inl y ↦ let f : false ≡ true = rw y at h in cc f
      | inr n ↦ rw n refl
    ]

module _ (m : Clauses) (id : ℕ) (c : List ℕ) (h : weakened_in (standing m) id ≡ Some c) where
  pub weakened_literals : literals_at m id ≡ c
  weakened_literals = literals-by m id ∙ by_standing (standing m id) h
    where
      by_standing : (o : Option Standing) → option_and_then if_weakened o ≡ Some c → literals_in o ≡ c
      by_standing None w = cc w
      by_standing (Some s) w = elim (cases_Bool s.active) [
        | inl y ↦ let f : None ≡ Some c = rw y at w in absurd (none-some c f)
        | inr n ↦ let f : Some (s.literals) ≡ Some c = rw n at w in same_Some (s.literals) c f
      ]

  pub weakened_inactive : active_at m id ≡ None
  weakened_inactive = active-by m id ∙ by_standing (standing m id) h
    where
      by_standing : (o : Option Standing) → option_and_then if_weakened o ≡ Some c → option_and_then if_active o ≡ None
      by_standing None w = refl
      by_standing (Some s) w = elim (cases_Bool s.active) [
        | inl y ↦ let f : None ≡ Some c = rw y at w in absurd (none-some c f)
        | inr n ↦ rw n refl
      ]

  pub weakened_key : finmap.contains_key m id ≡ true
  weakened_key = key-by m id ∙ by_standing (standing m id) h
    where
      by_standing : (o : Option Standing) → option_and_then if_weakened o ≡ Some c → is_some o ≡ true
      by_standing None w = absurd (none-some c w)
      by_standing (Some s) w = refl

pub active_key : (m : Clauses) (id : ℕ) (c : List ℕ) → active_at m id ≡ Some c → finmap.contains_key m id ≡ true
active_key m id c h = key-by m id ∙ by_standing (standing m id) (sym (active-by m id) ∙ h)
  where
    by_standing : (o : Option Standing) → option_and_then if_active o ≡ Some c → is_some o ≡ true
    by_standing None w = absurd (none-some c w)
    by_standing (Some s) w = refl

-- ---- The same standing

module _ (m n : Clauses) (id : ℕ) (e : standing n id ≡ standing m id) where
  pub same_literals : literals_at n id ≡ literals_at m id
  same_literals = literals-by n id ∙ ap literals_in e ∙ sym (literals-by m id)

  pub same_active : active_at n id ≡ active_at m id
  same_active = active-by n id ∙ ap (option_and_then if_active) e ∙ sym (active-by m id)

  pub same_weakened : is_weakened n id ≡ is_weakened m id
  same_weakened = weakened-by n id ∙ ap (λ (o : Option Standing). is_some (option_and_then if_weakened o)) e ∙ sym (weakened-by m id)

  pub same_key : finmap.contains_key n id ≡ finmap.contains_key m id
  same_key = key-by n id ∙ ap is_some e ∙ sym (key-by m id)

-- ---- A known standing

module _ (m : Clauses) (id : ℕ) (c : List ℕ) where
  pub active_from : standing m id ≡ Some (record { literals = c; active = true }) → active_at m id ≡ Some c
  active_from e = active-by m id ∙ ap (option_and_then if_active) e

  pub literals_from : (b : Bool) → standing m id ≡ Some (record { literals = c; active = b }) → literals_at m id ≡ c
  literals_from b e = literals-by m id ∙ ap literals_in e

-- ---- One clause is put

module _ (m : Clauses) (id : ℕ) (c : Clause) where
  pub standing_put : standing (finmap.insert m id c) id ≡ Some (standing_of c)
  standing_put = rw (get-insert nat_cmp_total, ties id) refl

  pub standing_other : (q : ℕ) → q ≢ id → standing (finmap.insert m id c) q ≡ standing m q
  standing_other q ne = rw (get-insert nat_cmp_total, differs q id ne) refl

-- one clause is taken out
module _ (m : Clauses) (id : ℕ) where
  pub standing_removed : standing (finmap.remove m id) id ≡ None
  standing_removed = rw (get-remove nat_cmp_total, ties id) refl

  pub standing_left : (q : ℕ) → q ≢ id → standing (finmap.remove m id) q ≡ standing m q
  standing_left q ne = rw (get-remove nat_cmp_total, differs q id ne) refl

pub standing_at : (m n : Clauses) (id : ℕ) (s : Option Standing) → standing n id ≡ s → ((q : ℕ) → q ≢ id → standing n q ≡ standing m q) → (q : ℕ) → standing n q ≡ with_at (standing m) id s q
standing_at m n id s e o q = elim (cases q id) [
  | inl y ↦ let t = eq-eqb q id y in let f : standing n q ≡ s = ap (standing n) y ∙ e in rw t f
  | inr ne ↦ let t = ne_eqb q id ne in rw t (o q ne)
]
