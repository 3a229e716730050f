-- Lemmas that are deleted one after another.
use Rattle.std.proofs.Common.{◌≡◌, ◌≢◌, ℕ, ◌+◌, ◌<◌, ◌≤◌, ◌⊎◌, Bool, true, false, nat_eq, not, List, [], ◌∷◌, ◌++◌, Contains, Option, Some, None, refl, sym, ap, ◌∙◌, subst, inl, inr, arith, eq-eqb}
use Rattle.std.specs.Prelude.{option_and_then, option_map, unwrap_or}
use Rattle.std.specs.FinMap as finmap
use Rattle.std.proofs.lemmas.Bool.{both_ways, ne_eqb, cases_lt}
use Rattle.std.proofs.lemmas.Option.{same_Some, none-some}
use Rattle.lits.specs.Clause.{has, set_of, is_tautology}
use Rattle.lits.proofs.Members.{any_at, has_at, has_from, not_in_nil}
use Rattle.lits.proofs.Ascending.{same_set-set_of}
use Rattle.lits.proofs.Sets.{same_from, tautology-same}
use Rattle.clause_store.specs.Clauses.{Store, ClauseEntry, Place, IsStore, lits_at}
use Rattle.session_rules.specs.declared.Told.{Told}
use Rattle.session_rules.specs.declared.Told.TheVariants as told
use Rattle.session_rules.specs.declared.LogFault.{LogFault}
use Rattle.propagation.specs.Clauses.{Clauses, active_at, clause_of, clauses_of, if_active}
use Rattle.propagation.proofs.ClausesMap.{get-clauses_of}
use Rattle.propagation.proofs.Changes.{cases}
use Rattle.restore.specs.Resolution.{of_variable, has_variable}
use Rattle.elimination_laws.proofs.Counting.{any_same}
use Rattle.elimination.specs.declared.database.Database.{Database}
use Rattle.elimination.specs.declared.fault.BoardFault.{BoardFault}
use Rattle.elimination.specs.Steps.{TakesEach, Standing, standing, with_at}
use Rattle.elimination.specs.Steps.{if_active as steps_active}
use Rattle.elimination.specs.Databases.{IsDatabase, LeadTo, BreaksOff, HasDeleted}
use Rattle.elimination.specs.Deleting.{IsLemmaWith, AreDeletions, DeletesLemmas}
use Rattle.elimination.proofs.Joining.{takes_joined}
use Rattle.elimination.proofs.Standings.{active-by, same_active}
use Rattle.elimination.proofs.Leading.{none_lead, leads_on, broken_behind}

-- ---- One id

-- a clause of which a literal is stored is active
placed_active : (st : Store) (n : ℕ) (l : ℕ) → Contains (lits_at st n) l → (c : List ℕ) × (active_at (clauses_of st) n ≡ Some c)
placed_active st n l h = by_entry (finmap.get st n) refl
  where
    seen_entry : active_at (clauses_of st) n ≡ option_and_then if_active (option_map clause_of (finmap.get st n))
    seen_entry = ap (option_and_then if_active) (get-clauses_of st n)

    none_there : (o : Option Place) → o ≡ None → Contains (unwrap_or (option_map (λ (p : Place). p.lits) o) []) l → ⊥
    none_there o e m = not_in_nil l (subst (λ (z : Option Place). Contains (unwrap_or (option_map (λ (p : Place). p.lits) z) []) l) e m)

    by_place : (k : ClauseEntry) (o : Option Place) → finmap.get st n ≡ Some k → k.place ≡ o → (c : List ℕ) × (active_at (clauses_of st) n ≡ Some c)
    by_place k None g p = absurd (none_there (option_and_then (λ (h : ClauseEntry). h.place) (finmap.get st n)) (ap (option_and_then (λ (h : ClauseEntry). h.place)) g ∙ p) h)
    by_place k (Some q) g p = let f : option_and_then if_active (option_map clause_of (finmap.get st n)) ≡ Some (k.literals) = rw (g, p) refl in (k.literals, seen_entry ∙ f)

    by_entry : (o : Option ClauseEntry) → finmap.get st n ≡ o → (c : List ℕ) × (active_at (clauses_of st) n ≡ Some c)
    by_entry None g = absurd (none_there (option_and_then (λ (h : ClauseEntry). h.place) (finmap.get st n)) (ap (option_and_then (λ (h : ClauseEntry). h.place)) g) h)
    by_entry (Some k) g = by_place k k.place g refl

module _ (x id : ℕ) (d : Database) (st : Store) (seen : clauses_of st ≡ d.engine.clauses) (shown : (id : ℕ) (c : List ℕ) → active_at d.engine.clauses id ≡ Some c → (l : ℕ) → has (lits_at st id) l ≡ has c l) where
  same_test : (c : List ℕ) → active_at d.engine.clauses id ≡ Some c → has_variable x (lits_at st id) ≡ has_variable x c
  same_test c a = any_same (of_variable x) (lits_at st id) c (same_from (lits_at st id) c (shown id c a))

  pub not_holding : has_variable x (lits_at st id) ≡ false → IsLemmaWith x d id → ⊥
  not_holding n k = both_ways _ n (same_test k.literals k.active ∙ k.holding)

  pub lemma_here : has_variable x (lits_at st id) ≡ true → has d.irredundant id ≡ false → is_tautology (lits_at st id) ≡ false → IsLemmaWith x d id
  lemma_here h n t =
      let q = any_at (of_variable x) (lits_at st id) h in
      let a = placed_active st id q.0 q.1 in
      let b : active_at d.engine.clauses id ≡ Some (a.0) = ap (λ (z : Clauses). active_at z id) (sym seen) ∙ a.1 in
      record {
        literals = a.0;
        active = b;
        holding = sym (same_test a.0 b) ∙ h;
        clean = sym (tautology-same (lits_at st id) a.0 (same_from (lits_at st id) a.0 (shown id a.0 b))) ∙ t;
        redundant = λ m. both_ways _ n (has_from d.irredundant id m);
      }

  pub no_lemma : is_tautology (lits_at st id) ≡ true → IsLemmaWith x d id → ⊥
  no_lemma t k = both_ways _ k.clean (sym (tautology-same (lits_at st id) k.literals (same_from (lits_at st id) k.literals (shown id k.literals k.active))) ∙ t)

pub redundant_not : (x id : ℕ) (d : Database) → has d.irredundant id ≡ true → IsLemmaWith x d id → ⊥
redundant_not x id d h k = k.redundant (has_at d.irredundant id h)

-- a set tells whether its list is a tautology
pub tested : (b : Bool) (set lits stored : List ℕ) → b ≡ is_tautology set → set ≡ set_of lits → lits ≡ stored → b ≡ is_tautology stored
tested b set lits stored t e s = t ∙ ap is_tautology e ∙ tautology-same (set_of lits) lits (same_set-set_of lits) ∙ ap is_tautology s

pub not_false : (b : Bool) → not b ≡ false → b ≡ true
not_false true e = refl
not_false false e = cc e

-- ---- Steps

only_append : (x : ℕ) (ts us : List Told) → AreDeletions x ts → AreDeletions x us → AreDeletions x (ts ++ us)
only_append x [] us h k = k
only_append x (told.Delete id ls ∷ ts) us h k = (h.0, h.1, only_append x ts us h.2 k)
only_append x (told.Lemma id ls hs ∷ ts) us h k = absurd h
only_append x (told.Weaken id ls ∷ ts) us h k = absurd h
only_append x (told.Restore id ls ∷ ts) us h k = absurd h

module _ {L : Type 0} (takes : L → Told → L → Type 0) (x : ℕ) where
  -- no id is asked
  pub none_deleted : (l : L) (d : Database) (n : ℕ) → IsDatabase d → DeletesLemmas takes x l d n n d l
  none_deleted l d n h = record {
    steps = [];
    taken = refl;
    leads = none_lead d;
    sound = h;
    only = tt;
    same = refl;
    stays = λ id m. refl;
    fewer = λ id c a. a;
    gone = λ id le lt. absurd (omega (arith, le, lt));
  }

  -- the id is that of no such lemma
  pub lemma_passed : (l : L) (d : Database) (id : ℕ) → IsDatabase d → (IsLemmaWith x d id → ⊥) → DeletesLemmas takes x l d id (id + 1) d l
  lemma_passed l d id h n = record {
    steps = [];
    taken = refl;
    leads = none_lead d;
    sound = h;
    only = tt;
    same = refl;
    stays = λ id m. refl;
    fewer = λ id c a. a;
    gone = λ j le lt k. n (subst (λ z. IsLemmaWith x d z) (let e : j ≡ id = omega (arith, le, lt) in e) k);
  }

  -- it is, and the lemma is deleted
  module _ (l m : L) (a b : Database) (id : ℕ) (k : IsLemmaWith x a id) (h : HasDeleted takes l a id b m) where
    left_out : (j : ℕ) → j ≢ id → standing b.engine.clauses j ≡ standing a.engine.clauses j
    left_out j ne = let t = ne_eqb j id ne in let r : standing b.engine.clauses j ≡ with_at (standing a.engine.clauses) id None j = h.leads.replayed j in rw t at r

    out : active_at b.engine.clauses id ≡ None
    out = let t = eq-eqb id id refl in let r : standing b.engine.clauses id ≡ with_at (standing a.engine.clauses) id None id = h.leads.replayed id in
        let q : standing b.engine.clauses id ≡ None = rw t at r in active-by b.engine.clauses id ∙ ap (option_and_then steps_active) q

    set_is : k.literals ≡ set_of h.lits
    set_is = same_Some k.literals (set_of h.lits) (sym k.active ∙ active-by a.engine.clauses id ∙ h.leads.due.0.1)

    pub lemma_deleted : DeletesLemmas takes x l a id (id + 1) b m
    lemma_deleted = record {
      steps = told.Delete id h.lits ∷ [];
      taken = (m, h.taken, refl);
      leads = h.leads;
      sound = h.sound;
      only = (
        sym (any_same (of_variable x) (set_of h.lits) h.lits (same_set-set_of h.lits)) ∙ ap (has_variable x) (sym set_is) ∙ k.holding,
        sym (tautology-same (set_of h.lits) h.lits (same_set-set_of h.lits)) ∙ ap is_tautology (sym set_is) ∙ k.clean,
        tt,
      );
      same = h.same;
      stays = λ j c. left_out j (λ e. k.redundant (subst (λ z. Contains a.irredundant z) e c));
      fewer = λ j c u. elim (cases j id) [
        | inl e ↦ absurd (none-some c (sym out ∙ ap (active_at b.engine.clauses) (sym e) ∙ u))
        | inr ne ↦ sym (same_active a.engine.clauses b.engine.clauses j (left_out j ne)) ∙ u
      ];
      gone = λ j le lt q. none-some q.literals (sym out ∙ ap (active_at b.engine.clauses) (let e : id ≡ j = omega (arith, le, lt) in e) ∙ q.active);
    }

  -- ids behind others
  pub deleted_on : (l m n : L) (a b c : Database) (i j k : ℕ) → DeletesLemmas takes x l a i j b m → DeletesLemmas takes x m b j k c n → DeletesLemmas takes x l a i k c n
  deleted_on l m n a b c i j k r s = record {
    steps = r.steps ++ s.steps;
    taken = takes_joined takes l m n r.steps s.steps r.taken s.taken;
    leads = leads_on a b c r.steps s.steps r.leads s.leads;
    sound = s.sound;
    only = only_append x r.steps s.steps r.only s.only;
    same = s.same ∙ r.same;
    stays = λ id u. s.stays id (subst (λ z. Contains z id) (sym r.same) u) ∙ r.stays id u;
    fewer = λ id d u. r.fewer id d (s.fewer id d u);
    gone = λ id le lt q. elim (cases_lt id j) [
      | inl y ↦ r.gone id le y (record { literals = q.literals; active = s.fewer id q.literals q.active; holding = q.holding; clean = q.clean; redundant = λ u. q.redundant (subst (λ z. Contains z id) (sym s.same) u) })
      | inr y ↦ s.gone id y lt q
    ];
  }

  pub broken_deleting : (refuses : L → Told → LogFault → L → Type 0) (l m n : L) (a b : Database) (i j : ℕ) (e : BoardFault) → DeletesLemmas takes x l a i j b m
      → BreaksOff takes refuses (standing b.engine.clauses) m e n → BreaksOff takes refuses (standing a.engine.clauses) l e n
  broken_deleting refuses l m n a b i j e r k = broken_behind takes refuses a b r.steps l m n e r.leads r.taken k
