-- The three loops over a list of ids.
use Rattle.std.proofs.Common.{◌≡◌, ℕ, ◌+◌, ◌<◌, ◌≤◌, Bool, true, false, List, length, take, get_or, Some, None, refl, sym, ◌∙◌, subst, Contains}
use Rattle.std.specs.FinMap as finmap
use Rattle.session_rules.specs.declared.LStep.{LStep}
use Rattle.session_rules.specs.declared.LStep.TheVariants as lsteps
use Rattle.session_rules.specs.declared.Standing.{Standing}
use Rattle.session_rules.specs.declared.Standing.TheVariants.{Active, Weakened, Absent}
use Rattle.session_rules.specs.Own as own
use Rattle.clause_store.specs.declared.StoreFault.{StoreFault}
use Rattle.clause_store.specs.declared.StoreFault.TheVariants.{NotActive, NotWeakened, Memory}
use Rattle.clause_store.specs.Clauses as store
use Rattle.clause_store.specs.Clauses.{Store, literals_at}
use Rattle.std.proofs.lemmas.Option.{same_Some}
use Rattle.side_laws.specs.ClauseStates.{kept, clauses_of_store, standing_of, AreWithin}
use Rattle.side_laws.proofs.Ids.{holds_deleted, holds_weakened, holds_restored}
use Rattle.side_laws.proofs.Stores.{active-store, weakened-store, get-active, get-weakened, store_deleted, store_weakened, store_restored, within-change}
use Rattle.side_laws.proofs.Turns.{IsKind, Went, went-start, went-stop, went-on, went-all, went-end}
use Rattle.pair_matcher.specs.Turns.{Turned}

module _ (step : List ℕ → LStep) (is_so : Standing → Bool) (left : Standing) (kind : IsKind step left) where
  turned-stop : (old now new : Store) (ids : List ℕ) (i : ℕ) → Went step is_so left (clauses_of_store old) (clauses_of_store now) ids i → i < length ids
      → is_so (standing_of (finmap.get (clauses_of_store now) (get_or ids i 0))) ≡ false → Turned step is_so left old new ids (Some (i + 1))
  turned-stop old now new ids i went lt f = record {
    first = λ ps h. sym (went-stop step is_so left kind (clauses_of_store old) (clauses_of_store now) ids i went lt f ps h);
    holds = tt;
  }

  turned-end : (old now : Store) (ids : List ℕ) (i : ℕ) → Went step is_so left (clauses_of_store old) (clauses_of_store now) ids i → length ids ≤ i → Turned step is_so left old now ids None
  turned-end old now ids i went ge = record {
    first = λ ps h. sym (went-all step is_so left kind (clauses_of_store old) (clauses_of_store now) ids i went ge ps h);
    holds = λ ps h. went-end step is_so left kind (clauses_of_store old) (clauses_of_store now) ids i went ge ps h;
  }

-- the variables stay within where the last call left the store
pub within-kept : (old now new : Store) (vars : ℕ) → ((v : ℕ) → AreWithin (clauses_of_store old) v → AreWithin (clauses_of_store now) v) → new ≡ now → AreWithin (clauses_of_store old) vars → AreWithin (clauses_of_store new) vars
within-kept old now new vars h same w = subst (λ m. AreWithin (clauses_of_store m) vars) (sym same) (h vars w)

-- ---- Deletions

pub deletes : IsKind lsteps.Delete Absent
deletes = record { gives = λ is. refl; names = λ is. refl }

pub delete-start : (m : Store) (ids : List ℕ) → Went lsteps.Delete own.is_active Absent (clauses_of_store m) (clauses_of_store m) ids 0
delete-start m ids = went-start lsteps.Delete own.is_active Absent deletes (clauses_of_store m) ids

module _ (old now new : Store) (ids : List ℕ) (i : ℕ) (went : Went lsteps.Delete own.is_active Absent (clauses_of_store old) (clauses_of_store now) ids i) where
  pub delete-stop : i < length ids → store.is_active now (get_or ids i 0) ≡ false → Turned lsteps.Delete own.is_active Absent old new ids (Some (i + 1))
  delete-stop lt f = turned-stop lsteps.Delete own.is_active Absent deletes old now new ids i went lt (sym (active-store now (get_or ids i 0)) ∙ f)

  pub delete-on : i < length ids → new ≡ finmap.remove now (get_or ids i 0) → store.is_active now (get_or ids i 0) ≡ true
      → Went lsteps.Delete own.is_active Absent (clauses_of_store old) (clauses_of_store new) ids (i + 1)
  delete-on lt e active = let id = get_or ids i 0 in let change = store_deleted now new id e in
      went-on lsteps.Delete own.is_active Absent deletes (clauses_of_store old) (clauses_of_store now) ids i went lt (clauses_of_store new) (sym (active-store now id) ∙ active)
      (λ ps h. holds_deleted (clauses_of_store now) (clauses_of_store new) ps (take i ids) id change h)
      (λ vars w. within-change (clauses_of_store now) (clauses_of_store new) id vars None change (λ k f. cc f) w)

pub delete-end : (old now : Store) (ids : List ℕ) (i : ℕ) → Went lsteps.Delete own.is_active Absent (clauses_of_store old) (clauses_of_store now) ids i → length ids ≤ i
    → Turned lsteps.Delete own.is_active Absent old now ids None
delete-end old now ids i went ge = turned-end lsteps.Delete own.is_active Absent deletes old now ids i went ge

-- ---- Weakenings

pub weakens : IsKind lsteps.Weaken Weakened
weakens = record { gives = λ is. refl; names = λ is. refl }

pub weaken-start : (m : Store) (ids : List ℕ) → Went lsteps.Weaken own.is_active Weakened (clauses_of_store m) (clauses_of_store m) ids 0
weaken-start m ids = went-start lsteps.Weaken own.is_active Weakened weakens (clauses_of_store m) ids

module _ (old now new : Store) (ids : List ℕ) (i : ℕ) (went : Went lsteps.Weaken own.is_active Weakened (clauses_of_store old) (clauses_of_store now) ids i) where
  pub weaken-stop : i < length ids → store.is_active now (get_or ids i 0) ≡ false → Turned lsteps.Weaken own.is_active Weakened old new ids (Some (i + 1))
  weaken-stop lt f = turned-stop lsteps.Weaken own.is_active Weakened weakens old now new ids i went lt (sym (active-store now (get_or ids i 0)) ∙ f)

  pub weaken-on : i < length ids → new ≡ finmap.insert now (get_or ids i 0) (store.weakened_entry (literals_at now (get_or ids i 0)) (store.kept_at now (get_or ids i 0))) → store.is_active now (get_or ids i 0) ≡ true
      → Went lsteps.Weaken own.is_active Weakened (clauses_of_store old) (clauses_of_store new) ids (i + 1)
  weaken-on lt e active = let id = get_or ids i 0 in let ls = literals_at now id in let change = store_weakened now new id ls (store.kept_at now id) e in let was = get-active now id active in
      went-on lsteps.Weaken own.is_active Weakened weakens (clauses_of_store old) (clauses_of_store now) ids i went lt (clauses_of_store new) (sym (active-store now id) ∙ active)
      (λ ps h. holds_weakened (clauses_of_store now) (clauses_of_store new) ps (take i ids) id true ls was change h)
      (λ vars w. within-change (clauses_of_store now) (clauses_of_store new) id vars (Some (kept false ls)) change
      (λ k f l n. w id (kept true ls) was l (subst (λ z. Contains z.literals l) (sym (same_Some _ _ f)) n)) w)

pub weaken-end : (old now : Store) (ids : List ℕ) (i : ℕ) → Went lsteps.Weaken own.is_active Weakened (clauses_of_store old) (clauses_of_store now) ids i → length ids ≤ i
    → Turned lsteps.Weaken own.is_active Weakened old now ids None
weaken-end old now ids i went ge = turned-end lsteps.Weaken own.is_active Weakened weakens old now ids i went ge

-- ---- Restorations

pub restores : IsKind lsteps.Restore Active
restores = record { gives = λ is. refl; names = λ is. refl }

pub restore-start : (m : Store) (ids : List ℕ) → Went lsteps.Restore own.is_weakened Active (clauses_of_store m) (clauses_of_store m) ids 0
restore-start m ids = went-start lsteps.Restore own.is_weakened Active restores (clauses_of_store m) ids

module _ (old now new : Store) (ids : List ℕ) (i : ℕ) (went : Went lsteps.Restore own.is_weakened Active (clauses_of_store old) (clauses_of_store now) ids i) where
  pub restore-stop : i < length ids → store.is_weakened now (get_or ids i 0) ≡ false → Turned lsteps.Restore own.is_weakened Active old new ids (Some (i + 1))
  restore-stop lt f = turned-stop lsteps.Restore own.is_weakened Active restores old now new ids i went lt (sym (weakened-store now (get_or ids i 0)) ∙ f)

  pub restore-on : i < length ids → store.IsRestored now (get_or ids i 0) new → store.is_weakened now (get_or ids i 0) ≡ true
      → Went lsteps.Restore own.is_weakened Active (clauses_of_store old) (clauses_of_store new) ids (i + 1)
  restore-on lt e weakened = let id = get_or ids i 0 in let ls = literals_at now id in let change = store_restored now new id e in let was = get-weakened now id weakened in
      went-on lsteps.Restore own.is_weakened Active restores (clauses_of_store old) (clauses_of_store now) ids i went lt (clauses_of_store new) (sym (weakened-store now id) ∙ weakened)
      (λ ps h. holds_restored (clauses_of_store now) (clauses_of_store new) ps (take i ids) id false ls was change h)
      (λ vars w. within-change (clauses_of_store now) (clauses_of_store new) id vars (Some (kept true ls)) change
      (λ k f l n. w id (kept false ls) was l (subst (λ z. Contains z.literals l) (sym (same_Some _ _ f)) n)) w)

pub restore-end : (old now : Store) (ids : List ℕ) (i : ℕ) → Went lsteps.Restore own.is_weakened Active (clauses_of_store old) (clauses_of_store now) ids i → length ids ≤ i
    → Turned lsteps.Restore own.is_weakened Active old now ids None
restore-end old now ids i went ge = turned-end lsteps.Restore own.is_weakened Active restores old now ids i went ge

-- a fault of a rule isn't want of memory
pub not_by_memory : (b : Bool) (e rule : StoreFault) → e ≡ rule → (rule ≡ Memory → ⊥) → (b ≡ true → e ≡ Memory) → b ≡ false
not_by_memory true e rule is other h = absurd (other (sym is ∙ h refl))
not_by_memory false e rule is other h = refl

pub not_memory_active : NotActive ≡ Memory → ⊥
not_memory_active e = cc

pub not_memory_weakened : NotWeakened ≡ Memory → ⊥
not_memory_weakened e = cc
