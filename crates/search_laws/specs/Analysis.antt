-- The analysis of a conflict, along the trail from its latest entry on. A true literal is pending while the clause that the
-- hints so far give has its negation, and its entry is yet to be visited.
use Rattle.std.specs.Prelude.{◌≡◌, ◌≢◌, ℕ, Bool, false, ◌&&◌, ◌||◌, ◌⊎◌, List, [], ◌++◌, Contains, Option, Some, None, IsTrue, is_some}
use Rattle.lits.specs.Literal.{neg}
use Rattle.session_rules.specs.Logic.{has, hints_fail_from}
use Rattle.propagation.specs.declared.TrailEntry.{TrailEntry}
use Rattle.propagation.specs.Clauses.{Clauses, slot_of, active_at}
use Rattle.propagation.specs.Engine.{IsOnce, literals}

-- the hints close from every list of true literals that has these
abbrev pub Closing : (ℕ → Option (List ℕ)) → (ℕ → Bool) → List ℕ → Type 0
Closing active need hints = (place : ℕ) (trues : List ℕ) → ((l : ℕ) → IsTrue (need l) → IsTrue (has trues l)) → hints_fail_from active place trues hints ≡ None

-- the negations of the lemma's literals, and the pending literals that are yet to be visited
abbrev pub needed : List TrailEntry → (ℕ → Bool) → List ℕ → ℕ → Bool
needed before pending lemma l = has lemma (neg l) || (has (literals before) l && pending l)

-- the entries that are yet to be visited, the pending literals, the lemma so far, and the hints so far, the last that was found first
pub record IsAnalysed (m : Clauses) (before : List TrailEntry) (pending : ℕ → Bool) (lemma hints : List ℕ) : Type 0 where
  pub closing : Closing (active_at m) (needed before pending lemma) hints
  pub ids_active : (id : ℕ) → IsTrue (has hints id) → IsTrue (is_some (slot_of m id))
  pub no_id_twice : IsOnce hints
  -- no reason of what is left was used
  pub unused : (id r : ℕ) (s : TrailEntry) → IsTrue (has hints id) → Contains before s → s.reason ≡ Some r → slot_of m id ≢ Some r

-- the entry has this active clause as its reason
pub record IsForcedBy (m : Clauses) (s : TrailEntry) (id : ℕ) (c : List ℕ) : Type 0 where
  pub slot : ℕ
  pub reason_is : s.reason ≡ Some slot
  pub slot_is : slot_of m id ≡ Some slot
  pub clause_is : active_at m id ≡ Some c

-- literals that may be left out of a lemma: each has a reason whose other literals are false by kept literals or by ones that
-- may be left out too
abbrev pub AreRedundant : Clauses → List TrailEntry → (ℕ → Bool) → (ℕ → Bool) → Type 0
AreRedundant m ss kept redundant = (s : TrailEntry) → Contains ss s → IsTrue (redundant s.lit) → (id : ℕ) × (c : List ℕ) × IsForcedBy m s id c × ((l : ℕ) → Contains c l → (l ≡ s.lit) ⊎ IsTrue (kept (neg l) || redundant (neg l)))

-- of the pending literals those that aren't redundant have come into the lemma, and the reasons of the redundant ones to the hints
pub record IsMinimised (m : Clauses) (pending kept redundant : ℕ → Bool) (lemma hints : List ℕ) : Type 0 where
  pub more : List ℕ
  pub reasons : List ℕ
  pub analysed : IsAnalysed m [] pending (lemma ++ more) (reasons ++ hints)
  pub left : (l : ℕ) → Contains more l → IsTrue (kept (neg l)) × (redundant (neg l) ≡ false)
