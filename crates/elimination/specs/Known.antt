-- Clauses with their ids, as the lists of occurrences have them.
use Rattle.std.specs.Prelude.{◌≡◌, ℕ, List, map, Contains, Some, false}
use Rattle.lits.specs.Clause.{is_tautology}
use Rattle.clause_store.specs.Clauses.{Store, lits_at, IsOnce}
use Rattle.resolvents.specs.Held.{AreReserved}
use Rattle.propagation.specs.Clauses.{Clauses, active_at, literals_at}
use Rattle.occurrence_lists.specs.Occurring.{Numbered, StandsFor}

-- the active clauses of these ids, with their ids
abbrev pub numbered : Store → List ℕ → List Numbered
numbered m ids = map (λ id. (id, lits_at m id)) ids

-- a clause may be compared: its variables are reserved, and no literal stands twice
pub record IsComparable (m : Store) (vars id : ℕ) : Type 0 where
  pub reserved : AreReserved vars (lits_at m id)
  pub once : IsOnce (lits_at m id)

abbrev pub AreComparable : Store → ℕ → List ℕ → Type 0
AreComparable m vars ids = (id : ℕ) → Contains ids id → IsComparable m vars id

-- the same by the literal sets that an engine shows
abbrev pub numbered_in : Clauses → List ℕ → List Numbered
numbered_in m ids = map (λ id. (id, literals_at m id)) ids

-- the lists stand for the clauses of these ids, which are active and no tautologies
pub record AreListedBy (m : Clauses) (rows : List (List ℕ)) (ids : List ℕ) : Type 0 where
  pub stands : StandsFor rows (numbered_in m ids)
  pub active : (id : ℕ) → Contains ids id → (c : List ℕ) × (active_at m id ≡ Some c) × (is_tautology c ≡ false)
