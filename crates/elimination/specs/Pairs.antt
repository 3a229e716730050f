-- The pairs of clauses of which the resolvents are counted.
use Rattle.std.specs.Prelude.{◌≡◌, ℕ, Bool, false, not, ◌&&◌, List, length, map, filter, sum_by, Contains}
use Rattle.std.specs.List.{list_any}
use Rattle.lits.specs.Clause.{is_tautology}
use Rattle.clause_store.specs.Clauses.{Store, lits_at}
use Rattle.restore.specs.Resolution.{resolvent, has_variable}
use Rattle.elimination_laws.specs.Eligible.{stands_in_few, has_few_resolvents}
use Rattle.resolvents.specs.Held.{AreReserved}

-- the lists of the active clauses of these ids
abbrev pub clauses_at : Store → List ℕ → List (List ℕ)
clauses_at m ids = map (lits_at m) ids

-- how many resolvents of a clause with others are no tautologies
abbrev pub found_with : ℕ → List ℕ → List (List ℕ) → ℕ
found_with x c ds = length (filter (λ r. not (is_tautology r)) (map (resolvent x c) ds))

-- the same for each of some clauses
abbrev pub found_pairs : ℕ → List (List ℕ) → List (List ℕ) → ℕ
found_pairs x cs ds = sum_by (λ c. found_with x c ds) cs

-- a clause may be resolved: its variables are reserved, and it is no tautology
pub record IsUsable (m : Store) (vars id : ℕ) : Type 0 where
  pub reserved : AreReserved vars (lits_at m id)
  pub no_tautology : is_tautology (lits_at m id) ≡ false

abbrev pub AreUsable : Store → ℕ → List ℕ → Type 0
AreUsable m vars ids = (id : ℕ) → Contains ids id → IsUsable m vars id

-- what an eligible variable needs of clauses: some clause has it, few clauses have it, and it has few resolvents
abbrev pub may_go : List (List ℕ) → ℕ → Bool
may_go cs x = list_any (has_variable x) cs && (stands_in_few cs x && has_few_resolvents cs x)

-- none of the active clauses of these ids is a tautology
abbrev pub AreClean : Store → List ℕ → Type 0
AreClean m ids = (id : ℕ) → Contains ids id → is_tautology (lits_at m id) ≡ false
