-- The clauses that one side of a check keeps, as its callers see them: by id, each active or weakened, with its literal set.
use Rattle.std.specs.Prelude.{◌≡◌, ◌≢◌, ℕ, ◌≤◌, Bool, if◌then◌else◌, List, map, Contains, Option, None, Some, is_some, refl}
use Rattle.std.specs.Ordering.{nat_cmp}
use Rattle.std.specs.FinMap as finmap
use Rattle.std.specs.Coded.{Coded, code_by, coded×, coded_bool, coded_list, coded_ℕ}
use Rattle.session_rules.specs.declared.Standing.{Standing}
use Rattle.session_rules.specs.declared.Standing.TheVariants.{Active, Weakened, Absent}
use Rattle.lits.specs.Literal.{var}
use Rattle.clause_store.specs.Clauses.{ClauseEntry, Store}

-- a clause: whether it is active, else it is weakened, and its literal set as the ascending list
pub record ClauseState : Type 0 where
  pub active : Bool
  pub literals : List ℕ

-- a clause is stored as its parts
abbrev pub kept_code : Coded ClauseState
kept_code = code_by (Bool × List ℕ) (coded× coded_bool (coded_list coded_ℕ)) (λ k. (k.active, k.literals)) (λ p. record { active = p.0; literals = p.1 }) (λ _. refl)

-- the clauses by id
abbrev pub Clauses : Type 0
Clauses = finmap.FinMap nat_cmp ClauseState

abbrev pub clauses_code : Coded Clauses
clauses_code = finmap.code coded_ℕ kept_code

-- a clause of this set that is active, or else weakened
abbrev pub kept : Bool → List ℕ → ClauseState
kept active literals = record { active = active; literals = literals }

-- the clauses of a map whose values say more
unfoldable pub kept_by : {X : Type 0} → (X → ClauseState) → finmap.FinMap nat_cmp X → Clauses
kept_by view m = finmap.from_entries (map (λ e. (e.0, view e.1)) (finmap.entries m))

-- what is seen of a clause of a store
abbrev pub kept_of_held : ClauseEntry → ClauseState
kept_of_held h = kept (is_some h.place) h.literals

-- the clauses of a store
abbrev pub clauses_of_store : Store → Clauses
clauses_of_store m = kept_by kept_of_held m

-- how an id stands by what is kept of it
abbrev pub standing_of : Option ClauseState → Standing
standing_of None = Absent
standing_of (Some k) = if k.active then Active else Weakened

-- the literals of an active clause
abbrev pub active_literals : Option ClauseState → Option (List ℕ)
active_literals None = None
active_literals (Some k) = if k.active then Some k.literals else None

-- the literals of the active clause of an id
abbrev pub active_in : Clauses → ℕ → Option (List ℕ)
active_in m id = active_literals (finmap.get m id)

-- the clauses differ at this id alone, of which the second keeps this
pub record ChangesAt (m n : Clauses) (id : ℕ) (now : Option ClauseState) : Type 0 where
  pub there : finmap.get n id ≡ now
  pub others : (x : ℕ) → x ≢ id → finmap.get n x ≡ finmap.get m x

-- the variables of all clauses are at most this one
abbrev pub AreWithin : Clauses → ℕ → Type 0
AreWithin m vars = (id : ℕ) (k : ClauseState) → finmap.get m id ≡ Some k → (l : ℕ) → Contains k.literals l → var l ≤ vars
