-- What callers see of a board, and what holds of every one.
use Rattle.std.specs.Prelude.{◌≡◌, ℕ, ◌<◌, ◌≤◌, ◌^◌, Bool, true, false, nat_eq, List, [], ◌++◌, map, flat_map, Contains, Some, refl}
use Rattle.std.specs.List.{IsDistinct}
use Rattle.std.specs.FinMap as finmap
use Rattle.std.specs.Coded.{Coded, code_by, coded×, coded_list, coded_ℕ}
use Rattle.lits.specs.Clause.{is_tautology, set_of}
use Rattle.propagation.specs.Clauses.{Clauses, active, active_at, literals_at, is_weakened}
use Rattle.propagation.specs.Engine.{EngineView, IsEngine, IsOnce, literals, level_after, no_engine, with_vars, engine_code}
use Rattle.restore.specs.declared.lists.Kept.{Kept}
use Rattle.restore.specs.declared.lists.Elim.{Elim}
use Rattle.restore.specs.Resolution.{has_variable, Entails}
use Rattle.restore.specs.Stack.{KeepsResolvents, stacked}
use Rattle.elimination_laws.specs.Eligible.{eligible}

-- a board: its engine, the ids of its irredundant clauses, its stack, the inputs as they were given, and the next id
pub record BoardView : Type 0 where
  pub engine : EngineView
  pub irredundant : List ℕ
  pub stack : List Elim
  pub inputs : List (List ℕ)
  pub next_id : ℕ

-- a board is stored as its parts, and so are its entries and their clauses
abbrev pub kept_code : Coded Kept
kept_code = code_by (ℕ × List ℕ) (coded× coded_ℕ (coded_list coded_ℕ)) (λ k. (k.id, k.lits)) (λ p. record { id = p.0; lits = p.1 }) (λ _. refl)

abbrev pub elim_code : Coded Elim
elim_code = code_by (ℕ × List Kept) (coded× coded_ℕ (coded_list kept_code)) (λ e. (e.var, e.clauses)) (λ p. record { var = p.0; clauses = p.1 }) (λ _. refl)

abbrev pub board_code : Coded BoardView
board_code =
    code_by (EngineView × (List ℕ × (List Elim × (List (List ℕ) × ℕ)))) (coded× engine_code (coded× (coded_list coded_ℕ) (coded× (coded_list elim_code) (coded× (coded_list (coded_list coded_ℕ)) coded_ℕ))))
    (λ b. (b.engine, (b.irredundant, (b.stack, (b.inputs, b.next_id)))))
    (λ p. record { engine = p.0; irredundant = p.1.0; stack = p.1.1.0; inputs = p.1.1.1.0; next_id = p.1.1.1.1 }) (λ _. refl)

-- the irredundant clauses
abbrev pub irredundant_clauses : BoardView → List (List ℕ)
irredundant_clauses b = map (literals_at b.engine.clauses) b.irredundant

-- the active clauses
abbrev pub active_clauses : BoardView → List (List ℕ)
active_clauses b = active b.engine.clauses

-- the assigned literals
abbrev pub assigned : BoardView → List ℕ
assigned b = literals b.engine.trail

-- whether a variable is eligible on a board: by the trail as it stands
abbrev pub eligible_on : BoardView → List ℕ → ℕ → Bool
eligible_on b frozen x = eligible (irredundant_clauses b) frozen (assigned b) x

-- nothing, with the first id
abbrev pub no_board : BoardView
no_board = record { engine = no_engine; irredundant = []; stack = []; inputs = []; next_id = 1 }

-- the same board with this greatest reserved variable
abbrev pub with_reserved : BoardView → ℕ → BoardView
with_reserved b vars = record { engine = with_vars b.engine vars; irredundant = b.irredundant; stack = b.stack; inputs = b.inputs; next_id = b.next_id }

-- ---- What holds of every board

-- the ids of all entries' clauses
abbrev pub kept_ids : List Elim → List ℕ
kept_ids es = map (λ (k : Kept). k.id) (flat_map (λ (e : Elim). e.clauses) es)

-- the clause of an entry is weakened and no tautology, and its list has the literals of its set, each once
pub record IsWeakenedCopy (m : Clauses) (k : Kept) : Type 0 where
  pub weakened : is_weakened m k.id ≡ true
  pub same : set_of k.lits ≡ literals_at m k.id
  pub once : IsOnce k.lits
  pub clean : is_tautology k.lits ≡ false

-- the irredundant clauses are active, different by id, and no tautologies
pub record AreIrredundant (m : Clauses) (ids : List ℕ) : Type 0 where
  pub once : IsDistinct nat_eq ids
  pub active : (id : ℕ) → Contains ids id → (c : List ℕ) × (active_at m id ≡ Some c) × (is_tautology c ≡ false)

-- the invariant: the engine stands at any level
pub record IsSearched (b : BoardView) : Type 0 where
  pub engine : IsEngine b.engine
  pub kept : KeepsResolvents b.stack (irredundant_clauses b)
  pub implied : (c : List ℕ) → Contains b.inputs c → Entails (stacked b.stack ++ irredundant_clauses b) c
  pub irredundant : AreIrredundant b.engine.clauses b.irredundant
  pub copies : (e : Elim) (k : Kept) → Contains b.stack e → Contains e.clauses k → IsWeakenedCopy b.engine.clauses k
  -- the weakened clauses are those of the entries
  pub whole : (id : ℕ) → is_weakened b.engine.clauses id ≡ true → (e : Elim) × (k : Kept) × Contains b.stack e × Contains e.clauses k × (k.id ≡ id)
  -- no active clause but a tautology has a variable of an entry
  pub gone : (e : Elim) (id : ℕ) (c : List ℕ) → Contains b.stack e → active_at b.engine.clauses id ≡ Some c → has_variable e.var c ≡ true → is_tautology c ≡ true
  pub single : IsDistinct nat_eq (map (λ (e : Elim). e.var) b.stack)
  -- no clause stands in two entries, or twice in one
  pub apart : IsDistinct nat_eq (kept_ids b.stack)
  pub positive : (e : Elim) → Contains b.stack e → 0 < e.var
  pub reserved : (e : Elim) → Contains b.stack e → e.var ≤ b.engine.vars
  pub ids : (id : ℕ) → finmap.contains_key b.engine.clauses id ≡ true → id < b.next_id
  pub first_id : 0 < b.next_id
  pub last_id : b.next_id ≤ 2 ^ 63

-- and at level 0 between two calls
pub record IsBoard (b : BoardView) : Type 0 where
  pub searched : IsSearched b
  pub level : level_after b.engine.trail ≡ 0
