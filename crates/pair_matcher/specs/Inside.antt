-- What holds inside the sides.
use Rattle.std.specs.Prelude.{◌≡◌, ℕ, ◌≤◌, Bool, List, length, All, is_some, IsTrue}
use Rattle.lits.specs.Literal.{var}
use Rattle.lits.specs.Numbering.{are_known}
use Rattle.clause_store.specs.Clauses.{Store}
use Rattle.propagation.specs.Clauses.{Clause}
use Rattle.propagation.specs.Engine.{EngineView, level_after}
use Rattle.side_laws.specs.ClauseStates.{ClauseState, Clauses, kept, kept_by, clauses_of_store, AreWithin}
use Rattle.session_events.specs.State.{State}
use Rattle.pair_matcher.specs.declared.idrup.Parts as idrup
use Rattle.pair_matcher.specs.declared.lidrup.Parts as lidrup
use Rattle.pair_matcher.specs.Sides.{IdrupState, LidrupState, holding, holding_ids}

-- the hint rule has room for all variables, those of the clauses and those that the events reserved
pub record HasHintRoom (m : Store) (s : State) (vars : ℕ) : Type 0 where
  pub clauses : AreWithin (clauses_of_store m) vars
  pub events : s.reserved ≤ vars

-- the variables of the literals are at most this one
abbrev pub AreBelow : List ℕ → ℕ → Type 0
AreBelow ls vars = All (λ l. var l ≤ vars) ls

-- what is seen of a clause of an engine
abbrev pub kept_of_clause : Clause → ClauseState
kept_of_clause c = kept (is_some c.slot) c.literals

-- the clauses of an engine
abbrev pub clauses_of_engine : EngineView → Clauses
clauses_of_engine e = kept_by kept_of_clause e.clauses

-- between two lines the engine has room for the variables that the events reserved, and nothing is assumed on its trail
pub record IsBetweenLines (e : EngineView) (s : State) : Type 0 where
  pub events : s.reserved ≤ e.vars
  pub level : level_after e.trail ≡ 0

-- and each variable of the last query has a number
pub record IsReady (e : EngineView) (s : State) (vars asked : List ℕ) : Type 0 where
  pub between : IsBetweenLines e s
  pub known : IsTrue (are_known vars asked)

-- and so with ids; while the side is live, the hint rule has room for all numbers, so that a core takes none
pub record IsReadyForIds (m : Store) (s : State) (room : ℕ) (vars asked : List ℕ) (live : Bool) : Type 0 where
  pub between : HasHintRoom m s room
  pub known : IsTrue (are_known vars asked)
  pub ready : IsTrue live → length vars ≤ room

-- what the parts of a side say of its steps
abbrev pub state_of : idrup.Parts → IdrupState
state_of p = holding (clauses_of_engine p.engine) p.next p.events

abbrev pub state_of_ids : lidrup.Parts → LidrupState
state_of_ids p = holding_ids (clauses_of_store p.store) p.events
