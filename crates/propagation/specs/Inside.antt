-- What holds inside every engine.
use Rattle.std.specs.Prelude.{◌≡◌, ◌≢◌, ℕ, ◌*◌, ◌<◌, ◌≤◌, ◌⊎◌, true, List, length, drop, get_or}
use Rattle.std.specs.FinMap.{contains_key}
use Rattle.session_rules.specs.Logic.{has}
use Rattle.clause_store.specs.Clauses.{Store}
use Rattle.watch_lists.specs.Watched.{Watched}
use Rattle.propagation.specs.declared.Heads.{Heads}
use Rattle.propagation.specs.Assigned.{Assigned}
use Rattle.propagation.specs.Clauses.{Clauses, clauses_of, literals_at}
use Rattle.propagation.specs.Engine.{IsEngine, literals, level_after, up_to_level}
use Rattle.propagation.specs.Watching.{engine_of, IsReady}

-- two different literals
pub record HasPair (set : List ℕ) : Type 0 where
  pub one : ℕ
  pub two : ℕ
  pub has_one : has set one ≡ true
  pub has_two : has set two ≡ true
  pub differ : one ≢ two

-- the ids are those of all clauses, active or weakened, that haven't two different literals
abbrev pub ArePending : Clauses → List ℕ → Type 0
ArePending m ids = (id : ℕ) → contains_key m id ≡ true → (has ids id ≡ true) ⊎ HasPair (literals_at m id)

-- so many literals of a trail have been propagated, and so many ids looked at
pub record AreHeads (m : Store) (trues : List ℕ) (head : ℕ) (ids : List ℕ) (pending_head : ℕ) : Type 0 where
  pub head_in : head ≤ length trues
  pub ids_in : pending_head ≤ length ids
  pub ready : IsReady m trues head (drop pending_head ids)

-- what holds inside every engine
pub record IsEngineInside (w : Watched) (a : Assigned) (head : ℕ) (ids : List ℕ) (pending_head : ℕ) (levels : List Heads) (levels_room : ℕ) : Type 0 where
  pub sound : IsEngine (engine_of w.clauses a.entries a.vars)
  -- each literal of a reserved variable has a list
  pub wide : 2 * a.vars ≤ length w.lists
  pub pending : ArePending (clauses_of w.clauses) ids
  pub now : AreHeads w.clauses (literals a.entries) head ids pending_head
  -- for each level, how far its beginning had been propagated
  pub counted : length levels ≡ level_after a.entries
  pub before : (j : ℕ) (h : Heads) → j < length levels → h ≡ get_or levels j h
      → AreHeads w.clauses (literals (up_to_level j a.entries)) h.trail ids h.pending
  pub levels_fit : a.vars ≤ levels_room
