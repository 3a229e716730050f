-- A board while it is searched, when its engine stands at any level, and a lemma that may be learned.
use Rattle.std.specs.Prelude.{◌≡◌, ℕ, ◌+◌, ◌*◌, ◌<◌, ◌≤◌, false, List, [], length, map, drop, slice_index, Contains, Some, None}
use Rattle.lits.specs.Literal.{var, neg}
use Rattle.session_rules.specs.Logic.{closes, hints_fail}
use Rattle.propagation.specs.Clauses.{active_at}
use Rattle.propagation.specs.Engine.{EngineView, IsPropagated, IsFree, IsOnce, IsFreshSlot, HasRoomFor, AreFalse, FellBefore, literals, with_entry, with_added}
use Rattle.restore.specs.Stack.{has_entry}
use Rattle.elimination.specs.Boards.{BoardView, IsSearched, active_clauses}
use Rattle.elimination.specs.Known.{AreListedBy}

-- the same board with another engine
abbrev pub with_engine : BoardView → EngineView → BoardView
with_engine b e = record { engine = e; irredundant = b.irredundant; stack = b.stack; inputs = b.inputs; next_id = b.next_id }

-- what holds inside: the lists stand for the irredundant clauses, and each literal of a reserved variable has one
pub record IsSearchedInside (b : BoardView) (rows : List (List ℕ)) : Type 0 where
  pub searched : IsSearched b
  pub listed : AreListedBy b.engine.clauses rows b.irredundant
  pub wide : 2 * b.engine.vars ≤ length rows

-- propagation has ended, and no clause is false
pub record IsReady (b : BoardView) : Type 0 where
  pub propagated : IsPropagated b.engine
  pub unclosed : closes (active_clauses b) [] ≡ false

-- a lemma follows by these hints, and may be asserted at the present level: its first literal is free, the others are false, and
-- the second fell last; none has a variable of the stack
pub record IsLearnable (b : BoardView) (ls hints : List ℕ) : Type 0 where
  pub some : 0 < length ls
  pub reserved : HasRoomFor b.engine ls
  pub free : IsFree (literals b.engine.trail) (slice_index ls 0)
  pub others : AreFalse b.engine (drop 1 ls)
  pub last : FellBefore b.engine (drop 2 ls) (slice_index ls 1)
  pub once : IsOnce ls
  pub present : (l : ℕ) → Contains ls l → has_entry b.stack (var l) ≡ false
  pub hints_once : IsOnce hints
  pub hints_active : (h : ℕ) → Contains hints h → (c : List ℕ) × (active_at b.engine.clauses h ≡ Some c)
  pub closed : hints_fail (active_at b.engine.clauses) (map neg ls) hints ≡ None

-- the board with a lemma at this slot under the next id, whose first literal is true for it
abbrev pub learned : BoardView → List ℕ → ℕ → BoardView
learned b ls s = record {
  engine = with_entry (with_added b.engine b.next_id ls s) (slice_index ls 0) (Some s);
  irredundant = b.irredundant;
  stack = b.stack;
  inputs = b.inputs;
  next_id = b.next_id + 1;
}

-- a lemma was learned
abbrev pub IsLearned : BoardView → List ℕ → BoardView → Type 0
IsLearned b ls new = (s : ℕ) × IsFreshSlot b.engine s × (new ≡ learned b ls s)
