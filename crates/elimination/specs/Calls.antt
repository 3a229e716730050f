-- What each call on a board does.
use Rattle.std.specs.Prelude.{◌≡◌, ℕ, ◌+◌, false, if◌then◌else◌, List, [], ◌∷◌, ◌++◌, filter_map, Contains, All, Some, None, ⊤}
use Rattle.lits.specs.Literal.{var}
use Rattle.lits.specs.Clause.{is_tautology, set_of}
use Rattle.session_rules.specs.declared.Told.{Told}
use Rattle.session_rules.specs.declared.Told.TheVariants as told
use Rattle.session_rules.specs.Logic.{closes, hints_fail}
use Rattle.session_rules.specs.Own.{added_clause, weakened_clause}
use Rattle.propagation.specs.Clauses.{active_at}
use Rattle.propagation.specs.Engine.{IsPropagated, IsOnce}
use Rattle.restore.specs.declared.lists.Elim.{Elim}
use Rattle.restore.specs.Resolution.{variables}
use Rattle.restore.specs.Stack.{has_entry, is_wanted, left_in}
use Rattle.elimination_laws.specs.Eligible.{OftenAs}
use Rattle.elimination_laws.specs.Parts.{lemma_clause}
use Rattle.elimination_laws.specs.Irredundant.{stepped}
use Rattle.elimination_laws.specs.Told.{ToldBlocks}
use Rattle.elimination.specs.Boards.{BoardView, irredundant_clauses, active_clauses, eligible_on}
use Rattle.elimination.specs.Steps.{steps_of, standing, after_steps, AreDue, NumbersLemmas}

-- steps lead from a board's clauses and next id to those of another board, and the inputs and reserved variables stay
pub record AreTold (old : BoardView) (ts : List Told) (new : BoardView) : Type 0 where
  pub due : AreDue (standing old.engine.clauses) ts
  pub replayed : (id : ℕ) → standing new.engine.clauses id ≡ after_steps (standing old.engine.clauses) ts id
  pub numbered : NumbersLemmas old.next_id ts new.next_id
  pub inputs : new.inputs ≡ old.inputs
  pub vars : new.engine.vars ≡ old.engine.vars

-- a step is a restoring
abbrev pub IsRestoring : Told → Type 0
IsRestoring (told.Restore id ls) = ⊤
IsRestoring _ = ⊥

-- the least closed set of entries for these literals is taken out of the stack, and just their clauses are restored, each irredundant again
pub record IsTouched (old : BoardView) (lits : List ℕ) (ts : List Told) (new : BoardView) : Type 0 where
  pub told : AreTold old ts new
  pub restorings : All IsRestoring ts
  pub stack : new.stack ≡ left_in (is_wanted old.stack (variables lits)) old.stack
  pub gone : (l : ℕ) → Contains lits l → has_entry new.stack (var l) ≡ false
  pub irredundant : OftenAs (irredundant_clauses new) (stepped (irredundant_clauses old) (filter_map added_clause (steps_of ts)) [])

-- an input has come under the next id
pub record IsAdmitted (old : BoardView) (c : List ℕ) (new : BoardView) : Type 0 where
  pub clauses : (id : ℕ) → standing new.engine.clauses id ≡ after_steps (standing old.engine.clauses) (told.Lemma old.next_id c [] ∷ []) id
  pub irredundant : OftenAs (irredundant_clauses new) (if is_tautology c then irredundant_clauses old else set_of c ∷ irredundant_clauses old)
  pub inputs : new.inputs ≡ old.inputs ++ c ∷ []
  pub stack : new.stack ≡ old.stack
  pub next_id : new.next_id ≡ old.next_id + 1
  pub vars : new.engine.vars ≡ old.engine.vars

-- whole elimination blocks were told, by which no frozen variable came into the stack
pub record IsSimplified (old : BoardView) (frozen : List ℕ) (ts : List Told) (new : BoardView) : Type 0 where
  pub told : AreTold old ts new
  pub blocks : ToldBlocks (irredundant_clauses old) (active_clauses old) frozen (steps_of ts)
  pub irredundant : OftenAs (irredundant_clauses new) (stepped (irredundant_clauses old) (filter_map lemma_clause (steps_of ts)) (filter_map weakened_clause (steps_of ts)))
  pub stack : (es : List Elim) × (new.stack ≡ old.stack ++ es)
  pub spared : (l : ℕ) → Contains frozen l → has_entry new.stack (var l) ≡ has_entry old.stack (var l)

-- nothing is left to eliminate or to propagate, and no clause is false
pub record IsDone (b : BoardView) (frozen : List ℕ) : Type 0 where
  pub none : (x : ℕ) → eligible_on b frozen x ≡ false
  pub propagated : IsPropagated b.engine
  pub unclosed : closes (active_clauses b) [] ≡ false

-- the active clauses close by these hints
pub record IsClosed (b : BoardView) (hints : List ℕ) : Type 0 where
  pub closed : hints_fail (active_at b.engine.clauses) [] hints ≡ None
  pub once : IsOnce hints
  pub active : (h : ℕ) → Contains hints h → (c : List ℕ) × (active_at b.engine.clauses h ≡ Some c)

-- the search keeps the stack, the irredundant clauses, the inputs and the reserved variables
pub record IsSearchedFrom (old new : BoardView) : Type 0 where
  pub stack : new.stack ≡ old.stack
  pub irredundant : new.irredundant ≡ old.irredundant
  pub inputs : new.inputs ≡ old.inputs
  pub vars : new.engine.vars ≡ old.engine.vars
