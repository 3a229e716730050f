-- The clauses of a board, and what steps that are told make of them.
use Rattle.std.specs.Prelude.{◌≡◌, ℕ, ◌+◌, ◌*◌, ◌<◌, ◌≤◌, ◌^◌, true, List, [], ◌∷◌, length, map, filter_map, Option}
use Rattle.std.specs.FinMap as finmap
use Rattle.session_rules.specs.Logic.{same_set}
use Rattle.session_rules.specs.Own.{added_clause, weakened_clause}
use Rattle.session_rules.specs.declared.Told.{Told}
use Rattle.session_rules.specs.declared.Told.TheVariants as told
use Rattle.session_rules.specs.declared.LogFault.{LogFault}
use Rattle.propagation.specs.Clauses.{literals_at}
use Rattle.propagation.specs.Engine.{level_after}
use Rattle.restore.specs.declared.lists.Kept.{Kept}
use Rattle.restore.specs.declared.lists.Elim.{Elim}
use Rattle.elimination_laws.specs.Eligible.{how_many}
use Rattle.elimination.specs.declared.database.Database.{Database}
use Rattle.elimination.specs.declared.fault.BoardFault.{BoardFault}
use Rattle.elimination.specs.declared.fault.BoardFault.TheVariants as faults
use Rattle.elimination.specs.Boards.{BoardView, AreIrredundant}
use Rattle.elimination.specs.Inside.{IsInserted}
use Rattle.elimination.specs.Known.{AreListedBy}
use Rattle.elimination.specs.Steps.{TakesEach, Standing, steps_of, standing, after_steps, IsDue, AreDue, NumbersLemmas}

-- the board of clauses, a stack and inputs
abbrev pub board_of : Database → List Elim → List (List ℕ) → BoardView
board_of d stack inputs = record { engine = d.engine; irredundant = d.irredundant; stack = stack; inputs = inputs; next_id = d.next_id }

-- the irredundant clauses
abbrev pub irredundant_of : Database → List (List ℕ)
irredundant_of d = map (literals_at d.engine.clauses) d.irredundant

-- what holds of the clauses of every board between two steps: the engine stands at level 0, the next id is above each other
-- one, and the lists stand for the irredundant clauses
pub record IsDatabase (d : Database) : Type 0 where
  pub level : level_after d.engine.trail ≡ 0
  pub ids : (id : ℕ) → finmap.contains_key d.engine.clauses id ≡ true → id < d.next_id
  pub irredundant : AreIrredundant d.engine.clauses d.irredundant
  pub listed : AreListedBy d.engine.clauses d.occurrences d.irredundant
  pub wide : 2 * d.engine.vars ≤ length d.occurrences
  pub first_id : 0 < d.next_id
  pub last_id : d.next_id ≤ 2 ^ 63

-- steps lead from clauses to others: each set stands among the irredundant clauses as often as before, with what was added,
-- less what was weakened
pub record LeadTo (old : Database) (ts : List Told) (new : Database) : Type 0 where
  pub due : AreDue (standing old.engine.clauses) ts
  pub replayed : (id : ℕ) → standing new.engine.clauses id ≡ after_steps (standing old.engine.clauses) ts id
  pub numbered : NumbersLemmas old.next_id ts new.next_id
  pub trail : new.engine.trail ≡ old.engine.trail
  pub vars : new.engine.vars ≡ old.engine.vars
  pub counted : (c : List ℕ) → how_many (same_set c) (irredundant_of new) + how_many (same_set c) (filter_map weakened_clause (steps_of ts))
      ≡ how_many (same_set c) (irredundant_of old) + how_many (same_set c) (filter_map added_clause (steps_of ts))

-- ---- Faults

-- where clauses stand so, a log refused a step that was due with this fault, or memory was wanting
abbrev pub IsCause : {L : Type 0} → (L → Told → LogFault → L → Type 0) → (ℕ → Option Standing) → L → BoardFault → L → Type 0
IsCause refuses f before (faults.Log fault) after = (t : Told) × IsDue f t × refuses before t fault after
IsCause refuses f before faults.Memory after = before ≡ after

-- a call broke off with this fault: steps were told, each due behind the one before, and then came its cause
pub record BreaksOff {L : Type 0} (takes : L → Told → L → Type 0) (refuses : L → Told → LogFault → L → Type 0) (f : ℕ → Option Standing)
    (before : L) (fault : BoardFault) (after : L) : Type 0 where
  pub steps : List Told
  pub between : L
  pub taken : TakesEach takes before steps between
  pub due : AreDue f steps
  pub cause : IsCause refuses (after_steps f steps) between fault after

-- ---- One clause

-- an active clause was told to be deleted, and the irredundant ones stay
pub record HasDeleted {L : Type 0} (takes : L → Told → L → Type 0) (before : L) (old : Database) (id : ℕ) (new : Database) (after : L) : Type 0 where
  pub lits : List ℕ
  pub taken : takes before (told.Delete id lits) after
  pub leads : LeadTo old (told.Delete id lits ∷ []) new
  pub sound : IsDatabase new
  pub same : new.irredundant ≡ old.irredundant

-- an irredundant clause was told to be weakened, and is irredundant no more; what is kept is its copy
pub record HasWeakened {L : Type 0} (takes : L → Told → L → Type 0) (before : L) (old : Database) (id : ℕ) (new : Database) (after : L) (kept : Kept) : Type 0 where
  pub taken : takes before (told.Weaken id kept.lits) after
  pub named : kept.id ≡ id
  pub leads : LeadTo old (told.Weaken id kept.lits ∷ []) new
  pub sound : IsDatabase new
  pub taken_out : IsInserted new.irredundant id old.irredundant
