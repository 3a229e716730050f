-- What callers see of the two sides of a check, and when a side stands for a list of steps. A side numbers the file's variables in
-- the order in which they come, and keeps clauses and events over these numbers.
use Rattle.std.specs.Prelude.{◌≡◌, ℕ, Bool, true, false, nat_le, length, List, [], ◌∷◌, ◌++◌, Option, None, Some, IfNone, IsTrue}
use Rattle.session_rules.specs.declared.Rule.{Rule}
use Rattle.session_rules.specs.declared.LStep.{LStep}
use Rattle.session_rules.specs.declared.LStep.TheVariants as lsteps
use Rattle.session_rules.specs.declared.Event.TheVariants as events
use Rattle.session_rules.specs.declared.Step.{Step}
use Rattle.session_rules.specs.declared.Step.TheVariants as steps
use Rattle.session_rules.specs.History.{assumed}
use Rattle.session_rules.specs.Own.{events_of, own_faults, id_events_of, own_id_faults}
use Rattle.side_laws.specs.ClauseStates.{Clauses, ChangesAt}
use Rattle.side_laws.specs.Ids.{HoldsIds}
use Rattle.side_laws.specs.Sets.{named_id, kept_at, HoldsSets}
use Rattle.numbering_laws.specs.Dense.{dense_steps, is_known_step, are_known_steps, dense_id_steps, is_known_id_step, are_known_id_steps}
use Rattle.session_events.specs.State.{State}
use Rattle.session_events.specs.State as state

-- the first of the rules that a step breaks
abbrev pub first_rule : List Rule → Option Rule
first_rule [] = None
first_rule (r ∷ rs) = Some r

-- ---- With ids

-- a side of proofs with ids: whether it is live; its clauses by id, and what its events say, both over numbers; the variables in the
-- order of their numbers; and the last query's literals as the file has them
pub record LidrupView : Type 0 where
  pub live : Bool
  pub clauses : Clauses
  pub events : State
  pub vars : List ℕ
  pub asked : List ℕ

-- what it says of its steps: the clauses by id, and what the events say
pub record LidrupState : Type 0 where
  pub clauses : Clauses
  pub events : State

abbrev pub holding_ids : Clauses → State → LidrupState
holding_ids clauses events = record { clauses = clauses; events = events }

-- the clauses, the phase, the assumptions and the inputs are those that these steps leave
pub record AreAfterIds (s : LidrupState) (ps : List LStep) : Type 0 where
  pub clauses : HoldsIds s.clauses ps
  pub events : state.StandsFor s.events (id_events_of ps)

-- each variable of the steps has a number, and the state is what the translated steps leave
pub record AreAfterIdsThrough (vars : List ℕ) (s : LidrupState) (ps : List LStep) : Type 0 where
  pub known : IsTrue (are_known_id_steps vars ps)
  pub translated : AreAfterIds s (dense_id_steps vars ps)

-- the side stands for these steps
pub record StandsForIds (v : LidrupView) (ps : List LStep) : Type 0 where
  pub through : AreAfterIdsThrough v.vars (holding_ids v.clauses v.events) ps
  pub asked : v.asked ≡ assumed (id_events_of ps)

-- the step was judged. Whatever steps the side stood for: the answer is the first own rule that the step breaks behind them, and
-- where there is none the side stands for the steps with this one at their end
pub record JudgedId (old new : LidrupState) (step : LStep) (answer : Option Rule) : Type 0 where
  pub rule : (ps : List LStep) → AreAfterIds old ps → answer ≡ first_rule (own_id_faults ps step)
  pub stands : IfNone answer ((ps : List LStep) → AreAfterIds old ps → AreAfterIds new (ps ++ step ∷ []))

-- the step of the file was judged by its translation; the numbering, which goes on, has its variables where no rule is broken
pub record JudgedIdThrough (vars after : List ℕ) (old new : LidrupState) (step : LStep) (answer : Option Rule) : Type 0 where
  pub rule : (ps : List LStep) → AreAfterIdsThrough vars old ps → answer ≡ first_rule (own_id_faults ps step)
  pub known : IfNone answer (IsTrue (is_known_id_step after step))
  pub stands : IfNone answer ((ps : List LStep) → AreAfterIdsThrough vars old ps → AreAfterIdsThrough after new (ps ++ step ∷ []))

-- the last query's literals behind a step
abbrev pub asked_after_id : List ℕ → LStep → List ℕ
asked_after_id asked (lsteps.Query c) = c
asked_after_id asked _ = asked

-- the steps with ids that take no memory: a status, a deletion, and a core of at most so many literals as a list holds without memory
abbrev pub is_frugal_with_ids : LStep → Bool
is_frugal_with_ids (lsteps.Status word) = true
is_frugal_with_ids (lsteps.Delete ids) = true
is_frugal_with_ids (lsteps.Core u hints) = nat_le (length u) 16
is_frugal_with_ids _ = false

-- ---- Without ids

-- a side of proofs without ids: whether it is live; its clauses by the ids that it gave, the next id, and what its events say, all
-- over numbers; the variables in the order of their numbers; and the last query's literals as the file has them
pub record IdrupView : Type 0 where
  pub live : Bool
  pub clauses : Clauses
  pub next : ℕ
  pub events : State
  pub vars : List ℕ
  pub asked : List ℕ

-- what it says of its steps: the clauses by the ids that it gave, the next id, and what the events say
pub record IdrupState : Type 0 where
  pub clauses : Clauses
  pub next : ℕ
  pub events : State

abbrev pub holding : Clauses → ℕ → State → IdrupState
holding clauses next events = record { clauses = clauses; next = next; events = events }

-- the clauses, the next id, the phase, the assumptions and the inputs are those that these steps leave
pub record AreAfter (s : IdrupState) (ps : List Step) : Type 0 where
  pub clauses : HoldsSets s.clauses s.next ps
  pub events : state.StandsFor s.events (events_of ps)

-- each variable of the steps has a number, and the state is what the translated steps leave
pub record AreAfterThrough (vars : List ℕ) (s : IdrupState) (ps : List Step) : Type 0 where
  pub known : IsTrue (are_known_steps vars ps)
  pub translated : AreAfter s (dense_steps vars ps)

-- the side stands for these steps
pub record StandsFor (v : IdrupView) (ps : List Step) : Type 0 where
  pub through : AreAfterThrough v.vars (holding v.clauses v.next v.events) ps
  pub asked : v.asked ≡ assumed (events_of ps)

-- the step was judged, as with ids; and of all ids it changes the one that it names alone
pub record Judged (old new : IdrupState) (step : Step) (answer : Option Rule) : Type 0 where
  pub rule : (ps : List Step) → AreAfter old ps → answer ≡ first_rule (own_faults ps step)
  pub stands : IfNone answer ((ps : List Step) → AreAfter old ps → AreAfter new (ps ++ step ∷ []))
  pub named : IfNone answer ((ps : List Step) → AreAfter old ps → (id : ℕ) → named_id ps step ≡ Some id → ChangesAt old.clauses new.clauses id (kept_at (ps ++ step ∷ []) id))

-- the step of the file was judged by its translation, as without; the numbering, which goes on, has its variables where no rule is
-- broken
pub record JudgedThrough (vars after : List ℕ) (old new : IdrupState) (step : Step) (answer : Option Rule) : Type 0 where
  pub rule : (ps : List Step) → AreAfterThrough vars old ps → answer ≡ first_rule (own_faults ps step)
  pub known : IfNone answer (IsTrue (is_known_step after step))
  pub stands : IfNone answer ((ps : List Step) → AreAfterThrough vars old ps → AreAfterThrough after new (ps ++ step ∷ []))
  pub named : IfNone answer ((ps : List Step) → AreAfterThrough vars old ps → (id : ℕ) → named_id ps step ≡ Some id
      → ChangesAt old.clauses new.clauses id (kept_at (dense_steps after (ps ++ step ∷ [])) id))

-- whatever steps the side stood for: of all ids the step changes the one that it names behind them alone
pub record ChangesNamedAlone (old new : IdrupView) (step : Step) : Type 0 where
  pub named : (ps : List Step) → StandsFor old ps → (id : ℕ) → named_id ps step ≡ Some id
      → ChangesAt old.clauses new.clauses id (kept_at (dense_steps new.vars (ps ++ step ∷ [])) id)

-- the last query's literals behind a step
abbrev pub asked_after : List ℕ → Step → List ℕ
asked_after asked (steps.Event (events.Query c)) = c
asked_after asked _ = asked

-- the steps without ids that take no memory: a status, and a core or a deletion of at most so many literals as a list holds without
-- memory
abbrev pub is_frugal : Step → Bool
is_frugal (steps.Event (events.Status word)) = true
is_frugal (steps.Event (events.Core u)) = nat_le (length u) 16
is_frugal (steps.Delete c) = nat_le (length c) 16
is_frugal _ = false
