-- What the events so far leave for the rules of the next one, and these rules by it.
use Rattle.std.specs.Prelude.{◌≡◌, ℕ, max, Bool, true, false, not, List, [], ◌∷◌, ◌++◌, All, ◌≤◌}
use Rattle.std.specs.List.{list_any, position_from}
use Rattle.session_rules.specs.declared.StatusWord.TheVariants.{Satisfiable, Unsatisfiable}
use Rattle.session_rules.specs.declared.Phase.{Phase}
use Rattle.session_rules.specs.declared.Phase.TheVariants.{Idle, Asked, Told}
use Rattle.session_rules.specs.declared.Event.{Event}
use Rattle.session_rules.specs.declared.Event.TheVariants as events
use Rattle.session_rules.specs.declared.Rule.{Rule}
use Rattle.session_rules.specs.declared.Rule.TheVariants as rules
use Rattle.session_events.specs.declared.Kind.{Kind}
use Rattle.session_events.specs.declared.Kind.TheVariants as kinds
use Rattle.lits.specs.Literal.{var}
use Rattle.session_rules.specs.Logic.{has}
use Rattle.session_rules.specs.History as history

-- the phase, the last query's literals, all inputs in their order, and the greatest reserved variable
pub record State : Type 0 where
  pub phase : Phase
  pub assumed : List ℕ
  pub inputs : List (List ℕ)
  pub reserved : ℕ

-- the state says what these events say
pub record StandsFor (s : State) (es : List Event) : Type 0 where
  pub phase : s.phase ≡ history.phase es
  pub assumed : s.assumed ≡ history.assumed es
  pub inputs : s.inputs ≡ history.inputs es

-- the state of no event, with no reserved variable
abbrev pub start : State
start = record { phase = Idle; assumed = []; inputs = []; reserved = 0 }

-- the state with the variables up to this one reserved
abbrev pub with_reserved : State → ℕ → State
with_reserved s vars = record s { reserved = max s.reserved vars }

-- the state after one more event
abbrev pub behind : State → Event → State
behind s (events.Input ls) = record s { phase = Idle; inputs = s.inputs ++ ls ∷ [] }
behind s (events.Query ls) = record s { phase = Asked; assumed = ls }
behind s (events.Status w) = record s { phase = history.phase_told w }
behind s (events.Model ls) = record s { phase = Idle }
behind s (events.Core ls) = record s { phase = Idle }
behind s (events.Values ls) = record s { phase = Idle }
behind s (events.Failed ls) = record s { phase = Idle }

-- the variable of each literal is reserved
abbrev pub AreReserved : State → List ℕ → Type 0
AreReserved s ls = All (λ l. var l ≤ s.reserved) ls

-- ---- The rules by the state

-- the kind of an event
abbrev pub kind_of : Event → Kind
kind_of (events.Input ls) = kinds.Input
kind_of (events.Query ls) = kinds.Query
kind_of (events.Status w) = kinds.Status
kind_of (events.Model ls) = kinds.Model
kind_of (events.Core ls) = kinds.Core
kind_of (events.Values ls) = kinds.Part
kind_of (events.Failed ls) = kinds.Part

-- whether an event of this kind fits a phase
abbrev pub fits : Kind → Phase → Bool
fits kinds.Input Idle = true
fits kinds.Query Idle = true
fits kinds.Status Asked = true
fits kinds.Model (Told Satisfiable) = true
fits kinds.Core (Told Unsatisfiable) = true
fits _ _ = false

-- an event of this kind fits the phase
abbrev pub order_rules : State → Kind → List Rule
order_rules s kind = history.broken_unless (fits kind s.phase) rules.Order

-- a model of these assumptions and inputs has no opposite literals, has each assumption, and has a literal of each input
abbrev pub model_rules_of : List ℕ → List (List ℕ) → List ℕ → List Rule
model_rules_of assumed inputs m = history.broken_at rules.ModelClash (history.first_clash [] m)
    ++ history.broken_at rules.ModelAssumption (history.first_missing assumed m)
    ++ history.broken_at rules.ModelInput (position_from (λ c. not (list_any (has m) c)) 1 inputs)

abbrev pub model_rules : State → List ℕ → List Rule
model_rules s m = model_rules_of s.assumed s.inputs m

-- a core has assumptions alone
abbrev pub core_rules : State → List ℕ → List Rule
core_rules s u = history.broken_at rules.CoreStranger (history.first_missing u s.assumed)
