-- The faults of a pair in plain words. Each fault has a key, which says where it stands in the order in which faults count, and the
-- verdict is the fault with the least key; likewise the verdict on a proof by itself. Places are counted by how many lines, steps
-- or events stand before.
use Rattle.std.specs.Prelude.{◌≡◌, ℕ, ◌+◌, true, not, ◌&&◌, if◌then◌else◌, List, [], ◌∷◌, length, map, take, drop, count_by, Contains, slice_get, Option, Some, None, filter_map, Result, Ok, Err, codes}
use Rattle.session_rules.specs.declared.Form.{Form}
use Rattle.session_rules.specs.declared.Form.TheVariants.{Idrup, Lidrup}
use Rattle.session_rules.specs.declared.Side.TheVariants.{Interaction, Proof}
use Rattle.session_rules.specs.declared.Phase.TheVariants.{Idle}
use Rattle.session_rules.specs.declared.Event.{Event}
use Rattle.session_rules.specs.declared.Step.{Step}
use Rattle.session_rules.specs.declared.LStep.{LStep}
use Rattle.session_rules.specs.declared.Rule.{Rule}
use Rattle.session_rules.specs.declared.Rule.TheVariants as rules
use Rattle.session_rules.specs.declared.Verdict.{Verdict}
use Rattle.session_rules.specs.declared.Verdict.TheVariants.{Accepted, Refused}
use Rattle.session_rules.specs.Lines.{Line, lines, end_line, has_content}
use Rattle.session_rules.specs.Reading.{Fault, value_of, icnf_line, header_fault, steps_of}
use Rattle.session_rules.specs.Numbers.{rule_number}
use Rattle.session_rules.specs.Keys.{Key, rank, IsAtMost, ComesUpTo}
use Rattle.session_rules.specs.Keys as keys
use Rattle.session_rules.specs.History.{phase, assumed}
use Rattle.session_rules.specs.Pair.{ProofForm, without_ids, with_ids, partner_count, owes_partner, pair_faults, Refusal, refusal, own_refusals, is_query, verdict}
use Rattle.session_rules.specs.Spelling.{numbered_values}

-- ---- The lines and steps of a pair

-- what a line of a proof says in this form
abbrev pub StepOf : Form → Type 0
StepOf Idrup = Step
StepOf Lidrup = LStep

-- how the lines of this form are read, and what its steps break
abbrev pub rules_of : (form : Form) → ProofForm (StepOf form)
rules_of Idrup = without_ids
rules_of Lidrup = with_ids

-- the lines after the header
abbrev pub body : List ℕ → List Line
body bytes = drop 1 (lines bytes)

-- a stream is read as just these values: its header has no fault, each line behind it says the next value, and no line is left
pub record IsReadAs {A : Type 0} (read : List (List ℕ) → Result A Fault) (name bytes : List ℕ) (values : List A) : Type 0 where
  pub header_spells : header_fault name bytes ≡ None
  pub lines_say : steps_of read bytes ≡ numbered_values 2 values
  pub none_left : length (body bytes) ≡ length values

-- the steps of a proof: what the lines after its header say, before the first that is broken
abbrev pub steps_in : (form : Form) → List ℕ → List (StepOf form)
steps_in form b = map (λ p. p.1) (steps_of (rules_of form).read b)

-- the events among steps
abbrev pub events_among : (form : Form) → List (StepOf form) → List Event
events_among form ps = filter_map (rules_of form).event ps

-- ---- Faults of a proof by itself

-- step k breaks this rule of its own behind the steps before it
pub record OwnFault (form : Form) (ps : List (StepOf form)) (k : ℕ) (rule : Rule) : Type 0 where
  pub step : StepOf form
  pub is_step : slice_get ps k ≡ Some step
  pub breaks : Contains ((rules_of form).faults (take k ps) step) rule

-- the faults of a proof that need no interaction, each with its key
pub data IsOwnFault (form : Form) (b : List ℕ) : Key → Refusal → Type 0 where
  -- its header is broken
  header : (number : ℕ) (rule : Rule) → header_fault (rules_of form).name b ≡ Some (number, rule) → IsOwnFault form b keys.proof_header (refusal Proof number rule)
  -- the line behind k lines that say steps is broken
  broken_line : (k : ℕ) (line : Line) (rule : Rule) → slice_get (body b) k ≡ Some line → length (steps_in form b) ≡ k → value_of (rules_of form).read line ≡ Err rule
      → IsOwnFault form b (keys.line_spelling k) (refusal Proof line.number rule)
  -- step k, on its line, breaks a rule of its own
  own_rule : (k : ℕ) (line : Line) (rule : Rule) → slice_get (body b) k ≡ Some line → OwnFault form (steps_in form b) k rule
      → IsOwnFault form b (keys.own_rule k (rule_number rule)) (refusal Proof line.number rule)
  -- all lines say steps, and a query is open
  unfinished : length (steps_in form b) ≡ length (body b) → (phase (events_among form (steps_in form b)) ≡ Idle → ⊥)
      → IsOwnFault form b keys.open_query (refusal Proof (end_line b) rules.Unfinished)

-- ---- Faults of a pair

-- step k is this event
pub record IsEventStep (form : Form) (ps : List (StepOf form)) (k : ℕ) (event : Event) : Type 0 where
  pub step : StepOf form
  pub is_step : slice_get ps k ≡ Some step
  pub is_event : (rules_of form).event step ≡ Some event

-- how many of some lines are partners of these events, which take them in turn
unfoldable pub lines_taken : List Event → List Line → ℕ
lines_taken [] ls = 0
lines_taken (e ∷ es) ls = let count = partner_count e ls in count + lines_taken es (drop count ls)

-- the lines of the interaction that the events before step k leave
abbrev pub lines_left : (form : Form) → List ℕ → List (StepOf form) → ℕ → List Line
lines_left form a ps k = drop (lines_taken (events_among form (take k ps)) (body a)) (body a)

-- the partners of step k, which is this event
abbrev pub partners : (form : Form) → List ℕ → List (StepOf form) → ℕ → Event → List Line
partners form a ps k event = let ls = lines_left form a ps k in take (partner_count event ls) ls

-- step k is an event, this line is its partner behind n others and says an event, and the two break this rule
pub record PairFault (form : Form) (a : List ℕ) (ps : List (StepOf form)) (k n : ℕ) (line : Line) (rule : Rule) : Type 0 where
  pub event : Event
  pub is_event_step : IsEventStep form ps k event
  pub is_partner : slice_get (partners form a ps k event) n ≡ Some line
  pub said : Event
  pub is_said : value_of icnf_line line ≡ Ok said
  pub breaks : Contains (pair_faults (assumed (events_among form (take k ps))) event said) rule

-- the rule that a line of the interaction breaks which stands there when the proof has ended
abbrev pub further_rule : Line → Rule
further_rule line = if line.cut && not (has_content line.words) then rules.Length else rules.Surplus

-- the faults of an interaction and a proof, each with its key
pub data IsFault (form : Form) (a b : List ℕ) : Key → Refusal → Type 0 where
  -- the interaction's header is broken
  interaction_header : (number : ℕ) (rule : Rule) → header_fault (codes "icnf") a ≡ Some (number, rule) → IsFault form a b keys.interaction_header (refusal Interaction number rule)
  -- the proof has a fault by itself
  own : (key : Key) (r : Refusal) → IsOwnFault form b key r → IsFault form a b key r
  -- step k is an event that owes a partner, and no line is left
  ended : (k : ℕ) (line : Line) (event : Event) → slice_get (body b) k ≡ Some line → IsEventStep form (steps_in form b) k event → owes_partner event ≡ true
      → lines_left form a (steps_in form b) k ≡ [] → IsFault form a b (keys.ended k) (refusal Proof line.number rules.Ended)
  -- its partner behind n others is broken
  partner_broken : (k n : ℕ) (event : Event) (line : Line) (rule : Rule) → IsEventStep form (steps_in form b) k event
      → slice_get (partners form a (steps_in form b) k event) n ≡ Some line → value_of icnf_line line ≡ Err rule
      → IsFault form a b (keys.partner_spelling k n) (refusal Interaction line.number rule)
  -- it breaks a rule with its partner behind n others
  pair_rule : (k n : ℕ) (line : Line) (rule : Rule) → PairFault form a (steps_in form b) k n line rule
      → IsFault form a b (keys.pair_rule k n (rule_number rule)) (refusal Interaction line.number rule)
  -- all lines of the proof say steps, and the interaction has a line behind the partners of all events
  surplus : (line : Line) → length (steps_in form b) ≡ length (body b)
      → slice_get (body a) (lines_taken (events_among form (steps_in form b)) (body a)) ≡ Some line
      → IsFault form a b keys.further_line (refusal Interaction line.number (further_rule line))

-- ---- The verdict

-- this is a fault, and no fault has a lesser key; keys are ordered by their numbers
pub record IsFirstBy {K : Type 0} (numbers : K → List ℕ) (Faults : K → Refusal → Type 0) (r : Refusal) : Type 0 where
  pub key : K
  pub is_fault : Faults key r
  pub is_least : (other : K) (s : Refusal) → Faults other s → IsAtMost (numbers key) (numbers other)

abbrev pub IsFirst : (Key → Refusal → Type 0) → Refusal → Type 0
IsFirst Faults r = IsFirstBy rank Faults r

-- there is no fault
abbrev pub HasNone : {K : Type 0} → (K → Refusal → Type 0) → Type 0
HasNone {K} Faults = (key : K) (r : Refusal) → Faults key r → ⊥

-- the verdict on a pair: its first fault, or the number of the proof's queries where there is none
abbrev pub IsVerdict : Form → List ℕ → List ℕ → Verdict → Type 0
IsVerdict form a b (Accepted queries) = HasNone (IsFault form a b) × (queries ≡ count_by (is_query (rules_of form)) (steps_in form b))
IsVerdict form a b (Refused side line rule) = IsFirst (IsFault form a b) (refusal side line rule)

-- the verdict on a proof by itself: its first own fault, where there is one
abbrev pub IsOwnVerdict : Form → List ℕ → Option (ℕ × Rule) → Type 0
IsOwnVerdict form b None = HasNone (IsOwnFault form b)
IsOwnVerdict form b (Some fault) = IsFirst (IsOwnFault form b) (refusal Proof fault.0 fault.1)

-- the verdict is a fault whose key comes up to this one
pub record RefusedUpTo (form : Form) (a b : List ℕ) (key : Key) : Type 0 where
  pub first : Key
  pub refusal : Refusal
  pub is_fault : IsFault form a b first refusal
  pub is_at_most : ComesUpTo first key
  pub is_verdict : verdict form a b ≡ Refused refusal.side refusal.line refusal.rule

-- the first of a proof's own refusals, by its line and rule
abbrev pub first_refusal : List Refusal → Option (ℕ × Rule)
first_refusal [] = None
first_refusal (r ∷ more) = Some (r.line, r.rule)

-- the verdict on a proof by itself, computed
unfoldable pub own_verdict : Form → List ℕ → Option (ℕ × Rule)
own_verdict form b = first_refusal (own_refusals (rules_of form) b)

-- a proof keeps all rules by itself: the header's, each line's, each step's own, and no query is open
pub record KeepsOwnRules (form : Form) (b : List ℕ) : Type 0 where
  pub header_spells : header_fault (rules_of form).name b ≡ None
  pub lines_spell : (line : Line) (rule : Rule) → Contains (body b) line → value_of (rules_of form).read line ≡ Err rule → ⊥
  pub steps_keep : (k : ℕ) (rule : Rule) → OwnFault form (steps_in form b) k rule → ⊥
  pub ends_idle : phase (events_among form (steps_in form b)) ≡ Idle
