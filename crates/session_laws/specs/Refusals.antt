-- What a refusal says of the two files. Lines and steps are counted by how many stand before them.
use Rattle.std.specs.Prelude.{◌≡◌, ℕ, ◌<◌, ◌≤◌, ◌⊎◌, List, Contains, slice_get, Some, None, Err, length, codes}
use Rattle.session_rules.specs.declared.Form.{Form}
use Rattle.session_rules.specs.declared.Side.{Side}
use Rattle.session_rules.specs.declared.Side.TheVariants.{Interaction, Proof}
use Rattle.session_rules.specs.declared.Rule.{Rule}
use Rattle.session_rules.specs.Lines.{Line, lines, end_line}
use Rattle.session_rules.specs.declared.Event.{Event}
use Rattle.session_rules.specs.Reading.{header_fault, value_of, icnf_line}
use Rattle.session_rules.specs.Pair.{events_in}
use Rattle.session_rules.specs.Verdicts.{rules_of, body, steps_in, events_among, OwnFault, IsEventStep, lines_taken, partners, PairFault, further_rule, KeepsOwnRules}

-- the file of a side
abbrev pub file_of : Side → List ℕ → List ℕ → List ℕ
file_of Interaction a b = a
file_of Proof a b = b

-- a content line of the file has this number, or it is the number of its end line
abbrev pub IsLineOf : List ℕ → ℕ → Type 0
IsLineOf bytes number = ((line : Line) × Contains (lines bytes) line × (line.number ≡ number)) ⊎ (number ≡ end_line bytes)

-- line k after the proof's header says a step, and this step keeps all rules of its own
pub record KeepsItsRules (form : Form) (b : List ℕ) (k : ℕ) : Type 0 where
  pub says_step : k < length (steps_in form b)
  pub keeps : (rule : Rule) → OwnFault form (steps_in form b) k rule → ⊥

-- the proof's header is spelled, and each of these lines after it says a step that keeps all rules of its own
pub record KeepRules (form : Form) (b : List ℕ) (AreThese : ℕ → Line → Type 0) : Type 0 where
  pub header_spells : header_fault (rules_of form).name b ≡ None
  pub lines_keep : (k : ℕ) (line : Line) → slice_get (body b) k ≡ Some line → AreThese k line → KeepsItsRules form b k

-- where a line of the proof is refused it is the header, or the header and all lines with lesser numbers keep their rules
abbrev pub ProofRefused : Form → List ℕ → ℕ → Rule → Type 0
ProofRefused form b number rule = (header_fault (rules_of form).name b ≡ Some (number, rule)) ⊎ KeepRules form b (λ k line. line.number < number)

-- a line of the interaction breaks this rule as the partner of an event of the proof, behind others of its partners: it is broken
-- itself, or breaks the rule with the event; up to this event the proof keeps its rules
pub record PartnerRefused (form : Form) (a b : List ℕ) (number : ℕ) (rule : Rule) : Type 0 where
  pub place : ℕ
  pub event : Event
  pub is_event_step : IsEventStep form (steps_in form b) place event
  pub earlier : ℕ
  pub line : Line
  pub is_partner : slice_get (partners form a (steps_in form b) place event) earlier ≡ Some line
  pub is_number : line.number ≡ number
  pub breaks : (value_of icnf_line line ≡ Err rule) ⊎ PairFault form a (steps_in form b) place earlier line rule
  pub proof_keeps : KeepRules form b (λ k line. k ≤ place)

-- a line of the interaction is left behind the partners of all events, and the whole proof keeps its rules
pub record FurtherRefused (form : Form) (a b : List ℕ) (number : ℕ) (rule : Rule) : Type 0 where
  pub line : Line
  pub is_left : slice_get (body a) (lines_taken (events_among form (steps_in form b)) (body a)) ≡ Some line
  pub is_number : line.number ≡ number
  pub is_rule : rule ≡ further_rule line
  pub all_say : length (steps_in form b) ≡ length (body b)
  pub proof_keeps : KeepsOwnRules form b

-- where a line of the interaction is refused it is the header, or the partner of an event, or a further line behind the proof's end
abbrev pub InteractionRefused : Form → List ℕ → List ℕ → ℕ → Rule → Type 0
InteractionRefused form a b number rule = (header_fault (codes "icnf") a ≡ Some (number, rule)) ⊎ (PartnerRefused form a b number rule ⊎ FurtherRefused form a b number rule)

-- ---- What acceptance says of the interaction's lines

-- the interaction's header has no fault, and each line behind it says an event: none is broken, and none is left over
pub record IsWhole (a : List ℕ) : Type 0 where
  pub header_spells : header_fault (codes "icnf") a ≡ None
  pub lines_say : length (events_in a) ≡ length (body a)
