-- What the body of a line of the interaction answers, held against the proof's event.
use Rattle.std.specs.Prelude.{◌≡◌, ℕ, not, List, [], Option, Some, None, Ok, Err, option_map, find, slice_get}
use Rattle.std.specs.Option.{option_or}
use Rattle.std.specs.declared.result.Result.{Result}
use Rattle.session_rules.specs.declared.Event.{Event}
use Rattle.session_rules.specs.declared.Event.TheVariants as events
use Rattle.session_rules.specs.declared.Letter.{Letter}
use Rattle.session_rules.specs.declared.Letter.TheVariants as letters
use Rattle.session_rules.specs.declared.Rule.{Rule}
use Rattle.session_rules.specs.declared.Rule.TheVariants as rules
use Rattle.session_rules.specs.declared.LineFault.{LineFault}
use Rattle.session_rules.specs.declared.LineFault.TheVariants as faults
use Rattle.session_rules.specs.History.{first_missing}
use Rattle.session_rules.specs.Pair.{pair_faults}
use Rattle.session_rules.specs.Reading.{event_at}
use Rattle.line_reading.specs.Readers.{Reader, BodyRead}
use Rattle.line_reading.specs.Whole.{literals_body}
use Rattle.icnf_lines.specs.declared.marks.Mark.{Mark}
use Rattle.icnf_lines.specs.declared.meeting.Found.{Found}
use Rattle.icnf_lines.specs.declared.meeting.Met.{Met}
use Rattle.icnf_lines.specs.declared.matching.Match.{Match}
use Rattle.icnf_lines.specs.declared.matching.Match.TheVariants.{Agrees, Differs}
use Rattle.icnf_lines.specs.declared.matching.MatchFault.{MatchFault}
use Rattle.icnf_lines.specs.declared.matching.MatchFault.TheVariants.{Syntax, Read}
use Rattle.icnf_lines.specs.Marks.{blank, mark_at, mark_of, also_met, Changes}

-- ---- Literals against marks

-- places without a mark still have none
pub record KeepsBlank (old new : List Mark) : Type 0 where
  pub each : (p : ℕ) → mark_at old p ≡ blank → mark_at new p ≡ blank

-- the line has these literals; they were marked as met, and the first of them that isn't held was found, and that isn't assumed
pub record LiteralsFound (vars : List ℕ) (start now : List Mark) (found : Found) (old new : Reader) : Type 0 where
  pub literals : List ℕ
  pub marks : Changes vars also_met start now literals
  pub stranger : found.stranger ≡ find (λ l. not (mark_of vars start l).held) literals
  pub claim : found.claim ≡ find (λ l. not (mark_of vars start l).assumed) literals
  pub read : BodyRead literals_body old new (Ok literals)

abbrev pub FindsLiterals : List ℕ → List Mark → List Mark → Reader → Reader → Result Found LineFault → Type 0
FindsLiterals vars start now old new (Ok found) = LiteralsFound vars start now found old new
FindsLiterals vars start now old new (Err fault) = BodyRead literals_body old new (Err fault)

-- ---- Literals against literals

-- the line has these literals; the first of them that isn't one of an event's, the first of the event's that isn't one of
-- them, and the first of them that isn't assumed
pub record LiteralsMet (held assumed : List ℕ) (met : Met) (old new : Reader) : Type 0 where
  pub literals : List ℕ
  pub stranger : met.stranger ≡ first_missing literals held
  pub unmet : met.unmet ≡ first_missing held literals
  pub claim : met.claim ≡ first_missing literals assumed
  pub read : BodyRead literals_body old new (Ok literals)

abbrev pub MeetsLiterals : List ℕ → List ℕ → Reader → Reader → Result Met LineFault → Type 0
MeetsLiterals held assumed old new (Ok met) = LiteralsMet held assumed met old new
MeetsLiterals held assumed old new (Err fault) = BodyRead literals_body old new (Err fault)

-- ---- The rule that is broken

-- the literals that count as assumed in a line with this letter
abbrev pub assumed_in : Letter → List ℕ → List ℕ
assumed_in letters.Core assumed = assumed
assumed_in _ assumed = []

-- the sets differ where one has a literal that the other lacks
abbrev pub content_rule : Option ℕ → Option ℕ → Option Rule
content_rule None None = None
content_rule _ _ = Some rules.Content

-- the rule that a line with this letter breaks
abbrev pub rule_of : Letter → Event → Met → Option Rule
rule_of letters.Input (events.Input c) m = content_rule m.stranger m.unmet
rule_of letters.Query (events.Query c) m = content_rule m.stranger m.unmet
rule_of letters.Model (events.Model c) m = option_map rules.ModelPart m.stranger
rule_of letters.Core (events.Core c) m = option_or (option_map rules.CorePart m.unmet) (option_map rules.CoreClaim m.claim)
rule_of letters.Values (events.Model c) m = option_map rules.ModelPart m.stranger
rule_of letters.Failed (events.Core c) m = option_map rules.FailedPart m.stranger
rule_of _ _ m = Some rules.Kind

-- a line with literals behind its letter
abbrev pub HasLiterals : Letter → Type 0
HasLiterals letters.Input = Unit {0}
HasLiterals letters.Query = Unit {0}
HasLiterals letters.Model = Unit {0}
HasLiterals letters.Core = Unit {0}
HasLiterals letters.Values = Unit {0}
HasLiterals letters.Failed = Unit {0}
HasLiterals _ = ⊥

-- ---- What stands behind a letter

-- behind the letter stands what makes it an event that breaks this rule first
pub record BodyMeets (letter : Letter) (event : Event) (assumed : List ℕ) (answer : Option Rule) (old new : Reader) : Type 0 where
  pub partner : Event
  pub rule : slice_get (pair_faults assumed event partner) 0 ≡ answer
  pub read : BodyRead (event_at letter) old new (Ok partner)

abbrev pub BodyAnswers : Letter → Event → List ℕ → Reader → Reader → Result (Option Rule) LineFault → Type 0
BodyAnswers letter event assumed old new (Ok answer) = BodyMeets letter event assumed answer old new
BodyAnswers letter event assumed old new (Err fault) = BodyRead (event_at letter) old new (Err fault)

-- a fault of a line, which isn't want of memory
abbrev pub match_fault : LineFault → MatchFault
match_fault (faults.Syntax r) = Syntax r
match_fault faults.Read = Read
match_fault faults.Memory = Read

-- the answer about the line
abbrev pub answer_of : Result (Option Rule) LineFault → Result Match MatchFault
answer_of (Ok None) = Ok Agrees
answer_of (Ok (Some rule)) = Ok (Differs rule)
answer_of (Err fault) = Err (match_fault fault)
