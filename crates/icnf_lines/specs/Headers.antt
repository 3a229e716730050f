-- What reading a stream's header answers.
use Rattle.std.specs.Prelude.{◌≡◌, ℕ, ◌≤◌, ◌⊎◌, List, Ok, Err, IsErrOf}
use Rattle.std.specs.declared.result.Result.{Result}
use Rattle.outside.specs.Faults.{Rose}
use Rattle.session_rules.specs.declared.Rule.{Rule}
use Rattle.session_rules.specs.declared.Rule.TheVariants as rules
use Rattle.session_rules.specs.declared.LineFault.{LineFault}
use Rattle.session_rules.specs.declared.LineFault.TheVariants as lines
use Rattle.session_rules.specs.Reading.{header_line}
use Rattle.slice_tokens.specs.declared.token.TokenFault.{TokenFault}
use Rattle.slice_tokens.specs.declared.token.TokenFault.TheVariants as tokens
use Rattle.slice_tokens.specs.Place.{Place, WhereTold}
use Rattle.slice_tokens.specs.Calls.{Moves, AtEnd}
use Rattle.line_reading.specs.Whole.{Says, Breaks, BehindCut, StopsInOrBefore}
use Rattle.line_reading.specs.Readers.{Reader, to_come}
use Rattle.icnf_lines.specs.declared.header.HeaderFault.{HeaderFault}
use Rattle.icnf_lines.specs.declared.header.HeaderFault.TheVariants.{Syntax, Read}

-- no line is left, and this is the rule of a missing header
pub record Headless (r : Rule) (old : Place) (bytes : List ℕ) (new : Place) (rest : List ℕ) : Type 0 where
  pub end : AtEnd old bytes new rest
  pub rule : r ≡ rules.Header

-- the line that came next is the header of this name, or breaks it, or no line came
abbrev pub HeaderAnswers : List ℕ → Place → List ℕ → Place → List ℕ → Result Unit HeaderFault → Type 0
HeaderAnswers name old bytes new rest (Ok u) = Says (header_line name) tt old bytes new rest
HeaderAnswers name old bytes new rest (Err (Syntax r)) = Breaks (header_line name) r old bytes new rest ⊎ (BehindCut r old bytes new rest ⊎ Headless r old bytes new rest)
HeaderAnswers name old bytes new rest (Err Read) = StopsInOrBefore old bytes new rest

-- The next content line was sought, and held against the header of this name. Over every source the window doesn't go back,
-- and a failed read has its cause in the source; where the source tells its bytes, this is what was read of them.
pub record HeaderRead (name : List ℕ) (old new : Reader) (result : Result Unit HeaderFault) : Type 0 where
  pub moves : Moves old.place new.place
  pub told : WhereTold (to_come old) (to_come new) (λ bytes rest. HeaderAnswers name old.place bytes new.place rest result)
  pub count : old.faults ≤ new.faults
  pub read : IsErrOf result Read → Rose old.faults new.faults

-- the same fault of a header's words, none of which takes memory
abbrev pub SameFault : LineFault → HeaderFault → Type 0
SameFault (lines.Syntax r) fault = fault ≡ Syntax r
SameFault lines.Read fault = fault ≡ Read
SameFault lines.Memory fault = ⊥

-- a fault of the window where it seeks the header's line
abbrev pub stream_fault_of : TokenFault → HeaderFault
stream_fault_of tokens.Read = Read
stream_fault_of _ = Syntax rules.Length
