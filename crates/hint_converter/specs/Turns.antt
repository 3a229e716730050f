-- How far a conversion has come. It holds a side, so many bytes of room and so many lines; the target has grown from `before` to `now`;
-- and the window stands at a place in the source, of which `rest` is to come.
use Rattle.std.specs.Prelude.{◌≡◌, ℕ, ◌+◌, List, [], ◌∷◌, ◌++◌, length, Option, Some, None, Result, Ok, Err}
use Rattle.std.specs.Io.KnownBytes.{Appends}
use Rattle.session_rules.specs.declared.Form.TheVariants.{Idrup, Lidrup}
use Rattle.session_rules.specs.declared.Phase.{Phase}
use Rattle.session_rules.specs.declared.Phase.TheVariants.{Idle}
use Rattle.session_rules.specs.declared.Rule.TheVariants as rules
use Rattle.session_rules.specs.declared.Step.{Step}
use Rattle.session_rules.specs.declared.LStep.{LStep}
use Rattle.session_rules.specs.Lines.{Line, end_line, most_bytes}
use Rattle.session_rules.specs.Reading.{value_of, idrup_line}
use Rattle.slice_tokens.specs.Place.{Place, later, last_line}
use Rattle.elimination_laws.specs.Accepted.{proof_text}
use Rattle.conversion_laws.specs.Converted.{IsConvertedStep, IsConverted}
use Rattle.conversion_laws.specs.Judged.{IsJudged}
use Rattle.pair_matcher.specs.Sides.{IdrupView, StandsFor}
use Rattle.pair_matcher.specs.Checks.{CutComes}
use Rattle.hint_converter.specs.declared.converting.ConvertEnd.{ConvertEnd}
use Rattle.hint_converter.specs.declared.converting.ConvertEnd.TheVariants.{Done, Refused}
use Rattle.hint_converter.specs.declared.converting.ConvertFault.{ConvertFault}
use Rattle.hint_converter.specs.Targets.{Ends}

-- the target grew by the conversion of these steps, and this room and these lines say so
pub record IsWritten (kept : List Step) (room lines : ℕ) (before now : Option (List ℕ)) : Type 0 where
  pub steps : List LStep
  pub converted : IsConverted kept steps
  pub wrote : Appends before now (proof_text Lidrup steps)
  pub left : most_bytes ≡ room + length (proof_text Lidrup steps)
  pub counted : lines ≡ length steps

-- where the source is read on
pub record ReadsOn (source : List ℕ) (place : Place) (rest : List ℕ) : Type 0 where
  pub cut : CutComes place rest
  pub last : last_line place rest ≡ end_line source

-- between two lines: those before were judged without a fault, and their conversion was written
pub record Converting (v : IdrupView) (room lines : ℕ) (before now : Option (List ℕ)) (place : Place) (source rest : List ℕ) : Type 0 where
  pub kept : List Step
  pub judged : IsJudged Idrup source kept (later place rest)
  pub stands : StandsFor v kept
  pub target : IsWritten kept room lines before now
  pub reads : ReadsOn source place rest

-- a line was read, which says this step
pub record AtStep (step : Step) (v : IdrupView) (room lines : ℕ) (before now : Option (List ℕ)) (place : Place) (source rest : List ℕ) : Type 0 where
  pub kept : List Step
  pub line : Line
  pub says : value_of idrup_line line ≡ Ok step
  pub number : line.number ≡ place.line
  pub judged : IsJudged Idrup source kept (line ∷ later place rest)
  pub stands : StandsFor v kept
  pub target : IsWritten kept room lines before now
  pub reads : ReadsOn source place rest

-- its step was judged without a fault, and becomes this step with ids and hints
pub record AtLine (line : LStep) (v : IdrupView) (room lines : ℕ) (before now : Option (List ℕ)) (place : Place) (source rest : List ℕ) : Type 0 where
  pub kept : List Step
  pub step : Step
  pub judged : IsJudged Idrup source (kept ++ step ∷ []) (later place rest)
  pub stands : StandsFor v (kept ++ step ∷ [])
  pub target : IsWritten kept room lines before now
  pub becomes : IsConvertedStep kept step line
  pub reads : ReadsOn source place rest

-- what one turn answers: how the conversion ends, or none, and it goes on
abbrev pub Turns : Result (Option ConvertEnd) ConvertFault → IdrupView → ℕ → ℕ → Option (List ℕ) → Option (List ℕ) → Place → List ℕ → List ℕ → Type 0
Turns (Ok None) v room lines before now place source rest = Converting v room lines before now place source rest
Turns (Ok (Some end)) v room lines before now place source rest = Ends (Ok end) before now source
Turns (Err fault) v room lines before now place source rest = Ends (Err fault) before now source

-- how a conversion ends at the end of the source, by its last query's phase
abbrev pub end_of : Phase → ℕ → ℕ → ConvertEnd
end_of Idle line lines = Done lines
end_of _ line lines = Refused line rules.Unfinished
