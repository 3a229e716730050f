-- What the readers of a line's parts answer, by what the words of the line say.
use Rattle.std.specs.Prelude.{◌≡◌, ℕ, Bool, false, nat_lt, if◌then◌else◌, List, [], ◌∷◌, length, Some, None, Ok, Err, ⊤}
use Rattle.std.specs.declared.option.Option.{Option}
use Rattle.std.specs.declared.result.Result.{Result}
use Rattle.session_rules.specs.declared.Rule.{Rule}
use Rattle.session_rules.specs.declared.Rule.TheVariants as rules
use Rattle.session_rules.specs.declared.LineFault.{LineFault}
use Rattle.session_rules.specs.declared.LineFault.TheVariants.{Syntax, Read, Memory}
use Rattle.session_rules.specs.Lines.{Line}
use Rattle.session_rules.specs.Reading.{Fault, wrong, missing, Part}
use Rattle.slice_tokens.specs.declared.token.TokenFault.{TokenFault}
use Rattle.slice_tokens.specs.declared.token.TokenFault.TheVariants as tokens
use Rattle.slice_tokens.specs.Place.{Place, present}
use Rattle.slice_tokens.specs.Due.{known_words}
use Rattle.slice_tokens.specs.Calls.{Moves, SameLater}

-- the rule that a fault breaks in a line that is cut, or isn't
abbrev pub fault_rule : Bool → Fault → Rule
fault_rule cut (wrong r) = r
fault_rule cut (missing r) = if cut then rules.Length else r

-- a part of the line has this value and leaves these words, or breaks this rule
abbrev pub PartAnswers : {A : Type 0} → Part A → Line → Result A LineFault → Type 0
PartAnswers part after (Ok x) = part ≡ Ok (x, known_words after)
PartAnswers (Ok p) after (Err (Syntax r)) = ⊥
PartAnswers (Err fault) after (Err (Syntax r)) = r ≡ fault_rule after.cut fault
PartAnswers part after (Err Read) = ⊤
PartAnswers part after (Err Memory) = ⊤

-- a line behind some of its words is the same line
pub record SameLine (before after : Line) : Type 0 where
  pub number : after.number ≡ before.number
  pub cut : after.cut ≡ before.cut

-- a part of the present line was read
pub record ReadsPart {A : Type 0} (part : List (List ℕ) → Part A) (result : Result A LineFault) (old : Place) (bytes : List ℕ) (new : Place) (rest : List ℕ) : Type 0 where
  pub answer : PartAnswers (part (known_words (present old bytes))) (present new rest) result
  pub line : SameLine (present old bytes) (present new rest)
  pub behind : SameLater old bytes new rest

-- the rule that a line breaks which should have no further word
abbrev pub end_fault : Bool → List (List ℕ) → Option Rule
end_fault cut [] = if cut then Some rules.Length else None
end_fault cut (w ∷ ws) = Some rules.Excess

abbrev pub EndAnswers : Option Rule → Result Unit LineFault → Type 0
EndAnswers fault (Ok x) = fault ≡ None
EndAnswers fault (Err (Syntax r)) = fault ≡ Some r
EndAnswers fault (Err Read) = ⊤
EndAnswers fault (Err Memory) = ⊥

-- the end of the present line was sought
pub record EndsLine (result : Result Unit LineFault) (old : Place) (bytes : List ℕ) (new : Place) (rest : List ℕ) : Type 0 where
  pub answer : EndAnswers (end_fault (present old bytes).cut (known_words (present old bytes))) result
  pub line : SameLine (present old bytes) (present new rest)
  pub behind : SameLater old bytes new rest

-- how the reader of a part leaves the window, over any source: in its line, which isn't due again once a word of it was taken
pub record Stays (old new : Place) : Type 0 where
  pub moves : Moves old new
  pub line : new.line ≡ old.line
  pub standing : new.standing ≡ old.standing
  pub taken : old.fresh ≡ false → new.fresh ≡ false

-- a fault of the window, where a word that is too long breaks this rule
abbrev pub line_fault_of : Rule → TokenFault → LineFault
line_fault_of long tokens.Read = Read
line_fault_of long tokens.LongWord = Syntax long
line_fault_of long tokens.Length = Syntax rules.Length

-- a part of one word
abbrev pub word_or_fault : {A : Type 0} → Result A Rule → List (List ℕ) → Part A
word_or_fault (Ok x) ws = Ok (x, ws)
word_or_fault (Err r) ws = Err (wrong r)

abbrev pub word_part : {A : Type 0} → (List ℕ → Result A Rule) → Rule → Rule → List (List ℕ) → Part A
word_part says none long [] = Err (missing none)
word_part says none long (w ∷ ws) = if nat_lt 32 (length w) then Err (wrong long) else word_or_fault (says w) ws
