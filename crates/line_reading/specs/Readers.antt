-- A window over its source, and how the readers of a line's parts and of whole lines leave it.
use Rattle.std.specs.Prelude.{ℕ, ◌<◌, ◌≤◌, List, IfOk, IsErrOf, IsTrue}
use Rattle.std.specs.Option.{is_some}
use Rattle.std.specs.declared.option.Option.{Option}
use Rattle.std.specs.declared.result.Result.{Result}
use Rattle.outside.specs.Faults.{Rose}
use Rattle.session_rules.specs.declared.Letter.{Letter}
use Rattle.session_rules.specs.declared.LineFault.{LineFault}
use Rattle.session_rules.specs.declared.LineFault.TheVariants.{Read}
use Rattle.session_rules.specs.Reading.{Fault, Part}
use Rattle.slice_tokens.specs.Place.{Place, ahead, WhereTold}
use Rattle.slice_tokens.specs.Calls.{Moves}
use Rattle.line_reading.specs.Parts.{ReadsPart, EndsLine, Stays}
use Rattle.line_reading.specs.Whole.{ReadsBody, Enters, SeesNext, LineAnswers}

-- what contracts see of a window over a source: where the window stands, what the source has left, where it tells that,
-- and how often the source has failed
pub record Reader : Type 0 where
  pub place : Place
  pub left : Option (List ℕ)
  pub faults : ℕ

-- a window at this place over a source, of which these are the bytes that are left and the count of faults
abbrev pub reader : {S : Type 0} → (S → Option (List ℕ)) → (S → ℕ) → Place → S → Reader
reader left faults place source = record { place = place; left = left source; faults = faults source }

-- the bytes that are still to come, where the source tells them
abbrev pub to_come : Reader → Option (List ℕ)
to_come r = ahead r.place r.left

-- ---- A part of the present line

-- A part of the present line was read. Over every source the window stays in its line, and a failed read has its cause in the
-- source; where the source tells its bytes, this is what was read of them.
pub record ReadsInLine {A : Type 0} (Tells : Place → List ℕ → Place → List ℕ → Type 0)
    (old new : Reader) (result : Result A LineFault) : Type 0 where
  pub stays : Stays old.place new.place
  pub told : WhereTold (to_come old) (to_come new) (λ bytes rest. Tells old.place bytes new.place rest)
  pub count : old.faults ≤ new.faults
  pub read : IsErrOf result Read → Rose old.faults new.faults

-- the next words of the line are this part of it: its value was read, or it breaks the rule
abbrev pub PartRead : {A : Type 0} → (List (List ℕ) → Part A) → Reader → Reader → Result A LineFault → Type 0
PartRead part old new result = ReadsInLine (ReadsPart part result) old new result

-- the body of the line, all its words from here to the line's end, says this value, or breaks the rule
abbrev pub BodyRead : {A : Type 0} → (List (List ℕ) → Result A Fault) → Reader → Reader
    → Result A LineFault → Type 0
BodyRead says old new result = ReadsInLine (ReadsBody says result) old new result

-- no word was left in the line, or the answer is a fault
abbrev pub EndRead : Reader → Reader → Result Unit LineFault → Type 0
EndRead old new result = ReadsInLine (EndsLine result) old new result

-- ---- The next line

-- The next content line was sought, and read as far as the answer tells. Over every source the window doesn't go back, and a
-- failed read has its cause in the source; where the source tells its bytes, this is what was read of them.
pub record ReadsNextLine {A : Type 0} (Tells : Place → List ℕ → Place → List ℕ → Type 0)
    (old new : Reader) (result : Result (Option A) LineFault) : Type 0 where
  pub moves : Moves old.place new.place
  pub progress : IfOk result (λ line. IsTrue (is_some line) → old.place.passed < new.place.passed)
  pub told : WhereTold (to_come old) (to_come new) (λ bytes rest. Tells old.place bytes new.place rest)
  pub count : old.faults ≤ new.faults
  pub read : IsErrOf result Read → Rose old.faults new.faults

-- the letter of the next content line was read, or no line is left
abbrev pub LetterRead : Reader → Reader → Result (Option Letter) LineFault → Type 0
LetterRead old new result =
    ReadsNextLine (λ place bytes after rest. Enters place bytes after rest result) old new result

-- the next content line was read, or no line is left
abbrev pub LineRead : {A : Type 0} → (List (List ℕ) → Result A Fault) → Reader → Reader
    → Result (Option A) LineFault → Type 0
LineRead read old new result =
    ReadsNextLine (λ place bytes after rest. LineAnswers read place bytes after rest result) old new result

-- The letter of the next content line was looked at, or no line is left. Over every source the window doesn't go back, and a
-- failed read has its cause in the source; where the source tells its bytes, this is what was seen of them.
pub record LetterPeeked (old new : Reader) (result : Result (Option Letter) LineFault) : Type 0 where
  pub moves : Moves old.place new.place
  pub told : WhereTold (to_come old) (to_come new) (λ bytes rest. SeesNext old.place bytes new.place rest result)
  pub count : old.faults ≤ new.faults
  pub read : IsErrOf result Read → Rose old.faults new.faults
