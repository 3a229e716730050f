-- What holding the interaction's partners of the proof's event against it answers.
use Rattle.std.specs.Prelude.{◌≡◌, ℕ, ◌<◌, ◌≤◌, ◌⊎◌, true, List, ◌∷◌, ◌++◌, length, take, drop, All, Some, Ok, Err, [], IsErrOf, slice_get}
use Rattle.std.specs.declared.result.Result.{Result}
use Rattle.outside.specs.Faults.{Rose}
use Rattle.session_rules.specs.declared.Event.{Event}
use Rattle.session_rules.specs.declared.Rule.{Rule}
use Rattle.session_rules.specs.declared.Rule.TheVariants as rules
use Rattle.session_rules.specs.Lines.{Line}
use Rattle.session_rules.specs.Reading.{icnf_line, value_of}
use Rattle.session_rules.specs.Pair.{pair_faults, partner_count, owes_partner}
use Rattle.slice_tokens.specs.Place.{Place, WhereTold, later, is_cut, last_line}
use Rattle.slice_tokens.specs.Calls.{Moves, Passed, AtEnd}
use Rattle.line_reading.specs.Whole.{StopsInOrBefore}
use Rattle.line_reading.specs.Readers.{Reader, to_come}
use Rattle.icnf_lines.specs.declared.matching.Match.{Match}
use Rattle.icnf_lines.specs.declared.matching.Match.TheVariants.{Agrees, Ended, Differs}
use Rattle.icnf_lines.specs.declared.matching.MatchFault.{MatchFault}
use Rattle.icnf_lines.specs.declared.matching.MatchFault.TheVariants.{Syntax, Read}

-- ---- Lines that agree

-- a line says an event that breaks no rule as a partner of the proof's event
pub record IsGood (event : Event) (assumed : List ℕ) (line : Line) : Type 0 where
  pub partner : Event
  pub value : value_of icnf_line line ≡ Ok partner
  pub kept : pair_faults assumed event partner ≡ []

abbrev pub AreGood : Event → List ℕ → List Line → Type 0
AreGood event assumed ls = All (IsGood event assumed) ls

-- ---- Among so many lines that come next

-- all of them are good, and the lines behind them come next; there is one where the event owes a partner
pub record AllAgree (event : Event) (assumed : List ℕ) (n : ℕ) (old : Place) (bytes : List ℕ) (new : Place) (rest : List ℕ) : Type 0 where
  pub good : AreGood event assumed (take n (later old bytes))
  pub lines : later new rest ≡ drop n (later old bytes)
  pub found : owes_partner event ≡ true → 0 < n
  pub cut : is_cut new rest ≡ is_cut old bytes
  pub last : last_line new rest ≡ last_line old bytes
  pub passed : Passed old bytes new rest

-- no line is left, and the event owes a partner
pub record LacksPartner (event : Event) (old : Place) (bytes : List ℕ) (new : Place) (rest : List ℕ) : Type 0 where
  pub end : AtEnd old bytes new rest
  pub owes : owes_partner event ≡ true

-- the window stands in one of them, and those before it are good
pub record StandsBehind (event : Event) (assumed : List ℕ) (n : ℕ) (good : List Line) (line : Line) (more : List Line) (old : Place) (bytes : List ℕ) (new : Place) (rest : List ℕ) : Type 0 where
  pub lines : later old bytes ≡ good ++ line ∷ more
  pub are_good : AreGood event assumed good
  pub within : length good < n
  pub number : line.number ≡ new.line
  pub last : last_line new rest ≡ last_line old bytes
  pub passed : Passed old bytes new rest

-- one of them is the first that isn't good: it says an event that breaks this rule first
pub record OneDiffers (event : Event) (assumed : List ℕ) (n : ℕ) (r : Rule) (old : Place) (bytes : List ℕ) (new : Place) (rest : List ℕ) : Type 0 where
  pub good : List Line
  pub line : Line
  pub partner : Event
  pub stands : StandsBehind event assumed n good line (later new rest) old bytes new rest
  pub value : value_of icnf_line line ≡ Ok partner
  pub rule : slice_get (pair_faults assumed event partner) 0 ≡ Some r
  pub cut : is_cut new rest ≡ is_cut old bytes

-- one of them is the first that isn't good: it breaks this rule of syntax
pub record OneBreaks (event : Event) (assumed : List ℕ) (n : ℕ) (r : Rule) (old : Place) (bytes : List ℕ) (new : Place) (rest : List ℕ) : Type 0 where
  pub good : List Line
  pub line : Line
  pub more : List Line
  pub stands : StandsBehind event assumed n good line more old bytes new rest
  pub rule : value_of icnf_line line ≡ Err r

-- all lines that are left are good, and yet the bound cuts the stream behind them
pub record CutBehindRun (event : Event) (assumed : List ℕ) (r : Rule) (old : Place) (bytes : List ℕ) (new : Place) (rest : List ℕ) : Type 0 where
  pub good : AreGood event assumed (later old bytes)
  pub cut : is_cut old bytes ≡ true
  pub rule : r ≡ rules.Length
  pub passed : Passed old bytes new rest

-- a read failed behind good lines: in the line that came next then, or before it
pub record StopsInRun (event : Event) (assumed : List ℕ) (old : Place) (bytes : List ℕ) (new : Place) (rest : List ℕ) : Type 0 where
  pub good : List Line
  pub between : Place
  pub coming : List ℕ
  pub lines : later old bytes ≡ good ++ later between coming
  pub are_good : AreGood event assumed good
  pub cut : is_cut between coming ≡ is_cut old bytes
  pub last : last_line between coming ≡ last_line old bytes
  pub passed : Passed old bytes between coming
  pub stops : StopsInOrBefore between coming new rest

-- the answer about so many lines that come next, under these assumptions
abbrev pub Matches : Event → List ℕ → ℕ → Place → List ℕ → Place → List ℕ → Result Match MatchFault → Type 0
Matches event assumed n old bytes new rest (Ok Agrees) = AllAgree event assumed n old bytes new rest
Matches event assumed n old bytes new rest (Ok Ended) = LacksPartner event old bytes new rest
Matches event assumed n old bytes new rest (Ok (Differs r)) = OneDiffers event assumed n r old bytes new rest
Matches event assumed n old bytes new rest (Err (Syntax r)) = OneBreaks event assumed n r old bytes new rest ⊎ CutBehindRun event assumed r old bytes new rest
Matches event assumed n old bytes new rest (Err Read) = StopsInRun event assumed old bytes new rest

-- Of the lines that come next the first were held against the proof's event, as many as these lines tell. Over every source the
-- window doesn't go back, and a failed read has its cause in the source; where the source tells its bytes, this is what was read
-- of them.
pub record Matched (many : List Line → ℕ) (event : Event) (assumed : List ℕ) (old new : Reader) (result : Result Match MatchFault) : Type 0 where
  pub moves : Moves old.place new.place
  pub told : WhereTold (to_come old) (to_come new) (λ bytes rest. Matches event assumed (many (later old.place bytes)) old.place bytes new.place rest result)
  pub count : old.faults ≤ new.faults
  pub read : IsErrOf result Read → Rose old.faults new.faults

-- the event's partners were held against it
abbrev pub LineMatched : Event → List ℕ → Reader → Reader → Result Match MatchFault → Type 0
LineMatched event assumed old new result = Matched (partner_count event) event assumed old new result
