-- What holding a run of lines against the proof's event answers, each of which tells a part of it.
use Rattle.std.specs.Prelude.{◌≡◌, ℕ, ◌≤◌, true, List, [], ◌∷◌, Option, option_map, Ok, Err, IsErrOf}
use Rattle.std.specs.declared.result.Result.{Result}
use Rattle.outside.specs.Faults.{Rose}
use Rattle.session_rules.specs.declared.Event.{Event}
use Rattle.session_rules.specs.declared.Event.TheVariants as events
use Rattle.session_rules.specs.declared.Letter.{Letter}
use Rattle.session_rules.specs.declared.Letter.TheVariants as letters
use Rattle.session_rules.specs.declared.Rule.{Rule}
use Rattle.session_rules.specs.declared.Rule.TheVariants as rules
use Rattle.session_rules.specs.Lines.{Line}
use Rattle.session_rules.specs.Logic.{has}
use Rattle.session_rules.specs.Pair.{line_letter, same_letter, run_length}
use Rattle.slice_tokens.specs.Place.{Place, WhereTold, later, is_cut, last_line}
use Rattle.slice_tokens.specs.Calls.{Moves, Passed}
use Rattle.line_reading.specs.Readers.{Reader, to_come}
use Rattle.icnf_lines.specs.declared.marks.Mark.{Mark}
use Rattle.icnf_lines.specs.declared.matching.Match.{Match}
use Rattle.icnf_lines.specs.declared.matching.Match.TheVariants.{Agrees, Ended, Differs}
use Rattle.icnf_lines.specs.declared.matching.MatchFault.{MatchFault}
use Rattle.icnf_lines.specs.declared.matching.MatchFault.TheVariants.{Read}
use Rattle.icnf_lines.specs.Marks.{mark_of}
use Rattle.icnf_lines.specs.Matching.{IsGood, Matches}

-- the letter of the line that tells all of a model or of a core, and that of the lines that tell parts of it
abbrev pub whole_letter : Event → Letter
whole_letter (events.Core u) = letters.Core
whole_letter _ = letters.Model

abbrev pub part_letter : Event → Letter
part_letter (events.Core u) = letters.Failed
part_letter _ = letters.Values

-- the rule that such a line breaks, by the first of its literals that isn't one of the event's
abbrev pub part_rule : Event → Option ℕ → Option Rule
part_rule (events.Core u) stranger = option_map rules.FailedPart stranger
part_rule _ stranger = option_map rules.ModelPart stranger

-- the literals that are marked as held are these
pub record AreHeld (vars : List ℕ) (table : List Mark) (ls : List ℕ) : Type 0 where
  pub each : (l : ℕ) → (mark_of vars table l).held ≡ has ls l

-- the first of some lines begins with this letter
abbrev pub BeginWith : Letter → List Line → Type 0
BeginWith first [] = ⊥
BeginWith first (line ∷ more) = line_letter line ≡ first

-- the line that came next is one of the run, and good
pub record PartAgrees (event : Event) (assumed : List ℕ) (old : Place) (bytes : List ℕ) (new : Place) (rest : List ℕ) : Type 0 where
  pub line : Line
  pub lines : later old bytes ≡ line ∷ later new rest
  pub good : IsGood event assumed line
  pub part : same_letter (line_letter line) (part_letter event) ≡ true
  pub cut : is_cut new rest ≡ is_cut old bytes
  pub last : last_line new rest ≡ last_line old bytes
  pub passed : Passed old bytes new rest

-- the answer about the next line of a run: it is good, or the run has ended, or it isn't good
abbrev pub PartMatches : Event → List ℕ → Place → List ℕ → Place → List ℕ → Result Match MatchFault → Type 0
PartMatches event assumed old bytes new rest (Ok Agrees) = PartAgrees event assumed old bytes new rest
PartMatches event assumed old bytes new rest (Ok Ended) = Matches event assumed (run_length (part_letter event) (later old bytes)) old bytes new rest (Ok Agrees)
PartMatches event assumed old bytes new rest (Ok (Differs r)) = Matches event assumed (run_length (part_letter event) (later old bytes)) old bytes new rest (Ok (Differs r))
PartMatches event assumed old bytes new rest (Err fault) = Matches event assumed (run_length (part_letter event) (later old bytes)) old bytes new rest (Err fault)

-- The next line of a run was held against the event, where one comes. Over every source the window doesn't go back, and a failed
-- read has its cause in the source; where the source tells its bytes, this is what was read of them.
pub record PartMatched (Given : List Line → Type 0) (event : Event) (assumed : List ℕ) (old new : Reader) (result : Result Match MatchFault) : Type 0 where
  pub moves : Moves old.place new.place
  pub told : WhereTold (to_come old) (to_come new) (λ bytes rest. Given (later old.place bytes) → PartMatches event assumed old.place bytes new.place rest result)
  pub count : old.faults ≤ new.faults
  pub read : IsErrOf result Read → Rose old.faults new.faults

abbrev pub AnyLines : List Line → Type 0
AnyLines ls = Unit {0}
