-- What holding the one line that comes next against the proof's event answers.
use Rattle.std.specs.Prelude.{◌≡◌, ℕ, ◌≤◌, ◌⊎◌, List, Option, Some, None, Ok, Err, IsErrOf, slice_get}
use Rattle.std.specs.declared.result.Result.{Result}
use Rattle.outside.specs.Faults.{Rose}
use Rattle.session_rules.specs.declared.Event.{Event}
use Rattle.session_rules.specs.declared.Rule.{Rule}
use Rattle.session_rules.specs.Reading.{icnf_line}
use Rattle.session_rules.specs.Pair.{pair_faults}
use Rattle.slice_tokens.specs.Place.{Place, WhereTold}
use Rattle.slice_tokens.specs.Calls.{Moves, AtEnd}
use Rattle.line_reading.specs.Whole.{Says, Breaks, BehindCut, StopsInOrBefore}
use Rattle.line_reading.specs.Readers.{Reader, to_come}
use Rattle.icnf_lines.specs.declared.matching.Match.{Match}
use Rattle.icnf_lines.specs.declared.matching.Match.TheVariants.{Agrees, Ended, Differs}
use Rattle.icnf_lines.specs.declared.matching.MatchFault.{MatchFault}
use Rattle.icnf_lines.specs.declared.matching.MatchFault.TheVariants.{Syntax, Read}

-- the line that came next says an event, and this is the first rule that it breaks as the partner of the proof's event
pub record Meets (event : Event) (assumed : List ℕ) (answer : Option Rule) (old : Place) (bytes : List ℕ) (new : Place) (rest : List ℕ) : Type 0 where
  pub partner : Event
  pub says : Says icnf_line partner old bytes new rest
  pub rule : slice_get (pair_faults assumed event partner) 0 ≡ answer

-- the answer about the line that came next, under these assumptions
abbrev pub NextMatches : Event → List ℕ → Place → List ℕ → Place → List ℕ → Result Match MatchFault → Type 0
NextMatches event assumed old bytes new rest (Ok Agrees) = Meets event assumed None old bytes new rest
NextMatches event assumed old bytes new rest (Ok Ended) = AtEnd old bytes new rest
NextMatches event assumed old bytes new rest (Ok (Differs r)) = Meets event assumed (Some r) old bytes new rest
NextMatches event assumed old bytes new rest (Err (Syntax r)) = Breaks icnf_line r old bytes new rest ⊎ BehindCut r old bytes new rest
NextMatches event assumed old bytes new rest (Err Read) = StopsInOrBefore old bytes new rest

-- The next content line was sought, and held against the proof's event. Over every source the window doesn't go back, and a
-- failed read has its cause in the source; where the source tells its bytes, this is what was read of them.
pub record NextMatched (event : Event) (assumed : List ℕ) (old new : Reader) (result : Result Match MatchFault) : Type 0 where
  pub moves : Moves old.place new.place
  pub told : WhereTold (to_come old) (to_come new) (λ bytes rest. NextMatches event assumed old.place bytes new.place rest result)
  pub count : old.faults ≤ new.faults
  pub read : IsErrOf result Read → Rose old.faults new.faults
