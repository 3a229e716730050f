-- How much of a stream a check has taken where it refuses.
use Rattle.std.specs.Prelude.{◌≡◌, ℕ, ◌-◌, ◌<◌, ◌⊎◌, ⊤, List, [], ◌++◌, length, take, count_by, Option, Some}
use Rattle.session_rules.specs.declared.Side.TheVariants.{Interaction, Proof}
use Rattle.session_rules.specs.declared.Verdict.{Verdict}
use Rattle.session_rules.specs.declared.Verdict.TheVariants.{Accepted, Refused}
use Rattle.session_rules.specs.Lines.{end_line, is_line_feed}
use Rattle.slice_tokens.specs.Place.{Place, at_start, last_line}
use Rattle.slice_tokens.specs.Calls.{Passed}

-- a place in the stream of all these bytes, of which those that are left are still to come
pub record IsWithin (all : List ℕ) (place : Place) (rest : List ℕ) : Type 0 where
  pub passed : Passed at_start all place rest
  pub last : last_line place rest ≡ end_line all

-- Of a stream of these bytes no more was taken behind this line than one buffer: all that was taken but the last 65,536 bytes
-- stands in lines up to this one. The number of a byte's line is 1 plus the line feeds before it. What wasn't taken the source has
-- left, where there is something.
pub record TakesUpTo (all : List ℕ) (left : Option (List ℕ)) (line : ℕ) : Type 0 where
  pub taken : List ℕ
  pub rest : List ℕ
  pub whole : all ≡ taken ++ rest
  pub has_rest : (left ≡ Some rest) ⊎ (rest ≡ [])
  pub within : count_by is_line_feed (take (length taken - 65536) all) < line

-- what a verdict says of the stream that it names, by what both sources have left
abbrev pub TakenBy : Verdict → List ℕ → List ℕ → Option (List ℕ) → Option (List ℕ) → Type 0
TakenBy (Accepted queries) a b left others = ⊤
TakenBy (Refused Interaction line rule) a b left others = TakesUpTo a left line
TakenBy (Refused Proof line rule) a b left others = TakesUpTo b others line
