-- The clauses that translated steps leave by id, and what is kept of one, read back through the numbering.
use Rattle.std.specs.Prelude.{ℕ, List, Option, option_map}
use Rattle.lits.specs.Clause.{set_of}
use Rattle.lits.specs.Numbering.{dense_lits, file_lits}
use Rattle.side_laws.specs.ClauseStates.{ClauseState, kept}
use Rattle.side_laws.specs.Sets.{GivenClause, standing_so}

-- a clause that a step gave, with its literals translated
abbrev pub dense_given : List ℕ → GivenClause → GivenClause
dense_given vars g = standing_so g.standing (dense_lits vars g.clause)

-- what is kept of a clause over numbers, over the file's variables: the set of its literals, read back
abbrev pub file_state : List ℕ → ClauseState → ClauseState
file_state vars k = kept k.active (set_of (file_lits vars k.literals))

abbrev pub file_kept : List ℕ → Option ClauseState → Option ClauseState
file_kept vars o = option_map (file_state vars) o
