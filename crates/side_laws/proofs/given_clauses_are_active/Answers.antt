use Rattle.side_laws.proofs.Ids.{holds_nothing, holds_given, holds_silent}
use Rattle.side_laws.proofs.given_clauses_are_active.Goals as goal

pub returns-clause-nothing : goal.returns-clause-nothing
returns-clause-nothing c = holds_nothing

pub returns-clause-given : goal.returns-clause-given
returns-clause-given c = holds_given

pub returns-clause-silent : goal.returns-clause-silent
returns-clause-silent c = holds_silent
