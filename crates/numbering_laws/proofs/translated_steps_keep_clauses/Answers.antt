use Rattle.numbering_laws.proofs.Faults.{active_copies-dense, weakened_copies-dense, active_clauses-dense}
use Rattle.numbering_laws.proofs.IdFaults.{standing-dense, active_clause-dense}
use Rattle.numbering_laws.proofs.translated_steps_keep_clauses.Goals as goal

pub returns-clause-active : goal.returns-clause-active
returns-clause-active c = active_copies-dense

pub returns-clause-weakened : goal.returns-clause-weakened
returns-clause-weakened c = weakened_copies-dense

pub returns-clause-clauses : goal.returns-clause-clauses
returns-clause-clauses c = active_clauses-dense

pub returns-clause-standing : goal.returns-clause-standing
returns-clause-standing c = standing-dense

pub returns-clause-named : goal.returns-clause-named
returns-clause-named c = active_clause-dense
