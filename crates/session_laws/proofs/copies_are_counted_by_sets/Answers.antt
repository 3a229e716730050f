use Rattle.session_laws.proofs.Laws.{active_same, weakened_same}
use Rattle.session_laws.proofs.copies_are_counted_by_sets.Goals as goal

pub returns-clause-active : goal.returns-clause-active
returns-clause-active c = active_same

pub returns-clause-weakened : goal.returns-clause-weakened
returns-clause-weakened c = weakened_same
