use Rattle.occurrence_lists.proofs.Standing.{added, removed, kept, reordered, counted, held_is_listed, listed_is_held}
use Rattle.occurrence_lists.proofs.laws.lists_stand_for_clauses.Goals as goal

pub returns-clause-added : goal.returns-clause-added
returns-clause-added c = added

pub returns-clause-removed : goal.returns-clause-removed
returns-clause-removed c = removed

pub returns-clause-order : goal.returns-clause-order
returns-clause-order c = reordered

pub returns-clause-counted : goal.returns-clause-counted
returns-clause-counted c = counted

pub returns-clause-there : goal.returns-clause-there
returns-clause-there c = held_is_listed

pub returns-clause-whose : goal.returns-clause-whose
returns-clause-whose c = listed_is_held

pub returns-clause-same : goal.returns-clause-same
returns-clause-same c = kept
