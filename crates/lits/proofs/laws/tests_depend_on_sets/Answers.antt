use Rattle.lits.proofs.Sets.{part-same, tautology-same}
use Rattle.lits.proofs.Ascending.{same_set-set_of}
use Rattle.lits.proofs.laws.tests_depend_on_sets.Goals as goal

pub returns-clause-part : goal.returns-clause-part
returns-clause-part c = part-same

pub returns-clause-tautology : goal.returns-clause-tautology
returns-clause-tautology c = tautology-same

pub returns-clause-sorted : goal.returns-clause-sorted
returns-clause-sorted c = same_set-set_of
