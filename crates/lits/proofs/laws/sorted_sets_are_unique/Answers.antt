use Rattle.lits.proofs.Ascending.{ascends_from, increasing_from, unique, has-set_of, ascends_set_of, set_of-same, same_set-from_set_of, same_from_Equal, Equal_from_same}
use Rattle.lits.specs.Clause.{set_of}
use Rattle.lits.proofs.laws.sorted_sets_are_unique.Goals as goal

pub returns-clause-members : goal.returns-clause-members
returns-clause-members c = has-set_of

pub returns-clause-increasing : goal.returns-clause-increasing
returns-clause-increasing c = λ d. increasing_from (set_of d) (ascends_set_of d)

pub returns-clause-unique : goal.returns-clause-unique
returns-clause-unique c = λ s t a b h. unique s t (ascends_from s a) (ascends_from t b) h

pub returns-clause-same : goal.returns-clause-same
returns-clause-same c = λ d e. (set_of-same d e, same_set-from_set_of d e)

pub returns-clause-order : goal.returns-clause-order
returns-clause-order c = λ s t. (same_from_Equal s t, Equal_from_same s t)
