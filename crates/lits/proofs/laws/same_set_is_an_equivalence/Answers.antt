use Rattle.std.specs.Cmp.{both_ways}
use Rattle.lits.specs.Clause.{same_set}
use Rattle.lits.proofs.Sets.{same_set-itself, same_set-flip, same_set-chain}
use Rattle.lits.proofs.laws.same_set_is_an_equivalence.Goals as goal

pub returns-clause-reflexive : goal.returns-clause-reflexive
returns-clause-reflexive c = same_set-itself

pub returns-clause-symmetric : goal.returns-clause-symmetric
returns-clause-symmetric c = λ d e. both_ways (same_set d e) (same_set e d) (same_set-flip d e) (same_set-flip e d)

pub returns-clause-transitive : goal.returns-clause-transitive
returns-clause-transitive c = same_set-chain
