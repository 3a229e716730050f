use Rattle.propagation.proofs.Closing.{consistent_trail}
use Rattle.propagation.proofs.Forcing.{lacks}
use Rattle.propagation.proofs.Places.{entry_place, entry_level, entry_reason}
use Rattle.propagation.proofs.law_of_places.Goals as goal

pub returns-clause-place : goal.returns-clause-place
returns-clause-place c = entry_place

pub returns-clause-level : goal.returns-clause-level
returns-clause-level c = entry_level

pub returns-clause-reason : goal.returns-clause-reason
returns-clause-reason c = entry_reason

pub returns-clause-negation : goal.returns-clause-negation
returns-clause-negation c = λ e l k h. lacks _ (consistent_trail e k l h)
