use Rattle.lits.proofs.Members.{has_at, has_from}
use Rattle.lits.proofs.Sets.{part_at, part_from, same_at, same_from, tautology_at, tautology_from}
use Rattle.lits.proofs.laws.sets_are_their_members.Goals as goal

pub returns-clause-member : goal.returns-clause-member
returns-clause-member c = λ d l. (has_at d l, has_from d l)

pub returns-clause-part : goal.returns-clause-part
returns-clause-part c = λ d e. (part_at d e, part_from d e)

pub returns-clause-same : goal.returns-clause-same
returns-clause-same c = λ d e. (same_at d e, same_from d e)

pub returns-clause-tautology : goal.returns-clause-tautology
returns-clause-tautology c = λ d. (tautology_at d, λ h. tautology_from d h.0 h.1 h.2)
