use Rattle.conversion_laws.proofs.First.{kept_are_first, kept_have_none, judged_are_first}
use Rattle.conversion_laws.proofs.steps_before_the_first_fault_have_none.Goals as goal

pub returns-clause-first : goal.returns-clause-first
returns-clause-first c = kept_are_first

pub returns-clause-no_faults : goal.returns-clause-no_faults
returns-clause-no_faults c = kept_have_none

pub returns-clause-judged : goal.returns-clause-judged
returns-clause-judged c = judged_are_first
