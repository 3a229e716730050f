use Rattle.side_laws.proofs.Held.{active_some, weakened_some, active_none, weakened_none, closes_over_kept}
use Rattle.side_laws.proofs.kept_copies_answer_for_steps.Goals as goal

pub returns-clause-active : goal.returns-clause-active
returns-clause-active c = active_some

pub returns-clause-weakened : goal.returns-clause-weakened
returns-clause-weakened c = weakened_some

pub returns-clause-none_active : goal.returns-clause-none_active
returns-clause-none_active c = active_none

pub returns-clause-none_weakened : goal.returns-clause-none_weakened
returns-clause-none_weakened c = weakened_none

pub returns-clause-closing : goal.returns-clause-closing
returns-clause-closing c = closes_over_kept
