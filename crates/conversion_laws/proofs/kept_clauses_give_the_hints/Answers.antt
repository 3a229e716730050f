use Rattle.conversion_laws.proofs.Kept.{same_kept, hints_from}
use Rattle.conversion_laws.proofs.kept_clauses_give_the_hints.Goals as goal

pub returns-clause-kept : goal.returns-clause-kept
returns-clause-kept c = same_kept

pub returns-clause-hints : goal.returns-clause-hints
returns-clause-hints c = hints_from
