use Rattle.numbering_laws.proofs.Growing.{missing-front, missing-unknown}
use Rattle.numbering_laws.proofs.Hints.{fail-parted}
use Rattle.numbering_laws.proofs.IdFaults.{active_clause-known}
use Rattle.numbering_laws.proofs.cores_without_numbers_are_judged_by_the_others.Goals as goal

pub returns-clause-front : goal.returns-clause-front
returns-clause-front c = λ ls after given l e. missing-front ls after given l e

pub returns-clause-stranger : goal.returns-clause-stranger
returns-clause-stranger c = missing-unknown

pub returns-clause-hints : goal.returns-clause-hints
returns-clause-hints c = λ vars active k ls hints. fail-parted vars active k ls hints

pub returns-clause-kept : goal.returns-clause-kept
returns-clause-kept c = active_clause-known
