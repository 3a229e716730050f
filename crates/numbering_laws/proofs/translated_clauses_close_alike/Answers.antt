use Rattle.numbering_laws.proofs.Propagated.{closes-dense}
use Rattle.numbering_laws.proofs.Hints.{fail-dense}
use Rattle.numbering_laws.proofs.translated_clauses_close_alike.Goals as goal

pub returns-clause-closing : goal.returns-clause-closing
returns-clause-closing c = closes-dense

pub returns-clause-hints : goal.returns-clause-hints
returns-clause-hints c = λ vars active translated k same ls hints kl. fail-dense vars active translated k same ls hints kl
