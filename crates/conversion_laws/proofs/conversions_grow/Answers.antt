use Rattle.conversion_laws.proofs.Growing.{conversion_grows}
use Rattle.conversion_laws.proofs.Fitting.{step_fits, as_many, text_grows, conversion_fits}
use Rattle.conversion_laws.proofs.conversions_grow.Goals as goal

pub returns-clause-nothing : goal.returns-clause-nothing
returns-clause-nothing c = tt

pub returns-clause-grows : goal.returns-clause-grows
returns-clause-grows c = conversion_grows

pub returns-clause-fits : goal.returns-clause-fits
returns-clause-fits c = λ ps p q k f lt. step_fits ps lt p q k f

pub returns-clause-all_fit : goal.returns-clause-all_fit
returns-clause-all_fit c = conversion_fits

pub returns-clause-lines : goal.returns-clause-lines
returns-clause-lines c = as_many

pub returns-clause-text : goal.returns-clause-text
returns-clause-text c = text_grows
