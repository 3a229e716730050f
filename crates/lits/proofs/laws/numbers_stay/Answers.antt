use Rattle.std.proofs.Common.{◌+◌, ap}
use Rattle.lits.proofs.Places.{numbering-with_var, has-with_var, place-with_var, place-append, with_var-extends}
use Rattle.lits.proofs.laws.numbers_stay.Goals as goal

pub returns-clause-numbering : goal.returns-clause-numbering
returns-clause-numbering c = numbering-with_var

pub returns-clause-known : goal.returns-clause-known
returns-clause-known c = has-with_var

pub returns-clause-number : goal.returns-clause-number
returns-clause-number c = λ vars v. ap (λ k. k + 1) (place-with_var vars v)

pub returns-clause-others : goal.returns-clause-others
returns-clause-others c = λ vars more w h. ap (λ k. k + 1) (place-append vars more w h)

pub returns-clause-front : goal.returns-clause-front
returns-clause-front c = with_var-extends
