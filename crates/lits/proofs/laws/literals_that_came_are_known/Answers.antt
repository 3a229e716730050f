use Rattle.lits.proofs.Translated.{are_known-with_lits, known-with_lits_cases, with_lits-extends, numbering-with_lits, with_lits-append, numbered_lits-push}
use Rattle.lits.proofs.laws.literals_that_came_are_known.Goals as goal

pub returns-clause-known : goal.returns-clause-known
returns-clause-known c = are_known-with_lits

pub returns-clause-no_others : goal.returns-clause-no_others
returns-clause-no_others c = known-with_lits_cases

pub returns-clause-front : goal.returns-clause-front
returns-clause-front c = with_lits-extends

pub returns-clause-numbering : goal.returns-clause-numbering
returns-clause-numbering c = numbering-with_lits

pub returns-clause-together : goal.returns-clause-together
returns-clause-together c = with_lits-append

pub returns-clause-translated : goal.returns-clause-translated
returns-clause-translated c = numbered_lits-push
