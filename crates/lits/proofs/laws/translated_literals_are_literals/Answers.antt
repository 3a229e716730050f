use Rattle.lits.proofs.Translated.{var-dense_lit, positive-dense_lit, dense_lit-neg, dense_lit-injective, file-dense, dense-file, known-file_lit, IsLiteral-dense_lit}
use Rattle.lits.proofs.laws.translated_literals_are_literals.Goals as goal

pub returns-clause-variable : goal.returns-clause-variable
returns-clause-variable c = var-dense_lit

pub returns-clause-sign : goal.returns-clause-sign
returns-clause-sign c = positive-dense_lit

pub returns-clause-negation : goal.returns-clause-negation
returns-clause-negation c = dense_lit-neg

pub returns-clause-injective : goal.returns-clause-injective
returns-clause-injective c = dense_lit-injective

pub returns-clause-back : goal.returns-clause-back
returns-clause-back c = file-dense

pub returns-clause-there : goal.returns-clause-there
returns-clause-there c = dense-file

pub returns-clause-known : goal.returns-clause-known
returns-clause-known c = known-file_lit

pub returns-clause-limit : goal.returns-clause-limit
returns-clause-limit c = IsLiteral-dense_lit
