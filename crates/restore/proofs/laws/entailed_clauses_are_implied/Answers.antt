use Rattle.restore.proofs.Implied.{Entails-Implies, Implies-Entails}
use Rattle.restore.proofs.laws.entailed_clauses_are_implied.Goals as goal

pub returns : goal.returns
returns c = λ cs d. (Entails-Implies cs d, Implies-Entails cs d)
