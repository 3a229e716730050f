use Rattle.elimination.proofs.Pairing.{own_clauses}
use Rattle.elimination.proofs.laws.own_clauses_decide.Goals as goal

pub returns : goal.returns
returns c = own_clauses
