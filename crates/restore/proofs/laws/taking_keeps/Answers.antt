use Rattle.restore.proofs.Keeping.{Kept-take, Entails-take}
use Rattle.restore.proofs.laws.taking_keeps.Goals as goal

pub returns-clause-kept : goal.returns-clause-kept
returns-clause-kept c = Kept-take

pub returns-clause-implied : goal.returns-clause-implied
returns-clause-implied c = Entails-take
