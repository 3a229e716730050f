use Rattle.std.proofs.Common.{refl}
use Rattle.restore.proofs.Keeping.{Kept-push, Entails-push, Eliminates-written}
use Rattle.restore.proofs.laws.pushing_keeps.Goals as goal

pub returns-clause-kept : goal.returns-clause-kept
returns-clause-kept c = Kept-push

pub returns-clause-implied : goal.returns-clause-implied
returns-clause-implied c = Entails-push

pub returns-clause-written : goal.returns-clause-written
returns-clause-written c = λ e cs ls entry h. Eliminates-written e.var cs ls h e refl entry
