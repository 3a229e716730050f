use Rattle.elimination.proofs.Restored.{restorings_due, restored_back, restored_other}
use Rattle.elimination.proofs.laws.restorings_are_due.Goals as goal

pub returns-clause-due : goal.returns-clause-due
returns-clause-due c = restorings_due

pub returns-clause-back : goal.returns-clause-back
returns-clause-back c = λ f ks k h m. restored_back f ks h.apart k m

pub returns-clause-others : goal.returns-clause-others
returns-clause-others c = restored_other
