use Rattle.std.proofs.Common.{sym, ap, ◌∙◌}
use Rattle.propagation.specs.Assigned.{value_of}
use Rattle.propagation.proofs.assignment.Assignment.value.Goals as goal

pub returns-in-Free : goal.returns-in-Free
returns-in-Free c = ap value_of (sym c.in-Free.is) ∙ c.entry.ensures

pub returns-in-True : goal.returns-in-True
returns-in-True c = ap value_of (sym c.in-True.is) ∙ c.entry.ensures

pub returns-in-False : goal.returns-in-False
returns-in-False c = ap value_of (sym c.in-False.is) ∙ c.entry.ensures
