use Rattle.std.proofs.Common.{refl, ◌∙◌}
use Rattle.lits.specs.Clause.{has}
use Rattle.resolvents.proofs.Clashing.{clash_is}
use Rattle.resolvents.proofs.is_tautology_of.Goals as goal

pub returns : goal.returns
returns c = c.has_meeting.ensures ∙ clash_is c.args.var c.args.first.now c.args.second.now (has c.args.first.now) (λ l. refl) c.requires.first c.requires.second
