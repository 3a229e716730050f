use Rattle.session_rules.specs.Logic.{has}
use Rattle.std.proofs.Common.{sym, ap, ◌∙◌}
use Rattle.conflict_analysis.proofs.clause_of.Goals as goal

pub lits-requires : goal.lits-requires
lits-requires c = (c.requires.0, c.store-store.ensures.slots c.requires.0 ∙ c.requires.2.slot_is)

pub returns : goal.returns
returns c = λ id k at l. ap (λ z. has z l) (sym (c.lits.ensures id (c.store-store.ensures.slots id ∙ at.slot_is))) ∙ c.store-store.ensures.literals id k at.clause_is l
