use Rattle.std.proofs.Common.{sym, ◌∙◌}
use Rattle.conflict_analysis.proofs.id_of.Goals as goal

pub id_of-requires : goal.id_of-requires
id_of-requires c = (c.requires.0, c.store.ensures.slots c.requires.0 ∙ c.requires.2.slot_is)

pub returns : goal.returns
returns c = sym (c.store.ensures.slots c.id_of.result) ∙ c.id_of.ensures
