use Rattle.pair_matcher.proofs.Translating.{ready-new, stands-new-side}
use Rattle.pair_matcher.proofs.idrup.IdrupSide.new.Goals as goal

pub invariant_of-result : goal.invariant_of-result
invariant_of-result c = ready-new _ _ _ _ c.new-2.ensures c.new.ensures.state c.new-asked.ensures.items

pub returns-clause-stands : goal.returns-clause-stands
returns-clause-stands c = stands-new-side _ _ _ _ _ c.new-2.ensures c.new.ensures.stands c.new-asked.ensures.items
