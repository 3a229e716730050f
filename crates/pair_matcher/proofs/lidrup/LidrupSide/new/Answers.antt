use Rattle.pair_matcher.proofs.TranslatingIds.{ready-new-ids, stands-new-ids}
use Rattle.pair_matcher.proofs.lidrup.LidrupSide.new.Goals as goal

pub invariant_of-result : goal.invariant_of-result
invariant_of-result c = ready-new-ids _ _ _ _ _ _ c.without_index.ensures c.new.ensures.state c.new-numbers.ensures.vars c.new-asked.ensures.items

pub returns-clause-stands : goal.returns-clause-stands
returns-clause-stands c = stands-new-ids _ _ _ _ _ c.without_index.ensures c.new.ensures.stands c.new-asked.ensures.items
