use Rattle.occurrence_lists.proofs.Listing.{once-take}
use Rattle.occurrence_lists.proofs.Standing.{added-there, put_back}
use Rattle.occurrence_lists.proofs.push_each.Goals as goal

pub take_each-requires-clause-once : goal.take_each-requires-clause-once
take_each-requires-clause-once c = once-take c.args.lits.now c.push_front-done.result c.requires.once

pub take_each-requires-clause-there : goal.take_each-requires-clause-there
take_each-requires-clause-there c = λ l m. added-there _ _ _ _ l c.push_front-done.ensures.added m

pub returns-then-done-lits-clause-err : goal.returns-then-done-lits-clause-err
returns-then-done-lits-clause-err c = put_back _ _ _ _ _ c.push_front-done.ensures.added c.take_each.ensures
