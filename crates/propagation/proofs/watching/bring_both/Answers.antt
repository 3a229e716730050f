use Rattle.std.proofs.Common.{◌∙◌}
use Rattle.propagation.proofs.Reordering.{pair_second, pair_put}
use Rattle.propagation.proofs.watching.bring_both.Goals as goal

pub returns-then-i-eq1-clause-pair : goal.returns-then-i-eq1-clause-pair
returns-then-i-eq1-clause-pair c = λ id at. pair_second c.args.watches.now c.bring.new.watches id c.args.i c.args.j c.requires.order c.if-i-eq1.true (c.bring.ensures.brought id at)

pub returns-clause-pair : goal.returns-clause-pair
returns-clause-pair c = λ id at.
    let x = c.bring-2.ensures.brought id at in
    pair_put c.args.watches.now c.bring-2.new.watches c.bring-3.new.watches id c.args.i c.args.j c.requires.order x (c.bring-3.ensures.brought id (x.order.slots id ∙ at))
