use Rattle.decide_order.proofs.Orders.{shown_new}
use Rattle.decide_order.proofs.Order.new.Goals as goal

pub returns : goal.returns
returns c = shown_new _ _ c.new.ensures.items c.new-2.ensures.reserved c.new-2.ensures.items
