use Rattle.decide_order.proofs.Orders.{read_score}
use Rattle.decide_order.proofs.Order.score.Goals as goal

pub returns : goal.returns
returns c = read_score c.self.inside.scores.items c.args.self.now c.args.var c.index.result.now c.self.inside.placed c.self.invariant c.self.view_is c.requires.0 c.requires.1 c.index.ensures
