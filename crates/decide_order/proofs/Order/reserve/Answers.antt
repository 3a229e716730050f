use Rattle.std.proofs.Common.{◌-◌, ◌++◌, ◌∙◌, ap, arith, take, replicate}
use Rattle.decide_order.specs.Ranked.{with_reserved}
use Rattle.decide_order.proofs.Orders.{reserved}
use Rattle.decide_order.proofs.Order.reserve.Goals as goal

pub invariant_of-self-in-Ok : goal.invariant_of-self-in-Ok
invariant_of-self-in-Ok c =
    let f = reserved c.self.inside.scores.items c.resize.new.self.items c.self.inside.placed c.reserve.new.self c.args.vars c.self.invariant
    (let fewer = c.if-vars-before.false in omega (arith, c.len-before.ensures, c.self.inside.scores.ok.0))
    (c.in_ok-resize.ensures.items ∙ ap (λ m. take c.args.vars c.self.inside.scores.items ++ replicate (c.args.vars - m) 0) c.self.inside.scores.ok.0)
    c.in-Ok.ensures.ok c.reserve.ensures.items in
    f.order

pub returns-in-Ok-clause-ok : goal.returns-in-Ok-clause-ok
returns-in-Ok-clause-ok c =
    let f = reserved c.self.inside.scores.items c.resize.new.self.items c.self.inside.placed c.reserve.new.self c.args.vars c.self.invariant
    (let fewer = c.if-vars-before.false in omega (arith, c.len-before.ensures, c.self.inside.scores.ok.0))
    (c.in_ok-resize.ensures.items ∙ ap (λ m. take c.args.vars c.self.inside.scores.items ++ replicate (c.args.vars - m) 0) c.self.inside.scores.ok.0)
    c.in-Ok.ensures.ok c.reserve.ensures.items in
    f.shows ∙ ap (λ o. with_reserved o c.args.vars) c.self.view_is
