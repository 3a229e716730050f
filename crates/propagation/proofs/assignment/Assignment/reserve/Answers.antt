use Rattle.std.proofs.Common.{arith}
use Rattle.propagation.proofs.Assigning.{assigned-grown}
use Rattle.propagation.proofs.assignment.Assignment.reserve.Goals as goal

pub invariant_of-self-in-Ok : goal.invariant_of-self-in-Ok
invariant_of-self-in-Ok c =
    rw (c.in_ok-reserve.ensures.items, c.in_ok-reserve-2.ensures.items)
    (assigned-grown _ _ _ _ _ _ _ c.args.vars _ _ _ _ _ _ _ c.self.invariant (omega (arith, c.if-count-len.false, c.len.ensures, c.self.inside.origins.ok.0)) c.requires
    c.self.inside.values.ok.0 c.self.inside.origins.ok.0 c.in_ok-resize.ensures.items c.in-Ok.ensures.items
    (omega (arith, c.in_ok-reserve.ensures.ok)) (omega (arith, c.in_ok-reserve-2.ensures.ok)))
