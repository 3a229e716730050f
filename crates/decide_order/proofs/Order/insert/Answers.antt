use Rattle.std.proofs.Common.{sym, ◌∙◌, ap, subst}
use Rattle.std.specs.FinSet as set
use Rattle.decide_order.specs.Heap.{IsHeapFrom}
use Rattle.decide_order.specs.Ranked.{with_member}
use Rattle.decide_order.proofs.Orders.{inserted, placed_member, unplaced_member}
use Rattle.decide_order.proofs.Order.insert.Goals as goal

pub returns-clause-inserted : goal.returns-clause-inserted
returns-clause-inserted c =
    let f = inserted c.self.inside.scores.items c.self.inside.placed c.push.new.self c.rise.new.placed c.args.var c.self.invariant c.push.ensures.items c.push.ensures.reserved
    (subst (λ xs. IsHeapFrom xs c.rise.new.placed.items 0) c.deref.ensures.value c.rise.ensures.heap) c.rise.ensures.reordered in
    f.shows ∙ ap (λ o. with_member o c.args.var) c.self.view_is

pub returns-clause-member : goal.returns-clause-member
returns-clause-member c = λ m. absurd (unplaced_member c.self.inside.scores.items c.self.inside.placed c.args.var (sym c.has.ensures ∙ c.if-has.false) (ap (λ o. set.contains o.members c.args.var) c.self.view_is ∙ m))

pub returns-then-has-clause-inserted : goal.returns-then-has-clause-inserted
returns-then-has-clause-inserted c =
    sym c.self.view_is ∙ placed_member c.self.inside.scores.items c.self.inside.placed c.args.var (sym c.has.ensures ∙ c.if-has.true) ∙ ap (λ o. with_member o c.args.var) c.self.view_is
