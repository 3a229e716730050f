use Rattle.std.proofs.Common.{sym, ◌∙◌, ap, subst, arith}
use Rattle.decide_order.specs.Heap.{IsHeapFrom}
use Rattle.decide_order.specs.Ranked.{without_member}
use Rattle.decide_order.proofs.Orders.{none_left, is_best, taken}
use Rattle.decide_order.proofs.Order.take_best.Goals as goal

pub returns-then-len-eq0-clause-none : goal.returns-then-len-eq0-clause-none
returns-then-len-eq0-clause-none c = ap (λ o. o.members) (sym c.self.view_is) ∙ none_left c.self.inside.scores.items c.self.inside.placed (sym c.len.ensures.len ∙ c.if-len-eq0.true)

pub returns-clause-best : goal.returns-clause-best
returns-clause-best c =
    let some = c.if-len-eq0.false in
    let long = c.len.ensures.len in
    rw (← c.self.view_is) (is_best c.self.inside.scores.items c.self.inside.placed c.take_first-best.result c.self.invariant c.len.ensures.positive (omega arith)
    c.len.ensures.limit c.take_first-best.ensures.positive c.take_first-best.ensures.within c.take_first-best.ensures.first)

pub returns-clause-taken : goal.returns-clause-taken
returns-clause-taken c =
    let f = taken c.self.inside.scores.items c.self.inside.placed c.take_first-best.new.self c.sink.new.placed c.take_first-best.result c.self.invariant
    c.take_first-best.ensures.reserved c.take_first-best.ensures.same c.take_first-best.ensures.gone
    (subst (λ xs. IsHeapFrom xs c.sink.new.placed.items 0) c.deref.ensures.value c.sink.ensures.heap) c.sink.ensures.reordered in
    f.shows ∙ ap (λ o. without_member o c.take_first-best.result) c.self.view_is
