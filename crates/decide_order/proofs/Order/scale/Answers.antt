use Rattle.std.proofs.Common.{◌/◌, ◌^◌, ◌∙◌, ap, subst}
use Rattle.decide_order.specs.Heap.{IsHeapFrom}
use Rattle.decide_order.specs.Ranked.{scaled}
use Rattle.decide_order.proofs.Orders.{scales, written}
use Rattle.decide_order.proofs.Order.scale.Goals as goal

pub returns : goal.returns
returns c =
    let f = scales c.self.inside.scores.items _ c.self.inside.placed c.heapify.new.placed c.args.bits c.self.invariant
    (written (λ s. s / 2 ^ c.args.bits) c.self.inside.scores.items c.scale_each.new.scores c.deref_mut.result.now c.self.inside.scores.len c.self.inside.scores.ok.0 c.scale_each.ensures c.deref_mut.ensures.value)
    (subst (λ xs. IsHeapFrom xs c.heapify.new.placed.items 0) c.deref.ensures.value c.heapify.ensures.heap) c.heapify.ensures.reordered in
    f.shows ∙ ap (λ o. scaled o c.args.bits) c.self.view_is
