use Rattle.std.proofs.Common.{refl, ◌∙◌, ap, subst}
use Rattle.decide_order.specs.Heap.{IsHeapFrom}
use Rattle.decide_order.specs.Ranked.{Ranked, with_score}
use Rattle.decide_order.proofs.Orders.{lowers, sinks_shrunk, raised, raised_alone}
use Rattle.decide_order.proofs.Order.lower.Goals as goal

pub sink-requires-clause-sinks : goal.sink-requires-clause-sinks
sink-requires-clause-sinks c =
    let g = lowers c.self.inside.scores.items _ c.args.self.now c.args.var c.args.to c.self.inside.placed c.self.invariant c.self.view_is c.requires.reserved.0 c.requires.reserved.1 refl in
    rw c.deref.ensures.value (sinks_shrunk c.self.inside.scores.items _ c.args.self.now c.self.inside.placed c.args.var c.args.to c.in-Some.place c.self.invariant c.self.view_is g c.requires.less c.in-Some.ensures.variables c.in-Some.ensures.at c.in-Some.ensures.alone)

pub invariant_of-self-in_default : goal.invariant_of-self-in_default
invariant_of-self-in_default c =
    let g = lowers c.self.inside.scores.items _ c.args.self.now c.args.var c.args.to c.self.inside.placed c.self.invariant c.self.view_is c.requires.reserved.0 c.requires.reserved.1 refl in
    let f = raised_alone c.self.inside.scores.items _ c.self.inside.placed c.args.var _ c.self.invariant g c.in_default.ensures.variables c.in_default.ensures.none in
    f.order

pub returns-in-Some : goal.returns-in-Some
returns-in-Some c =
    let g = lowers c.self.inside.scores.items _ c.args.self.now c.args.var c.args.to c.self.inside.placed c.self.invariant c.self.view_is c.requires.reserved.0 c.requires.reserved.1 refl in
    let f = raised c.self.inside.scores.items _ c.self.inside.placed c.sink.new.placed c.args.var _ c.self.invariant g
    (subst (λ xs. IsHeapFrom xs c.sink.new.placed.items 0) c.deref.ensures.value c.sink.ensures.heap) c.sink.ensures.reordered in
    f.shows ∙ ap (λ (o : Ranked). with_score o c.args.var c.args.to) c.self.view_is

pub returns-in_default : goal.returns-in_default
returns-in_default c =
    let g = lowers c.self.inside.scores.items _ c.args.self.now c.args.var c.args.to c.self.inside.placed c.self.invariant c.self.view_is c.requires.reserved.0 c.requires.reserved.1 refl in
    let f = raised_alone c.self.inside.scores.items _ c.self.inside.placed c.args.var _ c.self.invariant g c.in_default.ensures.variables c.in_default.ensures.none in
    f.shows ∙ ap (λ (o : Ranked). with_score o c.args.var c.args.to) c.self.view_is
