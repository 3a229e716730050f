use Rattle.std.proofs.Common.{refl, ◌∙◌, subst, arith}
use Rattle.decide_order.specs.Heap.{IsHeapFrom}
use Rattle.decide_order.specs.Ranked.{with_score}
use Rattle.decide_order.proofs.Orders.{rises_grown, raised, raised_alone, grows, next_score}
use Rattle.decide_order.proofs.Order.raise.Goals as goal

pub rise-requires-clause-rises : goal.rise-requires-clause-rises
rise-requires-clause-rises c =
    let reads = c.index-score.ensures in
    let g = grows c.self.inside.scores.items _ c.args.self.now c.args.var c.saturating_add.result c.index-score.result.now c.args.by c.self.inside.placed c.self.invariant c.self.view_is c.requires.0 c.requires.1
    reads c.saturating_add.ensures (omega arith) refl in
    rw c.deref.ensures.value (rises_grown c.self.inside.scores.items _ c.self.inside.placed c.args.var _ c.in-Some.place c.self.invariant g c.in-Some.ensures.variables c.in-Some.ensures.within c.in-Some.ensures.at c.in-Some.ensures.alone)

pub invariant_of-self-in_default : goal.invariant_of-self-in_default
invariant_of-self-in_default c =
    let reads = c.index-score.ensures in
    let g = grows c.self.inside.scores.items _ c.args.self.now c.args.var c.saturating_add.result c.index-score.result.now c.args.by c.self.inside.placed c.self.invariant c.self.view_is c.requires.0 c.requires.1
    reads c.saturating_add.ensures (omega arith) refl in
    let f = raised_alone c.self.inside.scores.items _ c.self.inside.placed c.args.var _ c.self.invariant g.changes c.in_default.ensures.variables c.in_default.ensures.none in
    f.order

pub returns-in-Some : goal.returns-in-Some
returns-in-Some c =
    let reads = c.index-score.ensures in
    let g = grows c.self.inside.scores.items _ c.args.self.now c.args.var c.saturating_add.result c.index-score.result.now c.args.by c.self.inside.placed c.self.invariant c.self.view_is c.requires.0 c.requires.1
    reads c.saturating_add.ensures (omega arith) refl in
    let f = raised c.self.inside.scores.items _ c.self.inside.placed c.rise.new.placed c.args.var _ c.self.invariant g.changes
    (subst (λ xs. IsHeapFrom xs c.rise.new.placed.items 0) c.deref.ensures.value c.rise.ensures.heap) c.rise.ensures.reordered in
    let s_is = next_score c.self.inside.scores.items c.args.self.now c.args.var c.saturating_add.result c.index-score.result.now c.args.by c.self.inside.placed c.self.invariant c.self.view_is c.requires.0 c.requires.1
    c.index-score.ensures c.saturating_add.ensures in
    f.shows ∙ (λ i. with_score (c.self.view_is i) c.args.var (s_is i))

pub returns-in_default : goal.returns-in_default
returns-in_default c =
    let reads = c.index-score.ensures in
    let g = grows c.self.inside.scores.items _ c.args.self.now c.args.var c.saturating_add.result c.index-score.result.now c.args.by c.self.inside.placed c.self.invariant c.self.view_is c.requires.0 c.requires.1
    reads c.saturating_add.ensures (omega arith) refl in
    let f = raised_alone c.self.inside.scores.items _ c.self.inside.placed c.args.var _ c.self.invariant g.changes c.in_default.ensures.variables c.in_default.ensures.none in
    let s_is = next_score c.self.inside.scores.items c.args.self.now c.args.var c.saturating_add.result c.index-score.result.now c.args.by c.self.inside.placed c.self.invariant c.self.view_is c.requires.0 c.requires.1
    c.index-score.ensures c.saturating_add.ensures in
    f.shows ∙ (λ i. with_score (c.self.view_is i) c.args.var (s_is i))
