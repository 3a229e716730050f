use Rattle.std.proofs.Common.{sym, ◌∙◌, ap, arith}
use Rattle.decide_order.proofs.Places.{takes_first, takes_only}
use Rattle.decide_order.proofs.placed.PlacedList.take_first.Goals as goal
use Rattle.decide_order.proofs.placed.PlacedList.take_first.Goals.{then-last-gt0, else-last-gt0}

pub returns-clause-same : goal.returns-clause-same
returns-clause-same c = elim c.if-last-gt0.branch [
  | then-last-gt0 w ↦
      let t = takes_first c.args.self.now.items c.if-last-gt0.self.items c.pop.new.self.items c.pop.result _ (omega (arith, w.if-last-gt0.true, c.len-last.ensures.len)) (ap (λ v. v.items) w.self-is ∙ w.swap.ensures.items) c.pop.ensures.items in
      t.same
  | else-last-gt0 w ↦
      let t = takes_only c.args.self.now.items c.pop.new.self.items c.pop.result (omega (arith, w.if-last-gt0.false, c.requires, c.len-last.ensures.len)) (sym (ap (λ v. v.items) w.self-is) ∙ c.pop.ensures.items) in
      t.same
]
