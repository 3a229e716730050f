use Rattle.std.proofs.Common.{sym, ◌∙◌, ap, arith, length}
use Rattle.decide_order.proofs.Places.{fits, shown-length, all_positive}
use Rattle.decide_order.proofs.placed.PlacedList.len.Goals as goal

pub returns-clause-len : goal.returns-clause-len
returns-clause-len c = sym (shown-length _ _ _ _ c.self.invariant) ∙ ap (λ v. length v.items) c.self.view_is

pub returns-clause-room : goal.returns-clause-room
returns-clause-room c = rw (← c.self.view_is) (let n = fits _ _ _ _ c.self.invariant in let s = c.self.invariant.sized in omega arith)

pub returns-clause-positive : goal.returns-clause-positive
returns-clause-positive c = all_positive _ _ _ _ c.args.self.now c.self.invariant (ap (λ v. v.items) c.self.view_is)
