use Rattle.std.proofs.Common.{◌≤◌, ◌-◌, sym, ◌∙◌, ap, subst, arith}
use Rattle.decide_order.specs.Placed.{has}
use Rattle.decide_order.proofs.Places.{absent, read, found, found_has}
use Rattle.decide_order.proofs.placed.PlacedList.has.Goals as goal

pub returns-then-index-eq0 : goal.returns-then-index-eq0
returns-then-index-eq0 c =
    let z = c.requires.positive in
    let le = c.requires.reserved in
    let room = ap (λ v. v.reserved) c.self.view_is in
    let is = read c.self.inside.places.items (c.args.var - 1) c.index.result.now (omega arith) c.index.ensures in
    rw (← c.self.view_is) (sym (absent _ _ _ _ _ c.self.invariant (sym is ∙ c.if-index-eq0.true)))

pub returns : goal.returns
returns c =
    let f = found _ _ _ _ _ _ c.self.invariant c.requires.positive (subst (λ n. c.args.var ≤ n) (sym (ap (λ v. v.reserved) c.self.view_is)) c.requires.reserved) c.index.ensures c.if-index-eq0.false in
    sym (ap (λ v. has v.items c.args.var) (sym c.self.view_is) ∙ found_has _ _ _ f)
