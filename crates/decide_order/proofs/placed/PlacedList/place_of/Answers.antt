use Rattle.std.proofs.Common.{◌≤◌, ◌-◌, sym, ◌∙◌, ap, subst, arith}
use Rattle.decide_order.proofs.Places.{absent, read, found, all_positive}
use Rattle.decide_order.proofs.placed.PlacedList.place_of.Goals as goal

pub returns-then-place-eq0-clause-none : goal.returns-then-place-eq0-clause-none
returns-then-place-eq0-clause-none c =
    let z = c.requires.positive in
    let le = c.requires.reserved in
    let room = ap (λ v. v.reserved) c.self.view_is in
    let is = read c.self.inside.places.items (c.args.var - 1) c.index-place.result.now (omega arith) c.index-place.ensures in
    rw (← c.self.view_is) (absent _ _ _ _ _ c.self.invariant (sym is ∙ c.if-place-eq0.true))

pub returns-clause-within : goal.returns-clause-within
returns-clause-within c =
    let f = found _ _ _ _ _ _ c.self.invariant c.requires.positive (subst (λ n. c.args.var ≤ n) (sym (ap (λ v. v.reserved) c.self.view_is)) c.requires.reserved) c.index-place.ensures c.if-place-eq0.false in
    rw (← c.self.view_is) f.within

pub returns-clause-at : goal.returns-clause-at
returns-clause-at c =
    let f = found _ _ _ _ _ _ c.self.invariant c.requires.positive (subst (λ n. c.args.var ≤ n) (sym (ap (λ v. v.reserved) c.self.view_is)) c.requires.reserved) c.index-place.ensures c.if-place-eq0.false in
    rw (← c.self.view_is) f.at

pub returns-clause-alone : goal.returns-clause-alone
returns-clause-alone c =
    let f = found _ _ _ _ _ _ c.self.invariant c.requires.positive (subst (λ n. c.args.var ≤ n) (sym (ap (λ v. v.reserved) c.self.view_is)) c.requires.reserved) c.index-place.ensures c.if-place-eq0.false in
    rw (← c.self.view_is) f.alone

pub returns-clause-variables : goal.returns-clause-variables
returns-clause-variables c = all_positive _ _ _ _ c.args.self.now c.self.invariant (ap (λ v. v.items) c.self.view_is)

pub returns-then-place-eq0-clause-variables : goal.returns-then-place-eq0-clause-variables
returns-then-place-eq0-clause-variables c = all_positive _ _ _ _ c.args.self.now c.self.invariant (ap (λ v. v.items) c.self.view_is)
