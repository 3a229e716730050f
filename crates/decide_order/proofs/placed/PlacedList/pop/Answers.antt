use Rattle.std.proofs.Common.{ap, arith, length}
use Rattle.decide_order.proofs.Places.{pops, shown-length, fits}
use Rattle.decide_order.proofs.placed.PlacedList.pop.Goals as goal

pub index-var-requires : goal.index-var-requires
index-var-requires c =
    let full = ap (λ v. length v.items) c.self.view_is in let n = shown-length _ _ _ _ c.self.invariant in let f = fits _ _ _ _ c.self.invariant in
    omega arith

pub index_mut-requires : goal.index_mut-requires
index_mut-requires c =
    let f = pops _ _ _ _ c.index-var.result.now c.args.self.now c.self.invariant (ap (λ v. v.items) c.self.view_is) c.requires c.index-var.ensures in
    omega (arith, f.within, f.positive)

pub invariant_of-self : goal.invariant_of-self
invariant_of-self c =
    let f = pops _ _ _ _ c.index-var.result.now c.args.self.now c.self.invariant (ap (λ v. v.items) c.self.view_is) c.requires c.index-var.ensures in
    f.placed

pub returns-clause-items : goal.returns-clause-items
returns-clause-items c =
    let f = pops _ _ _ _ c.index-var.result.now c.args.self.now c.self.invariant (ap (λ v. v.items) c.self.view_is) c.requires c.index-var.ensures in
    f.items

pub returns-clause-gone : goal.returns-clause-gone
returns-clause-gone c =
    let f = pops _ _ _ _ c.index-var.result.now c.args.self.now c.self.invariant (ap (λ v. v.items) c.self.view_is) c.requires c.index-var.ensures in
    f.gone

pub returns-clause-positive : goal.returns-clause-positive
returns-clause-positive c =
    let f = pops _ _ _ _ c.index-var.result.now c.args.self.now c.self.invariant (ap (λ v. v.items) c.self.view_is) c.requires c.index-var.ensures in
    f.positive

pub returns-clause-within : goal.returns-clause-within
returns-clause-within c =
    let f = pops _ _ _ _ c.index-var.result.now c.args.self.now c.self.invariant (ap (λ v. v.items) c.self.view_is) c.requires c.index-var.ensures in
    rw (← c.self.view_is) f.within
