use Rattle.std.proofs.Common.{ap, arith}
use Rattle.decide_order.proofs.Places.{pushes}
use Rattle.decide_order.proofs.placed.PlacedList.push.Goals as goal

pub index_mut-requires : goal.index_mut-requires
index_mut-requires c =
    let f = pushes _ _ _ _ c.args.var c.args.self.now c.self.invariant (ap (λ v. v.reserved) c.self.view_is) (ap (λ v. v.items) c.self.view_is) c.requires.positive c.requires.reserved c.requires.new in
    omega (arith, f.room)

pub overflow_add-self : goal.overflow_add-self
overflow_add-self c =
    let f = pushes _ _ _ _ c.args.var c.args.self.now c.self.invariant (ap (λ v. v.reserved) c.self.view_is) (ap (λ v. v.items) c.self.view_is) c.requires.positive c.requires.reserved c.requires.new in
    record { fits = omega (arith, f.small) }

pub overflow_cast-self-inside : goal.overflow_cast-self-inside
overflow_cast-self-inside c =
    let f = pushes _ _ _ _ c.args.var c.args.self.now c.self.invariant (ap (λ v. v.reserved) c.self.view_is) (ap (λ v. v.items) c.self.view_is) c.requires.positive c.requires.reserved c.requires.new in
    record { fits = omega (arith, f.small) }

pub invariant_of-self : goal.invariant_of-self
invariant_of-self c =
    let f = pushes _ _ _ _ c.args.var c.args.self.now c.self.invariant (ap (λ v. v.reserved) c.self.view_is) (ap (λ v. v.items) c.self.view_is) c.requires.positive c.requires.reserved c.requires.new in
    f.placed

pub returns-clause-items : goal.returns-clause-items
returns-clause-items c =
    let f = pushes _ _ _ _ c.args.var c.args.self.now c.self.invariant (ap (λ v. v.reserved) c.self.view_is) (ap (λ v. v.items) c.self.view_is) c.requires.positive c.requires.reserved c.requires.new in
    f.items
