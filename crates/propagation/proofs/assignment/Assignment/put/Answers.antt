use Rattle.std.proofs.Common.{◌-◌, length, sym, subst, ap, ◌∙◌, arith}
use Rattle.std.proofs.Math.ListN.{length-set}
use Rattle.propagation.specs.declared.TrailEntry.{TrailEntry}
use Rattle.propagation.specs.Assigned.{IsNew, with_last}
use Rattle.propagation.proofs.Assigning.{assigned-put, assigned-room}
use Rattle.propagation.proofs.assignment.Assignment.put.Goals as goal

pub raised-level-requires : goal.raised-level-requires
raised-level-requires c =
    let s : TrailEntry = record { lit = c.args.l; reason = c.args.reason } in
    let new : IsNew (length c.self.inside.origins.items) c.self.inside.entries.items c.args.l = subst (λ z. IsNew z.vars z.entries c.args.l) (sym c.self.view_is) c.requires in
    (assigned-room _ _ _ _ _ _ _ s c.self.invariant new).2

pub overflow_cast-place : goal.overflow_cast-place
overflow_cast-place c =
    let s : TrailEntry = record { lit = c.args.l; reason = c.args.reason } in
    let new : IsNew (length c.self.inside.origins.items) c.self.inside.entries.items c.args.l = subst (λ z. IsNew z.vars z.entries c.args.l) (sym c.self.view_is) c.requires in
    let few = (assigned-room _ _ _ _ _ _ _ s c.self.invariant new).3 in
    omega (arith, few, c.len-place.ensures, c.self.inside.entries.ok.0)

pub push_reserved-requires : goal.push_reserved-requires
push_reserved-requires c =
    let s : TrailEntry = record { lit = c.args.l; reason = c.args.reason } in
    let new : IsNew (length c.self.inside.origins.items) c.self.inside.entries.items c.args.l = subst (λ z. IsNew z.vars z.entries c.args.l) (sym c.self.view_is) c.requires in
    let room = assigned-room _ _ _ _ _ _ _ s c.self.invariant new in
    omega (arith, room.0, c.self.inside.entries.ok.0)

pub push_reserved-requires-2 : goal.push_reserved-requires-2
push_reserved-requires-2 c =
    let s : TrailEntry = record { lit = c.args.l; reason = c.args.reason } in
    let new : IsNew (length c.self.inside.origins.items) c.self.inside.entries.items c.args.l = subst (λ z. IsNew z.vars z.entries c.args.l) (sym c.self.view_is) c.requires in
    let room = assigned-room _ _ _ _ _ _ _ s c.self.invariant new in
    omega (arith, room.1, c.self.inside.lits.ok.0)

pub invariant_of-self : goal.invariant_of-self
invariant_of-self c =
    let s : TrailEntry = record { lit = c.args.l; reason = c.args.reason } in
    let new : IsNew (length c.self.inside.origins.items) c.self.inside.entries.items c.args.l = subst (λ z. IsNew z.vars z.entries c.args.l) (sym c.self.view_is) c.requires in
    rw (c.push_reserved.ensures.items, c.push_reserved-2.ensures.items, c.code.ensures.code, c.code-2.ensures.code, c.neg.ensures.negation, c.var.ensures.variable, c.raised-level.ensures)
    (assigned-put _ _ _ _ _ _ _ _ _ _ s c.self.invariant new (omega (arith, c.len-place.ensures, c.self.inside.entries.ok.0)) (omega (arith, c.push_reserved.ensures.capacity)) (omega (arith, c.push_reserved-2.ensures.capacity)))

pub returns : goal.returns
returns c =
    let s : TrailEntry = record { lit = c.args.l; reason = c.args.reason } in
    (λ i. record { entries = c.push_reserved.ensures.items i; vars = length-set c.self.inside.origins.items (c.var.result - 1) (record { level = c.raised-level.result; place = c.len-place.result }) i }) ∙ ap (λ z. with_last z s) c.self.view_is
