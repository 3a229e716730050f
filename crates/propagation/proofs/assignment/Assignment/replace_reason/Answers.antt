use Rattle.std.proofs.Common.{◌≡◌, ◌-◌, ◌≤◌, true, get_or, length, sym, subst, ap, ◌∙◌, arith}
use Rattle.std.specs.Prelude.{is_some}
use Rattle.std.specs.Vec.{vec_capacity}
use Rattle.lits.specs.Literal.{var}
use Rattle.propagation.specs.Engine.{reason_in}
use Rattle.propagation.specs.Assigned.{IsAssigned, with_entries, with_reason}
use Rattle.propagation.proofs.Assigning.{reserved-true}
use Rattle.propagation.proofs.Resting.{true-reason, at-below, assigned-rested, set-rested}
use Rattle.propagation.proofs.assignment.Assignment.replace_reason.Goals as goal

pub index-requires : goal.index-requires
index-requires c =
    let o = c.self.inside in
    let some : is_some (reason_in o.entries.items c.args.l) ≡ true = ap (λ z. is_some (reason_in z.entries c.args.l)) c.self.view_is ∙ c.requires in
    let low : var c.args.l ≤ length o.origins.items = reserved-true (length o.origins.items) o.entries.items c.args.l c.self.invariant.each_new (true-reason o.entries.items c.args.l some) in
    omega (arith, low, c.var.ensures.variable, o.origins.ok.0)

pub index_mut-requires : goal.index_mut-requires
index_mut-requires c =
    let o = c.self.inside in
    let some : is_some (reason_in o.entries.items c.args.l) ≡ true = ap (λ z. is_some (reason_in z.entries c.args.l)) c.self.view_is ∙ c.requires in
    let origin = c.self.invariant.each_origin c.args.l c.index.result.now (true-reason o.entries.items c.args.l some) (c.index.ensures ∙ ap (λ k. get_or o.origins.items (k - 1) c.index.result.now) c.var.ensures.variable) in
    let low = at-below o.entries.items c.args.l c.index.result.now.place origin.at in
    omega (arith, low, o.entries.ok.0)

pub invariant_of-self : goal.invariant_of-self
invariant_of-self c =
    let o = c.self.inside in
    let some : is_some (reason_in o.entries.items c.args.l) ≡ true = ap (λ z. is_some (reason_in z.entries c.args.l)) c.self.view_is ∙ c.requires in
    let origin = c.self.invariant.each_origin c.args.l c.index.result.now (true-reason o.entries.items c.args.l some) (c.index.ensures ∙ ap (λ k. get_or o.origins.items (k - 1) c.index.result.now) c.var.ensures.variable) in
    let is = set-rested (length o.origins.items) o.entries.items c.args.l c.index.result.now.place c.args.s c.self.invariant.each_new origin.at in
    subst (λ z. IsAssigned z o.lits.items o.values.items o.origins.items o.level (vec_capacity o.entries) (vec_capacity o.lits)) (sym is)
    (assigned-rested o.entries.items o.lits.items o.values.items o.origins.items o.level (vec_capacity o.entries) (vec_capacity o.lits) c.args.l c.args.s c.self.invariant some)

pub returns : goal.returns
returns c =
    let o = c.self.inside in
    let some : is_some (reason_in o.entries.items c.args.l) ≡ true = ap (λ z. is_some (reason_in z.entries c.args.l)) c.self.view_is ∙ c.requires in
    let origin = c.self.invariant.each_origin c.args.l c.index.result.now (true-reason o.entries.items c.args.l some) (c.index.ensures ∙ ap (λ k. get_or o.origins.items (k - 1) c.index.result.now) c.var.ensures.variable) in
    let is = set-rested (length o.origins.items) o.entries.items c.args.l c.index.result.now.place c.args.s c.self.invariant.each_new origin.at in
    (λ i. record { entries = is i; vars = length o.origins.items }) ∙ ap (λ z. with_entries z (with_reason z.entries c.args.l c.args.s)) c.self.view_is
