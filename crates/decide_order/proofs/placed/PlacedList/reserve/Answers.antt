use Rattle.std.proofs.Common.{◌++◌, ◌-◌, ◌≤◌, sym, ◌∙◌, ap, subst, take, replicate}
use Rattle.decide_order.proofs.Places.{reserves, shown-reserve}
use Rattle.decide_order.proofs.placed.PlacedList.reserve.Goals as goal

pub invariant_of-self-in-Ok : goal.invariant_of-self-in-Ok
invariant_of-self-in-Ok c =
    reserves c.self.inside.rows.items c.self.inside.places.items _ _ _ _ c.args.vars c.self.invariant
    (subst (λ m. m ≤ c.args.vars) (sym (ap (λ v. v.reserved) c.self.view_is)) c.requires.more) c.requires.limit
    (c.in_ok-resize.ensures.items ∙ ap (λ m. take c.args.vars c.self.inside.rows.items ++ replicate (c.args.vars - m) 0) c.self.inside.rows.ok.0)
    (c.in-Ok.ensures.items ∙ ap (λ m. take c.args.vars c.self.inside.places.items ++ replicate (c.args.vars - m) 0) c.self.inside.places.ok.0)

pub returns-in-Ok-clause-items : goal.returns-in-Ok-clause-items
returns-in-Ok-clause-items c =
    shown-reserve c.self.inside.rows.items c.self.inside.places.items _ _ _ c.args.vars c.self.invariant
    (subst (λ m. m ≤ c.args.vars) (sym (ap (λ v. v.reserved) c.self.view_is)) c.requires.more)
    (c.in_ok-resize.ensures.items ∙ ap (λ m. take c.args.vars c.self.inside.rows.items ++ replicate (c.args.vars - m) 0) c.self.inside.rows.ok.0)
    ∙ ap (λ v. v.items) c.self.view_is
