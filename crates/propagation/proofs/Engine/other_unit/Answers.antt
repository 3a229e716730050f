use Rattle.std.proofs.Common.{subst, ap, ◌∙◌}
use Rattle.std.specs.Prelude.{IfSome}
use Rattle.clause_store.specs.Clauses.{IsActiveWith}
use Rattle.propagation.specs.Engine.{IsOtherUnit}
use Rattle.propagation.proofs.Releasing.{one_set, unit_found, unit_itself, unit_none}
use Rattle.propagation.proofs.Engine.other_unit.Goals as goal

pub returns-then-least-id-clause-none : goal.returns-then-least-id-clause-none
returns-then-least-id-clause-none c = λ x at.
    let m = c.self.inside.watches.clauses in
    unit_itself m c.args.self.now c.args.id c.args.l c.in-Ok.set (ap (λ z. z.clauses) c.self.view_is) (c.in-Ok.ensures.set ∙ one_set c.args.l)
    (subst (IsActiveWith m c.in-Ok.set) c.if-least-id.true c.in-Some.ensures.found)

pub returns-in-Some-clause-some : goal.returns-in-Some-clause-some
returns-in-Some-clause-some c =
    let o = c.self.inside in
    subst (λ z. IfSome c.find.result (λ s. IsOtherUnit z c.args.id c.args.l s)) c.self.view_is
    (unit_found o.watches.clauses o.trail.entries o.trail.vars c.args.id c.in-Some.least c.args.l c.in-Ok.set (c.in-Ok.ensures.set ∙ one_set c.args.l) c.in-Some.ensures.found c.if-least-id.false c.find.result c.find.ensures.slot)

pub returns-clause-none : goal.returns-clause-none
returns-clause-none c = λ x at.
    absurd (unit_none c.self.inside.watches.clauses c.args.self.now c.args.l x c.in-Ok.set (ap (λ z. z.clauses) c.self.view_is) (c.in-Ok.ensures.set ∙ one_set c.args.l) c.in-None.ensures.none at)
