use Rattle.std.proofs.Common.{◌≡◌, Some, sym, subst, ◌∙◌}
use Rattle.clause_store.proofs.Stored.{some_of, none_of}
use Rattle.propagation.specs.Engine.{EngineView, IsNoReason, IsReasonOf, reason_in}
use Rattle.propagation.specs.Watching.{engine_of}
use Rattle.propagation.proofs.ClausesMap.{slot_of-clauses_of}
use Rattle.propagation.proofs.Releasing.{reason_here, no_reason-listed, no_reason-inactive}
use Rattle.propagation.proofs.Engine.forced_by.Goals as goal

pub returns-in-Some-clause-some : goal.returns-in-Some-clause-some
returns-in-Some-clause-some c =
    let o = c.self.inside in
    let e : EngineView = engine_of o.watches.clauses o.trail.entries o.trail.vars in
    some_of (λ l. reason_in o.trail.entries l ≡ Some c.in-Some.slot) (λ l. IsReasonOf c.args.self.now c.args.id l) c.forced_among.result c.forced_among.ensures.some
    (λ l h. subst (λ z. IsReasonOf z c.args.id l) c.self.view_is (reason_here e c.args.id c.in-Some.slot l (slot_of-clauses_of o.watches.clauses c.args.id ∙ sym c.in-Some.ensures.slot) h))

pub returns-in-Some-clause-none : goal.returns-in-Some-clause-none
returns-in-Some-clause-none c =
    let o = c.self.inside in
    none_of _ (IsNoReason c.args.self.now c.args.id) c.forced_among.result c.forced_among.ensures.none
    (λ h. subst (λ z. IsNoReason z c.args.id) c.self.view_is
    (no_reason-listed o.watches.clauses o.trail.entries o.trail.vars c.args.id c.in-Some.slot c.lits.result.now c.find.ensures.sound.store c.self.invariant.sound (sym c.in-Some.ensures.slot) (c.lits.ensures.list c.args.id (sym c.in-Some.ensures.slot)) h))

pub returns-in-None-clause-none : goal.returns-in-None-clause-none
returns-in-None-clause-none c =
    let o = c.self.inside in
    subst (λ z. IsNoReason z c.args.id) c.self.view_is (no_reason-inactive o.watches.clauses o.trail.entries o.trail.vars c.args.id (sym c.in-None.ensures.slot))
