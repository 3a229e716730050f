use Rattle.std.proofs.Common.{◌≡◌, [], ◌∷◌, Some, inl, sym, subst, ap, ◌∙◌}
use Rattle.std.specs.Prelude.{is_some}
use Rattle.propagation.specs.Engine.{EngineView, IsNoReason, IsReasonOf, IsOtherUnit, level_after, literals}
use Rattle.propagation.specs.Watching.{engine_of}
use Rattle.propagation.proofs.Trail.{new_entries}
use Rattle.propagation.proofs.Resting.{literals-rested, level_after-rested}
use Rattle.propagation.proofs.Releasing.{inside_rested, none_rested, not_both, same_literal}
use Rattle.propagation.proofs.Engine.replace_reason.Goals as goal

pub invariant_of-self : goal.invariant_of-self
invariant_of-self c =
    let o = c.self.inside in
    inside_rested o.watches o.trail c.replace_reason.new.self o.head o.pending.items o.pending_head o.levels.items _ c.args.id c.in-Some.l c.in-Some-other_unit.slot c.self.invariant (ap (λ z. level_after z.trail) c.self.view_is ∙ c.requires.level)
    (subst (λ z. IsReasonOf z c.args.id c.in-Some.l) (sym c.self.view_is) c.in-Some.ensures.some) (subst (λ z. IsOtherUnit z c.args.id c.in-Some.l c.in-Some-other_unit.slot) (sym c.self.view_is) c.in-Some-other_unit.ensures.some) c.replace_reason.ensures

pub returns-in-Some-other_unit-clause-no_reason : goal.returns-in-Some-other_unit-clause-no_reason
returns-in-Some-other_unit-clause-no_reason c =
    let o = c.self.inside in
    let e : EngineView = engine_of o.watches.clauses o.trail.entries o.trail.vars in
    subst (λ z. IsNoReason (engine_of o.watches.clauses z.entries z.vars) c.args.id) (sym c.replace_reason.ensures)
    (none_rested e c.args.id c.in-Some.l c.in-Some-other_unit.slot c.self.invariant.sound
    (subst (λ z. IsReasonOf z c.args.id c.in-Some.l) (sym c.self.view_is) c.in-Some.ensures.some) (subst (λ z. IsOtherUnit z c.args.id c.in-Some.l c.in-Some-other_unit.slot) (sym c.self.view_is) c.in-Some-other_unit.ensures.some))

pub returns-in-Some-other_unit-clause-level : goal.returns-in-Some-other_unit-clause-level
returns-in-Some-other_unit-clause-level c =
    let o = c.self.inside in
    let e : EngineView = engine_of o.watches.clauses o.trail.entries o.trail.vars in
    let was : IsReasonOf e c.args.id c.in-Some.l = subst (λ z. IsReasonOf z c.args.id c.in-Some.l) (sym c.self.view_is) c.in-Some.ensures.some in
    ap (λ z. level_after z.entries) c.replace_reason.ensures ∙ level_after-rested o.trail.vars o.trail.entries c.in-Some.l c.in-Some-other_unit.slot (new_entries e c.self.invariant.sound) (ap is_some was.2)
    ∙ ap (λ z. level_after z.trail) c.self.view_is ∙ c.requires.level

pub returns-in-Some-other_unit-clause-literals : goal.returns-in-Some-other_unit-clause-literals
returns-in-Some-other_unit-clause-literals c =
    let o = c.self.inside in
    inl (ap (λ z. literals z.entries) c.replace_reason.ensures ∙ literals-rested o.trail.entries c.in-Some.l c.in-Some-other_unit.slot ∙ ap (λ z. literals z.trail) c.self.view_is)

pub returns-in-Some-other_unit-clause-kept : goal.returns-in-Some-other_unit-clause-kept
returns-in-Some-other_unit-clause-kept c = λ none. absurd (not_both c.args.self.now c.args.id c.in-Some.l c.in-Some.ensures.some none)

pub returns-in-Some-other_unit-clause-stays : goal.returns-in-Some-other_unit-clause-stays
returns-in-Some-other_unit-clause-stays c = λ x l was at alone.
    let o = c.self.inside in
    ap (λ z. literals z.entries) c.replace_reason.ensures ∙ literals-rested o.trail.entries c.in-Some.l c.in-Some-other_unit.slot ∙ ap (λ z. literals z.trail) c.self.view_is

pub returns-in-None-clause-kept : goal.returns-in-None-clause-kept
returns-in-None-clause-kept c = λ none. absurd (not_both c.args.self.now c.args.id c.in-Some.l c.in-Some.ensures.some none)

pub returns-in-None-clause-stays : goal.returns-in-None-clause-stays
returns-in-None-clause-stays c = λ x l was at alone.
    let o = c.self.inside in
    let e : EngineView = engine_of o.watches.clauses o.trail.entries o.trail.vars in
    let same : l ≡ c.in-Some.l = same_literal e c.args.id l c.in-Some.l c.self.invariant.sound (subst (λ z. IsReasonOf z c.args.id l) (sym c.self.view_is) was) (subst (λ z. IsReasonOf z c.args.id c.in-Some.l) (sym c.self.view_is) c.in-Some.ensures.some) in
    absurd (alone (c.in-None.ensures.none x (at ∙ ap (λ z. Some (z ∷ [])) same) ∙ ap (λ z. Some (z ∷ [])) (sym same)))
