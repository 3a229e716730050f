use Rattle.std.proofs.Common.{◌≤◌, ◌/◌, ◌++◌, [], ◌∷◌, reverse, set, subst, sym, ap, ◌∙◌, arith}
use Rattle.lits.specs.Literal.{neg}
use Rattle.propagation.specs.Engine.{literals, place_in, reason_in}
use Rattle.propagation.proofs.Assigning.{reserved-true}
use Rattle.propagation.proofs.Trail.{new_entries}
use Rattle.conflict_analysis.specs.declared.marks.Mark.TheVariants as mark
use Rattle.conflict_analysis.specs.Cores.{IsCore}
use Rattle.conflict_analysis.proofs.Engines.{reason_active}
use Rattle.conflict_analysis.proofs.Tracing.{assumption_starts, none_unless, only_new, opposites_close, placed_at, trace_ends}
use Rattle.conflict_analysis.proofs.cores.trace_assumption.Goals as goal

pub returns-in_default-clause-core : goal.returns-in_default-clause-core
returns-in_default-clause-core c = opposites_close c.args.engine.now c.args.l c.push-in_default.new.self.items c.args.hints.now.items c.reason.ensures.sound c.requires.fails
    (ap (reason_in c.args.engine.now.trail) (sym c.neg-opposite.ensures.negation) ∙ sym c.reason.ensures.value ∙ none_unless c.reason.result c.in_default.not-Some)
    (c.in_ok-push-2.ensures.items ∙ ap (λ z. z ++ c.neg-opposite.result ∷ []) (c.in_ok-push.ensures.items ∙ ap (λ z. z ++ c.args.l ∷ []) c.requires.no_literals) ∙ ap (λ z. c.args.l ∷ z ∷ []) c.neg-opposite.ensures.negation) c.requires.no_hints

pub mark_needed-requires-clause-active : goal.mark_needed-requires-clause-active
mark_needed-requires-clause-active c = (reason_active c.args.engine.now c.neg-opposite.result c.in-Some.slot c.reason.ensures.sound (sym c.reason.ensures.value ∙ c.in-Some.is))

pub id_of-requires : goal.id_of-requires
id_of-requires c = (reason_active c.args.engine.now c.neg-opposite.result c.in-Some.slot c.reason.ensures.sound (sym c.reason.ensures.value ∙ c.in-Some.is))

pub visit-requires : goal.visit-requires
visit-requires c =
    let r = reserved-true c.args.engine.now.vars c.args.engine.now.trail (neg c.args.l) (new_entries c.args.engine.now c.reason.ensures.sound) c.requires.fails in
    let n = c.neg-opposite.ensures.negation in
    let a = c.requires.room in
    let b = c.mark_needed.ensures.length in
    omega (arith, r, n, a, b)

pub walk_to_assumed-requires-clause-tracing : goal.walk_to_assumed-requires-clause-tracing
walk_to_assumed-requires-clause-tracing c = assumption_starts c.args.engine.now c.unwrap_or-place.result c.args.l c.in-Some.slot c.id_of.result c.mark_needed.new.marks c.visit.new.self c.push.new.self.items c.push-2.new.self.items
    c.reason.ensures.sound (placed_at c.args.engine.now (neg c.args.l) c.unwrap_or-place.result c.place_of.result c.requires.fails (c.place_of.ensures.value ∙ ap (place_in (literals c.args.engine.now.trail)) c.neg-opposite.ensures.negation) c.unwrap_or-place.ensures)
    c.requires.fails (ap (reason_in c.args.engine.now.trail) (sym c.neg-opposite.ensures.negation) ∙ sym c.reason.ensures.value ∙ c.in-Some.is) (reason_active c.args.engine.now c.neg-opposite.result c.in-Some.slot c.reason.ensures.sound (sym c.reason.ensures.value ∙ c.in-Some.is)) c.id_of.ensures c.in_ok-mark_needed.ensures.marked (only_new c.args.marks.now c.mark_needed.new.marks c.requires.clear c.in_ok-mark_needed.ensures.only) (subst (λ z. c.args.engine.now.vars ≤ z) (sym c.mark_needed.ensures.length) c.requires.room)
    (c.in_ok-push.ensures.items ∙ ap (λ z. z ++ c.args.l ∷ []) c.requires.no_literals) (c.in_ok-push-3.ensures.items ∙ ap (λ z. z ++ c.id_of.result ∷ []) c.requires.no_hints)
    (c.visit.ensures ∙ ap (λ z. set c.mark_needed.new.marks (z / 2) mark.Clear) c.neg-opposite.ensures.negation)

pub returns-clause-core : goal.returns-clause-core
returns-clause-core c = subst (λ z. IsCore c.args.engine.now z c.walk_to_assumed.new.core.items (reverse c.walk_to_assumed.new.hints.items)) (c.in_ok-push.ensures.items ∙ ap (λ z. z ++ c.args.l ∷ []) c.requires.no_literals)
    (trace_ends c.args.engine.now c.walk_to_assumed.new.marks c.push.new.self.items c.walk_to_assumed.new.core.items c.walk_to_assumed.new.hints.items c.reason.ensures.sound c.in_ok-walk_to_assumed.ensures.tracing)
