use Rattle.std.proofs.Common.{◌≤◌, ◌++◌, [], ◌∷◌, length, reverse, subst, sym, ap, ◌∙◌}
use Rattle.propagation.proofs.Trail.{length-literals}
use Rattle.conflict_analysis.specs.Cores.{IsCore}
use Rattle.conflict_analysis.proofs.Tracing.{conflict_starts, only_new, no_core_at_zero, trace_ends}
use Rattle.conflict_analysis.proofs.cores.trace_conflict.Goals as goal

pub walk_to_assumed-requires-clause-tracing : goal.walk_to_assumed-requires-clause-tracing
walk_to_assumed-requires-clause-tracing c = conflict_starts c.args.engine.now c.args.conflict c.id_of.result (length c.trail-places.result.now) c.mark_needed.new.marks c.args.core.now.items c.push.new.self.items
    c.trail-places.ensures.sound c.requires.conflict (subst (λ z. c.args.engine.now.vars ≤ z) (sym c.mark_needed.ensures.length) c.requires.room)
    c.in_ok-mark_needed.ensures.marked (only_new c.args.marks.now c.mark_needed.new.marks c.requires.clear c.in_ok-mark_needed.ensures.only) c.id_of.ensures c.requires.no_literals (c.in_ok-push.ensures.items ∙ ap (λ z. z ++ c.id_of.result ∷ []) c.requires.no_hints)
    (ap length c.trail-places.ensures.literals ∙ length-literals c.args.engine.now.trail)

pub returns-clause-core : goal.returns-clause-core
returns-clause-core c = subst (λ z. IsCore c.args.engine.now z c.walk_to_assumed.new.core.items (reverse c.walk_to_assumed.new.hints.items)) c.requires.no_literals (trace_ends c.args.engine.now c.walk_to_assumed.new.marks c.args.core.now.items c.walk_to_assumed.new.core.items c.walk_to_assumed.new.hints.items c.trail-places.ensures.sound c.in_ok-walk_to_assumed.ensures.tracing)

pub returns-clause-none : goal.returns-clause-none
returns-clause-none c = no_core_at_zero c.args.engine.now c.walk_to_assumed.new.core.items (reverse c.walk_to_assumed.new.hints.items) c.trail-places.ensures.sound
    (subst (λ z. IsCore c.args.engine.now z c.walk_to_assumed.new.core.items (reverse c.walk_to_assumed.new.hints.items)) c.requires.no_literals (trace_ends c.args.engine.now c.walk_to_assumed.new.marks c.args.core.now.items c.walk_to_assumed.new.core.items c.walk_to_assumed.new.hints.items c.trail-places.ensures.sound c.in_ok-walk_to_assumed.ensures.tracing))
