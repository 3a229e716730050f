use Rattle.std.proofs.Common.{◌/◌, length, sym, ap, ◌∙◌}
use Rattle.std.proofs.lemmas.List.{length-set}
use Rattle.conflict_analysis.specs.declared.marks.Mark.TheVariants as mark
use Rattle.conflict_analysis.specs.Marked.{is_pending}
use Rattle.conflict_analysis.proofs.Engines.{reason_active}
use Rattle.conflict_analysis.proofs.Stepping.{below, room_here}
use Rattle.conflict_analysis.proofs.Tracing.{trace_skip, trace_keep, trace_resolve, trace_visited, trace_stops}
use Rattle.conflict_analysis.proofs.cores.walk_to_assumed.Goals as goal

pub at-requires : goal.at-requires
at-requires c = room_here c.args.engine.now c.requires.engine c.loop-i.i c.index-trail-i.result (below c.args.engine.now c.loop-i.i c.index-trail-i.result c.trail-trail.result.now c.loop-i-test.true c.loop-i.invariant.tracing.within c.trail-trail.ensures.literals c.index-trail-i.is) (length c.loop-i.marks) c.loop-i.invariant.tracing.room

pub mark_needed-requires-clause-active : goal.mark_needed-requires-clause-active
mark_needed-requires-clause-active c = (reason_active c.args.engine.now c.index-trail-i.result c.in-Some.slot c.requires.engine (sym c.reason.ensures.value ∙ c.in-Some.is))

pub id_of-requires : goal.id_of-requires
id_of-requires c = (reason_active c.args.engine.now c.index-trail-i.result c.in-Some.slot c.requires.engine (sym c.reason.ensures.value ∙ c.in-Some.is))

pub loop-i-preserved-in-Some : goal.loop-i-preserved-in-Some
loop-i-preserved-in-Some c = record {
  tracing = trace_visited c.args.engine.now c.requires.engine c.loop-i.i c.index-trail-i.result (below c.args.engine.now c.loop-i.i c.index-trail-i.result c.trail-trail.result.now c.loop-i-test.true c.loop-i.invariant.tracing.within c.trail-trail.ensures.literals c.index-trail-i.is) c.mark_needed.new.marks c.visit.new.self c.args.core.now.items c.loop-i.core.items c.push.new.self.items
      (trace_resolve c.args.engine.now c.requires.engine c.loop-i.i c.index-trail-i.result (below c.args.engine.now c.loop-i.i c.index-trail-i.result c.trail-trail.result.now c.loop-i-test.true c.loop-i.invariant.tracing.within c.trail-trail.ensures.literals c.index-trail-i.is) c.loop-i.marks c.mark_needed.new.marks c.args.core.now.items c.loop-i.core.items c.loop-i.hints.items c.push.new.self.items c.in-Some.slot c.id_of.result
      c.loop-i.invariant.tracing (ap is_pending (sym c.at.ensures) ∙ sym c.is_pending.ensures ∙ c.if-is_pending.true) (reason_active c.args.engine.now c.index-trail-i.result c.in-Some.slot c.requires.engine (sym c.reason.ensures.value ∙ c.in-Some.is)) c.id_of.ensures (sym c.reason.ensures.value ∙ c.in-Some.is)
      c.in_ok-mark_needed-in-Some.ensures.marked c.in_ok-mark_needed-in-Some.ensures.only c.mark_needed.ensures.more c.mark_needed.ensures.length c.in_ok-push-in-Some.ensures.items) c.visit.ensures;
  same = ap length c.visit.ensures ∙ length-set c.mark_needed.new.marks (c.index-trail-i.result / 2) mark.Clear ∙ c.mark_needed.ensures.length ∙ c.loop-i.invariant.same;
}

pub loop-i-preserved-in-None : goal.loop-i-preserved-in-None
loop-i-preserved-in-None c = record {
  tracing = trace_visited c.args.engine.now c.requires.engine c.loop-i.i c.index-trail-i.result (below c.args.engine.now c.loop-i.i c.index-trail-i.result c.trail-trail.result.now c.loop-i-test.true c.loop-i.invariant.tracing.within c.trail-trail.ensures.literals c.index-trail-i.is) c.loop-i.marks c.visit-in-None.new.self c.args.core.now.items c.push-in-None.new.self.items c.loop-i.hints.items
      (trace_keep c.args.engine.now c.requires.engine c.loop-i.i c.index-trail-i.result (below c.args.engine.now c.loop-i.i c.index-trail-i.result c.trail-trail.result.now c.loop-i-test.true c.loop-i.invariant.tracing.within c.trail-trail.ensures.literals c.index-trail-i.is) c.loop-i.marks c.args.core.now.items c.loop-i.core.items c.push-in-None.new.self.items c.loop-i.hints.items c.loop-i.invariant.tracing (ap is_pending (sym c.at.ensures) ∙ sym c.is_pending.ensures ∙ c.if-is_pending.true)
      (sym c.reason.ensures.value ∙ c.in-None.is) c.in_ok-push-in-None.ensures.items) c.visit-in-None.ensures;
  same = ap length c.visit-in-None.ensures ∙ length-set c.loop-i.marks (c.index-trail-i.result / 2) mark.Clear ∙ c.loop-i.invariant.same;
}

pub loop-i-preserved : goal.loop-i-preserved
loop-i-preserved c = record {
  tracing = trace_skip c.args.engine.now c.requires.engine c.loop-i.i c.index-trail-i.result (below c.args.engine.now c.loop-i.i c.index-trail-i.result c.trail-trail.result.now c.loop-i-test.true c.loop-i.invariant.tracing.within c.trail-trail.ensures.literals c.index-trail-i.is) c.loop-i.marks c.args.core.now.items c.loop-i.core.items c.loop-i.hints.items c.loop-i.invariant.tracing (ap is_pending (sym c.at.ensures) ∙ sym c.is_pending.ensures ∙ c.if-is_pending.false);
  same = c.loop-i.invariant.same;
}

pub returns-then-not-has_pending-clause-tracing : goal.returns-then-not-has_pending-clause-tracing
returns-then-not-has_pending-clause-tracing c = trace_stops c.args.engine.now c.requires.engine c.loop-i.i c.loop-i.marks c.args.core.now.items c.loop-i.core.items c.loop-i.hints.items c.loop-i.invariant.tracing (c.has_pending.ensures c.if-not-has_pending.true)
