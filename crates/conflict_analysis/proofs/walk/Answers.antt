use Rattle.std.specs.Prelude.{IfSome}
use Rattle.propagation.specs.Engine.{reason_in}
use Rattle.std.proofs.lemmas.List.{length-set}
use Rattle.conflict_analysis.specs.declared.marks.Mark.TheVariants as mark
use Rattle.std.proofs.Common.{◌≡◌, ◌/◌, Some, subst, ◌++◌, [], ◌∷◌, length, sym, ap, ◌∙◌}
use Rattle.conflict_analysis.specs.Marked.{is_pending}
use Rattle.conflict_analysis.proofs.Engines.{reason_active}
use Rattle.conflict_analysis.proofs.Stepping.{below, room_here, walk_stops, walk_visited, walk_skip, walk_keep, walk_resolve}
use Rattle.conflict_analysis.proofs.walk.Goals as goal

pub at-requires : goal.at-requires
at-requires c = room_here c.args.engine.now c.requires.engine c.loop-i.i c.index-trail-i.result (below c.args.engine.now c.loop-i.i c.index-trail-i.result c.trail-trail.result.now c.loop-i-test.true c.loop-i.invariant.walking.within c.trail-trail.ensures.literals c.index-trail-i.is) (length c.loop-i.marks) c.loop-i.invariant.walking.room

pub mark_needed-requires-clause-active : goal.mark_needed-requires-clause-active
mark_needed-requires-clause-active c = (reason_active c.args.engine.now c.index-trail-i.result c.in-Some.slot c.requires.engine (subst (λ z. IfSome z (λ s. reason_in c.args.engine.now.trail c.index-trail-i.result ≡ Some s)) c.in-Some.is c.in_ok-slot.ensures.slot))

pub id_of-requires : goal.id_of-requires
id_of-requires c = (reason_active c.args.engine.now c.index-trail-i.result c.in-Some.slot c.requires.engine (subst (λ z. IfSome z (λ s. reason_in c.args.engine.now.trail c.index-trail-i.result ≡ Some s)) c.in-Some.is c.in_ok-slot.ensures.slot))

pub loop-i-preserved-in-Some : goal.loop-i-preserved-in-Some
loop-i-preserved-in-Some c = record {
  walking = walk_visited c.args.engine.now c.requires.engine c.loop-i.i c.index-trail-i.result (below c.args.engine.now c.loop-i.i c.index-trail-i.result c.trail-trail.result.now c.loop-i-test.true c.loop-i.invariant.walking.within c.trail-trail.ensures.literals c.index-trail-i.is) c.mark_needed.new.marks c.visit.new.self c.loop-i.lemma.items c.push.new.self.items (walk_resolve c.args.engine.now c.requires.engine c.loop-i.i c.index-trail-i.result (below c.args.engine.now c.loop-i.i c.index-trail-i.result c.trail-trail.result.now c.loop-i-test.true c.loop-i.invariant.walking.within c.trail-trail.ensures.literals c.index-trail-i.is) c.loop-i.marks c.mark_needed.new.marks c.loop-i.lemma.items c.loop-i.hints.items c.push.new.self.items c.in-Some.slot c.id_of.result
      c.loop-i.invariant.walking (ap is_pending (sym c.at.ensures) ∙ sym c.is_pending.ensures ∙ c.if-is_pending.true) (reason_active c.args.engine.now c.index-trail-i.result c.in-Some.slot c.requires.engine (subst (λ z. IfSome z (λ s. reason_in c.args.engine.now.trail c.index-trail-i.result ≡ Some s)) c.in-Some.is c.in_ok-slot.ensures.slot)) c.id_of.ensures (subst (λ z. IfSome z (λ s. reason_in c.args.engine.now.trail c.index-trail-i.result ≡ Some s)) c.in-Some.is c.in_ok-slot.ensures.slot)
      c.in_ok-mark_needed-in-Some.ensures.marked (λ x h. c.mark_needed.ensures.more x (c.reason_to_use.ensures.pending x ∙ h)) (c.mark_needed.ensures.length ∙ c.reason_to_use.ensures.length) c.in_ok-push-in-Some.ensures.items) c.visit.ensures;
  same = ap length c.visit.ensures ∙ length-set c.mark_needed.new.marks (c.index-trail-i.result / 2) mark.Clear ∙ c.mark_needed.ensures.length ∙ c.reason_to_use.ensures.length ∙ c.loop-i.invariant.same;
}

pub loop-i-preserved-in-None : goal.loop-i-preserved-in-None
loop-i-preserved-in-None c = record {
  walking = walk_visited c.args.engine.now c.requires.engine c.loop-i.i c.index-trail-i.result (below c.args.engine.now c.loop-i.i c.index-trail-i.result c.trail-trail.result.now c.loop-i-test.true c.loop-i.invariant.walking.within c.trail-trail.ensures.literals c.index-trail-i.is) c.reason_to_use.new.marks c.visit-in-None.new.self c.push-in-None.new.self.items c.loop-i.hints.items (walk_keep c.args.engine.now c.requires.engine c.loop-i.i c.index-trail-i.result (below c.args.engine.now c.loop-i.i c.index-trail-i.result c.trail-trail.result.now c.loop-i-test.true c.loop-i.invariant.walking.within c.trail-trail.ensures.literals c.index-trail-i.is) c.loop-i.marks c.reason_to_use.new.marks c.loop-i.lemma.items c.push-in-None.new.self.items c.loop-i.hints.items c.loop-i.invariant.walking (ap is_pending (sym c.at.ensures) ∙ sym c.is_pending.ensures ∙ c.if-is_pending.true)
      c.reason_to_use.ensures.pending c.reason_to_use.ensures.length (c.in_ok-push-in-None.ensures.items ∙ ap (λ z. c.loop-i.lemma.items ++ z ∷ []) c.neg.ensures.negation)) c.visit-in-None.ensures;
  same = ap length c.visit-in-None.ensures ∙ length-set c.reason_to_use.new.marks (c.index-trail-i.result / 2) mark.Clear ∙ c.reason_to_use.ensures.length ∙ c.loop-i.invariant.same;
}

pub loop-i-preserved : goal.loop-i-preserved
loop-i-preserved c = record {
  walking = walk_skip c.args.engine.now c.requires.engine c.loop-i.i c.index-trail-i.result (below c.args.engine.now c.loop-i.i c.index-trail-i.result c.trail-trail.result.now c.loop-i-test.true c.loop-i.invariant.walking.within c.trail-trail.ensures.literals c.index-trail-i.is) c.loop-i.marks c.loop-i.lemma.items c.loop-i.hints.items c.loop-i.invariant.walking (ap is_pending (sym c.at.ensures) ∙ sym c.is_pending.ensures ∙ c.if-is_pending.false);
  same = c.loop-i.invariant.same;
}

pub returns-then-not-has_pending-clause-walking : goal.returns-then-not-has_pending-clause-walking
returns-then-not-has_pending-clause-walking c = walk_stops c.args.engine.now c.requires.engine c.loop-i.i c.loop-i.marks c.loop-i.lemma.items c.loop-i.hints.items c.loop-i.invariant.walking (c.has_pending.ensures c.if-not-has_pending.true)
