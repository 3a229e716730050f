use Rattle.std.proofs.Common.{◌/◌, ◌++◌, [], ◌∷◌, length, inl, inr, sym, ap, ◌∙◌}
use Rattle.conflict_analysis.specs.Marked.{is_pending}
use Rattle.conflict_analysis.proofs.Engines.{reason_active}
use Rattle.conflict_analysis.proofs.Stepping.{below, room_here, open_here, count_here, search_skip, search_resolve, search_found, search_visited, walk_visited}
use Rattle.std.proofs.lemmas.List.{length-set}
use Rattle.conflict_analysis.specs.declared.marks.Mark.TheVariants as mark
use Rattle.conflict_analysis.proofs.first_alone.Goals as goal
use Rattle.conflict_analysis.proofs.first_alone.Goals.{in_default-via-in-Some+else-count-gt1, in_default-via-in_default}

pub at-requires : goal.at-requires
at-requires c = room_here c.args.engine.now c.requires.engine c.loop-i.i c.index-trail-i.result (below c.args.engine.now c.loop-i.i c.index-trail-i.result c.trail-trail.result.now c.loop-i-test.true c.loop-i.invariant.searching.within c.trail-trail.ensures.literals c.index-trail-i.is) (length c.loop-i.marks) c.loop-i.invariant.searching.room

pub mark_all-requires-clause-active : goal.mark_all-requires-clause-active
mark_all-requires-clause-active c = reason_active c.args.engine.now c.index-trail-i.result c.in-Some.slot c.requires.engine (sym c.reason.ensures.value ∙ c.in-Some.is)

pub mark_all-requires-clause-open : goal.mark_all-requires-clause-open
mark_all-requires-clause-open c = open_here c.args.engine.now c.requires.engine c.loop-i.i c.index-trail-i.result (below c.args.engine.now c.loop-i.i c.index-trail-i.result c.trail-trail.result.now c.loop-i-test.true c.loop-i.invariant.searching.within c.trail-trail.ensures.literals c.index-trail-i.is) c.loop-i.marks c.in-Some.slot (ap is_pending (sym c.at.ensures) ∙ sym c.is_pending.ensures ∙ c.if-is_pending.true) (sym c.reason.ensures.value ∙ c.in-Some.is)

pub mark_all-requires-clause-count : goal.mark_all-requires-clause-count
mark_all-requires-clause-count c = count_here c.args.engine.now c.requires.engine c.loop-i.i c.index-trail-i.result (below c.args.engine.now c.loop-i.i c.index-trail-i.result c.trail-trail.result.now c.loop-i-test.true c.loop-i.invariant.searching.within c.trail-trail.ensures.literals c.index-trail-i.is) c.loop-i.marks c.loop-i.hints.items c.loop-i.count c.loop-i.invariant.searching (ap is_pending (sym c.at.ensures) ∙ sym c.is_pending.ensures ∙ c.if-is_pending.true)

pub id_of-requires : goal.id_of-requires
id_of-requires c = reason_active c.args.engine.now c.index-trail-i.result c.in-Some.slot c.requires.engine (sym c.reason.ensures.value ∙ c.in-Some.is)

pub loop-i-preserved-then-count-gt1 : goal.loop-i-preserved-then-count-gt1
loop-i-preserved-then-count-gt1 c = record {
  searching = search_visited c.args.engine.now c.requires.engine c.loop-i.i c.index-trail-i.result (below c.args.engine.now c.loop-i.i c.index-trail-i.result c.trail-trail.result.now c.loop-i-test.true c.loop-i.invariant.searching.within c.trail-trail.ensures.literals c.index-trail-i.is) c.mark_all.new.marks c.visit.new.self c.push.new.self.items c.in_ok-count-in-Some.count (search_resolve c.args.engine.now c.requires.engine c.loop-i.i c.index-trail-i.result (below c.args.engine.now c.loop-i.i c.index-trail-i.result c.trail-trail.result.now c.loop-i-test.true c.loop-i.invariant.searching.within c.trail-trail.ensures.literals c.index-trail-i.is) c.loop-i.marks c.mark_all.new.marks c.loop-i.hints.items c.push.new.self.items c.loop-i.count c.in_ok-count-in-Some.count c.in-Some.slot c.id_of.result
      c.loop-i.invariant.searching (ap is_pending (sym c.at.ensures) ∙ sym c.is_pending.ensures ∙ c.if-is_pending.true) c.if-count-gt1.true (reason_active c.args.engine.now c.index-trail-i.result c.in-Some.slot c.requires.engine (sym c.reason.ensures.value ∙ c.in-Some.is)) c.id_of.ensures (sym c.reason.ensures.value ∙ c.in-Some.is)
      c.in_ok-count-in-Some.ensures.marked c.mark_all.ensures.more c.mark_all.ensures.length c.in_ok-push-in-Some.ensures.items c.in_ok-count-in-Some.ensures.count) c.visit.ensures;
  empty = c.loop-i.invariant.empty;
  same = ap length c.visit.ensures ∙ length-set c.mark_all.new.marks (c.index-trail-i.result / 2) mark.Clear ∙ c.mark_all.ensures.length ∙ c.loop-i.invariant.same;
}

pub returns-in_default-clause-walking : goal.returns-in_default-clause-walking
returns-in_default-clause-walking c = walk_visited c.args.engine.now c.requires.engine c.loop-i.i c.index-trail-i.result (below c.args.engine.now c.loop-i.i c.index-trail-i.result c.trail-trail.result.now c.loop-i-test.true c.loop-i.invariant.searching.within c.trail-trail.ensures.literals c.index-trail-i.is) c.loop-i.marks c.visit-in_default.new.self c.push-in_default.new.self.items c.loop-i.hints.items (search_found c.args.engine.now c.requires.engine c.loop-i.i c.index-trail-i.result (below c.args.engine.now c.loop-i.i c.index-trail-i.result c.trail-trail.result.now c.loop-i-test.true c.loop-i.invariant.searching.within c.trail-trail.ensures.literals c.index-trail-i.is) c.loop-i.marks c.loop-i.hints.items c.push-in_default.new.self.items c.loop-i.count c.loop-i.invariant.searching (ap is_pending (sym c.at.ensures) ∙ sym c.is_pending.ensures ∙ c.if-is_pending.true)
    (elim c.in_default.branch [ in_default-via-in-Some+else-count-gt1 w ↦ inr w.if-count-gt1.false | in_default-via-in_default w ↦ inl (sym c.reason.ensures.value ∙ w.in_default.is) ])
    (c.in_ok-push-in_default.ensures.items ∙ ap (λ z. z ++ c.neg.result ∷ []) c.loop-i.invariant.empty ∙ ap (λ z. z ∷ []) c.neg.ensures.negation)) c.visit-in_default.ensures

pub loop-i-preserved : goal.loop-i-preserved
loop-i-preserved c = record {
  searching = search_skip c.args.engine.now c.requires.engine c.loop-i.i c.index-trail-i.result (below c.args.engine.now c.loop-i.i c.index-trail-i.result c.trail-trail.result.now c.loop-i-test.true c.loop-i.invariant.searching.within c.trail-trail.ensures.literals c.index-trail-i.is) c.loop-i.marks c.loop-i.hints.items c.loop-i.count c.loop-i.invariant.searching (ap is_pending (sym c.at.ensures) ∙ sym c.is_pending.ensures ∙ c.if-is_pending.false);
  empty = c.loop-i.invariant.empty;
  same = c.loop-i.invariant.same;
}
