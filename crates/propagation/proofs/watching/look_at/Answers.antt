use Rattle.std.proofs.Common.{arith, refl}
use Rattle.propagation.proofs.Advancing.{advances_then, ready_next, ready_still, length_longer}
use Rattle.propagation.proofs.watching.look_at.Goals as goal

pub returns-in-Some-clause-entries : goal.returns-in-Some-clause-entries
returns-in-Some-clause-entries c = advances_then c.args.watches.now c.loop-from.watches c.visit_id.new.watches c.args.trail.now c.loop-from.trail c.visit_id.new.trail c.loop-from.invariant.entries c.visit_id.ensures.entries

pub returns-in-Some-clause-ready : goal.returns-in-Some-clause-ready
returns-in-Some-clause-ready c = λ h le r.
    let longer = length_longer c.args.watches.now c.loop-from.watches c.args.trail.now c.loop-from.trail c.loop-from.invariant.entries in
    ready_still c.loop-from.watches c.visit_id.new.watches c.loop-from.trail c.visit_id.new.trail c.visit_id.ensures.entries h _ (omega (arith, longer)) (c.loop-from.invariant.ready h le r)

pub loop-from-preserved : goal.loop-from-preserved
loop-from-preserved c =
    let longer = length_longer c.args.watches.now c.loop-from.watches c.args.trail.now c.loop-from.trail c.loop-from.invariant.entries in
    record {
      within = omega arith;
      entries = advances_then c.args.watches.now c.loop-from.watches c.visit_id.new.watches c.args.trail.now c.loop-from.trail c.visit_id.new.trail c.loop-from.invariant.entries c.visit_id.ensures.entries;
      ready = λ h le r. ready_next c.loop-from.watches c.visit_id.new.watches c.loop-from.trail c.visit_id.new.trail c.visit_id.ensures.entries h c.loop-from.from _ c.args.ids.now (omega (arith, longer)) c.loop-from-test.true refl c.in_default.ensures.done (c.loop-from.invariant.ready h le r);
    }
