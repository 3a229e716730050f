use Rattle.std.proofs.Common.{◌≡◌, ◌<◌, length, arith, ap, ◌∙◌}
use Rattle.propagation.specs.Watching.{engine_of}
use Rattle.propagation.proofs.Trail.{trail-le, length-literals}
use Rattle.propagation.proofs.Advancing.{advances_then, length_longer}
use Rattle.propagation.proofs.watching.propagate_trail.Goals as goal

pub returns-in-Some-clause-entries : goal.returns-in-Some-clause-entries
returns-in-Some-clause-entries c = advances_then c.args.watches.now c.loop-head.watches c.propagate_literal.new.watches c.args.trail.now c.loop-head.trail c.propagate_literal.new.trail c.loop-head.invariant.entries c.propagate_literal.ensures.entries

pub loop-head-smaller : goal.loop-head-smaller
loop-head-smaller c =
    let le = trail-le (engine_of c.loop-head.watches.clauses c.loop-head.trail.entries c.loop-head.trail.vars) c.loop-head.invariant.entries.engine in
    let vars = c.loop-head.invariant.entries.vars in
    let same : length c.lits.result.now ≡ length c.loop-head.trail.entries = ap length c.lits.ensures ∙ length-literals c.loop-head.trail.entries in
    let lt : c.loop-head.head < c.args.trail.now.vars = omega (arith, le, vars, same, c.loop-head-test.true) in
    omega arith

pub loop-head-preserved : goal.loop-head-preserved
loop-head-preserved c =
    let longer = length_longer c.loop-head.watches c.propagate_literal.new.watches c.loop-head.trail c.propagate_literal.new.trail c.propagate_literal.ensures.entries in
    let same : length c.lits.result.now ≡ length c.loop-head.trail.entries = ap length c.lits.ensures ∙ length-literals c.loop-head.trail.entries in
    record {
      within = omega (arith, longer, same, c.loop-head-test.true);
      entries = advances_then c.args.watches.now c.loop-head.watches c.propagate_literal.new.watches c.args.trail.now c.loop-head.trail c.propagate_literal.new.trail c.loop-head.invariant.entries c.propagate_literal.ensures.entries;
      ready = c.in_default.ensures.done;
    }
