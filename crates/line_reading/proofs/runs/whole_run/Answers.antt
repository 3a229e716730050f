use Rattle.std.proofs.Common.{◌≡◌, ◌<◌, ◌≤◌, length, get_or, refl, sym, ◌∙◌, arith}
use Rattle.line_reading.proofs.Running.{matching-more, matching-none, matching-other, matching-open, same_as, other_than}
use Rattle.line_reading.proofs.runs.whole_run.Goals as goal

pub loop-l-preserved : goal.loop-l-preserved
loop-l-preserved c =
    let ls = c.args.lits.now in
    let i = c.loop-l.l-index in
    let lt : i < length ls = omega (arith, c.loop-l-test.true) in
    let x = c.l-item.result in
    let same : get_or ls i x ≡ c.in-Some.found = sym c.l-item.is ∙ sym (same_as c.in-Some.found x c.ne.result (grind (c.ne.ensures, arith, c.in-Some.found-is)) c.if-ne.false) in
    matching-more c.args.bytes.now ls i c.loop-l.at c.in-Some.count c.in-Some.found x lt same c.loop-l.invariant (rw c.in-Some.found-is c.in-Some.ensures.some)

pub returns-in_default-clause-none : goal.returns-in_default-clause-none
returns-in_default-clause-none c =
    let lt : c.loop-l.l-index < length c.args.lits.now = omega (arith, c.loop-l-test.true) in
    matching-none c.args.bytes.now c.args.lits.now c.loop-l.l-index c.loop-l.at lt c.loop-l.invariant c.in_default.ensures.none

pub returns-then-ne-clause-none : goal.returns-then-ne-clause-none
returns-then-ne-clause-none c =
    let lt : c.loop-l.l-index < length c.args.lits.now = omega (arith, c.loop-l-test.true) in
    let x = c.l-item.result in
    matching-other c.args.bytes.now c.args.lits.now c.loop-l.l-index c.loop-l.at c.in-Some.count c.in-Some.found x lt
    (λ e. other_than c.in-Some.found x c.ne.result (grind (c.ne.ensures, arith, c.in-Some.found-is)) c.if-ne.true (e ∙ sym c.l-item.is)) c.loop-l.invariant (rw c.in-Some.found-is c.in-Some.ensures.some)

pub returns-else-spaced_zero-clause-none : goal.returns-else-spaced_zero-clause-none
returns-else-spaced_zero-clause-none c =
    let all : length c.args.lits.now ≤ c.loop-l.l-index = omega (arith, c.loop-l-test.false) in
    matching-open c.args.bytes.now c.args.lits.now c.loop-l.l-index c.loop-l.at all c.loop-l.invariant (c.if-spaced_zero.ensures.no refl)
