use Rattle.std.proofs.Common.{◌≡◌, ◌-◌, get_or, ap, ◌∙◌, arith}
use Rattle.propagation.proofs.Undoing.{kept-less, kept-some, kept-all}
use Rattle.propagation.proofs.assignment.Assignment.kept.Goals as goal

pub loop-now-preserved : goal.loop-now-preserved
loop-now-preserved c =
    let some = kept-some c.args.level c.loop-now.now c.loop-now.n c.args.self.now.entries c.loop-now.invariant.reached c.loop-now-test.true in
    let at : c.index.result.now ≡ get_or c.args.self.now.entries (c.loop-now.n - 1) c.index.result.now = c.index.ensures ∙ ap (λ z. get_or z.entries (c.loop-now.n - 1) c.index.result.now) c.self.view_is in
    let r = kept-less c.args.level c.loop-now.now c.loop-now.n (c.loop-now.n - 1) c.args.self.now.entries c.index.result.now
    c.loop-now.invariant.within c.loop-now.invariant.reached c.loop-now.invariant.same c.loop-now-test.true (omega (arith, some)) at in
    record { within = omega (arith, c.loop-now.invariant.within); reached = c.lowered-now.ensures ∙ r.0; same = r.1 }

pub returns-clause-entries : goal.returns-clause-entries
returns-clause-entries c = kept-all c.args.level c.loop-now.now c.loop-now.n c.args.self.now.entries c.loop-now.invariant.reached c.loop-now-test.false c.loop-now.invariant.same
