use Rattle.std.proofs.Common.{ℕ, ◌+◌, ◌≤◌, false, List, length, ap, arith}
use Rattle.slice_tokens.specs.declared.window.Standing.TheVariants.{Start}
use Rattle.slice_tokens.specs.Place.{Place}
use Rattle.slice_tokens.proofs.Buffer.{length-held, held_after}
use Rattle.slice_tokens.proofs.window.Window.pass_line.Goals as goal

pub returns : goal.returns
returns c =
    let w = c.self.inside in
    let n = c.args.count in
    let xs = w.buf.items.items in
    let held = length-held xs w.start w.end c.self.invariant.ordered c.self.invariant.within in
    let here : w.start + n ≤ w.end = omega (arith, held, ap (λ p. length p.held) c.self.view_is, c.requires.here) in
    rw (← c.self.view_is) (ap (λ (h : List ℕ). let p : Place = record { held = h; ended = w.ended; passed = w.passed + n; line = w.line + 1; standing = Start; fresh = false } in p) (held_after xs w.start w.end n here))
