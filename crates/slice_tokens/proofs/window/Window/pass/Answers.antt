use Rattle.std.proofs.Common.{ℕ, ◌+◌, ◌-◌, ◌≤◌, Bool, List, length, take, drop, ap, ◌∙◌, arith}
use Rattle.slice_tokens.specs.Place.{Place, is_fresh}
use Rattle.slice_tokens.proofs.Entered.{fresh_passed}
use Rattle.slice_tokens.proofs.Buffer.{length-held, held_after}
use Rattle.slice_tokens.proofs.window.Window.pass.Goals as goal

pub returns : goal.returns
returns c =
    let w = c.self.inside in
    let n = c.args.count in
    let xs = w.buf.items.items in
    let held = length-held xs w.start w.end c.self.invariant.ordered c.self.invariant.within in
    let fresh = fresh_passed w.standing w.passed w.first n c.self.invariant.entered in
    let here : w.start + n ≤ w.end = omega (arith, held, ap (λ p. length p.held) c.self.view_is, c.requires.here) in
    rw (← c.self.view_is) (ap (λ (h : List ℕ). let p : Place = record { held = h; ended = w.ended; passed = w.passed + n; line = w.line; standing = w.standing; fresh = is_fresh w.standing (w.passed + n) w.first } in p) (held_after xs w.start w.end n here)
    ∙ ap (λ (f : Bool). let p : Place = record { held = drop n (take (w.end - w.start) (drop w.start xs)); ended = w.ended; passed = w.passed + n; line = w.line; standing = w.standing; fresh = f } in p) fresh)
