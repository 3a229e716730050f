use Rattle.std.proofs.Common.{◌≡◌, ◌<◌, ◌≤◌, ◌++◌, length, take, get_or, true, sym, ap, ◌∙◌, subst, arith}
use Rattle.session_rules.specs.Lines.{is_line_feed, most_bytes}
use Rattle.slice_tokens.specs.Held.{SameBehind, readable}
use Rattle.slice_tokens.proofs.Texts.{Free}
use Rattle.slice_tokens.proofs.Places.{passed_taken}
use Rattle.slice_tokens.proofs.Skipping.{rest_skip, line_skip, free_before}
use Rattle.slice_tokens.proofs.window.Window.skip.Goals as goal

pub returns-in-Some-clause-skips : goal.returns-in-Some-clause-skips
returns-in-Some-clause-skips c =
    let p = c.args.self.now in
    let s = c.readable-readable.result.now in
    let value = c.readable-readable.ensures.value in
    let long = ap length value in
    let bound : p.passed ≤ most_bytes = omega (arith, c.readable-readable.ensures.bound) in
    let at = c.in-Some.at in
    let found = c.in-Some.ensures in
    let free = subst (λ l. Free is_line_feed (take at l)) value (free_before s at (λ k a b. found.0.before k (omega arith) a)) in
    let byte = subst (λ l. is_line_feed (get_or l at 0) ≡ true) value found.1 in
    let inside : at < length (readable p) = omega (arith, long, found.0.high) in
    let after = c.pass_line.ensures in
    record {
      passed = omega (arith, ap (λ q. q.passed) after);
      fresh = ap (λ q. q.fresh) after;
      content = λ b. subst (λ q. SameBehind p (p.held ++ b) q (q.held ++ b)) (sym after) (line_skip at p b 0 bound c.requires.within inside free byte);
    }

pub returns-in-None-clause-skips : goal.returns-in-None-clause-skips
returns-in-None-clause-skips c =
    let p = c.args.self.now in
    let s = c.readable-readable.result.now in
    let value = c.readable-readable.ensures.value in
    let long = ap length value in
    let bound : p.passed ≤ most_bytes = omega (arith, c.readable-readable.ensures.bound) in
    let n = length s in
    let free = subst (λ l. Free is_line_feed (take n l)) value (free_before s n (λ k a b. c.in-None.ensures k (omega arith) a)) in
    let after = c.pass.ensures in
    record {
      passed = omega (arith, long, c.requires.some, ap (λ q. q.passed) after);
      fresh = ap (λ q. q.fresh) after ∙ passed_taken n p c.requires.fresh;
      content = λ b. subst (λ q. SameBehind p (p.held ++ b) q (q.held ++ b)) (sym after) (rest_skip n p b bound c.requires.within (omega (arith, long)) free);
    }
