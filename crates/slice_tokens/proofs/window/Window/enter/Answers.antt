use Rattle.std.proofs.Common.{◌≡◌, ◌+◌, ◌<◌, ◌≤◌, ◌++◌, length, get_or, true, false, sym, ap, ◌∙◌, subst, arith, eq-eqb}
use Rattle.std.specs.List.{prefix_len}
use Rattle.session_rules.specs.Lines.{is_line_feed, is_blank, most_bytes}
use Rattle.slice_tokens.specs.declared.window.Standing.TheVariants.{Content, Comment}
use Rattle.slice_tokens.specs.Place.{Place, begins_content}
use Rattle.slice_tokens.specs.Held.{SameBehind, readable, blanks, passed_over, past_line, EntersLine}
use Rattle.slice_tokens.proofs.Places.{passed_some}
use Rattle.slice_tokens.proofs.Skipping.{begins_here, blanks_skip, bare_skip, comment_skip, content_enters}
use Rattle.slice_tokens.proofs.window.Window.enter.Goals as goal

pub returns-then-count-len-clause-skips : goal.returns-then-count-len-clause-skips
returns-then-count-len-clause-skips c =
    let p = c.args.self.now in
    let value = c.readable-readable.ensures.value in
    let long = ap length value in
    let bound : p.passed ≤ most_bytes = omega (arith, c.readable-readable.ensures.bound) in
    let same : c.blank_count-count.result ≡ blanks p = c.blank_count-count.ensures.value ∙ ap (prefix_len is_blank) value in
    let after = c.pass.ensures ∙ ap (λ k. passed_over k p) same in
    record {
      passed = omega (arith, c.requires.some, long, c.if-count-len.true, same, ap (λ q. q.passed) after);
      fresh = ap (λ q. q.fresh) after ∙ passed_some (blanks p) p (omega (arith, c.requires.some, long, c.if-count-len.true, same));
      content = λ b. subst (λ q. SameBehind p (p.held ++ b) q (q.held ++ b)) (sym after) (blanks_skip p b bound);
    }

pub returns-then-first-eq10-clause-skips : goal.returns-then-first-eq10-clause-skips
returns-then-first-eq10-clause-skips c =
    let p = c.args.self.now in
    let s = c.readable-readable.result.now in
    let value = c.readable-readable.ensures.value in
    let long = ap length value in
    let bound : p.passed ≤ most_bytes = omega (arith, c.readable-readable.ensures.bound) in
    let count = c.blank_count-count.result in
    let same : count ≡ blanks p = c.blank_count-count.ensures.value ∙ ap (prefix_len is_blank) value in
    let first : get_or s count 0 ≡ get_or (readable p) (blanks p) 0 = ap (λ l. get_or l count 0) value ∙ ap (λ k. get_or (readable p) k 0) same in
    let inside : blanks p < length (readable p) = omega (arith, same, long, c.blank_count-count.ensures.bound, c.if-count-len.false) in
    let after = c.pass_line.ensures ∙ ap (λ k. past_line (k + 1) p) same in
    let byte : is_line_feed (get_or (readable p) (blanks p) 0) ≡ true = eq-eqb (get_or (readable p) (blanks p) 0) 10 (sym first ∙ c.if-first-eq10.true) in
    record {
      passed = omega (arith, ap (λ q. q.passed) after);
      fresh = ap (λ q. q.fresh) after;
      content = λ b. subst (λ q. SameBehind p (p.held ++ b) q (q.held ++ b)) (sym after) (bare_skip p b 0 bound c.requires.start inside byte);
    }

pub returns-then-first-eq99-clause-skips : goal.returns-then-first-eq99-clause-skips
returns-then-first-eq99-clause-skips c =
    let p = c.args.self.now in
    let s = c.readable-readable.result.now in
    let value = c.readable-readable.ensures.value in
    let long = ap length value in
    let bound : p.passed ≤ most_bytes = omega (arith, c.readable-readable.ensures.bound) in
    let count = c.blank_count-count.result in
    let same : count ≡ blanks p = c.blank_count-count.ensures.value ∙ ap (prefix_len is_blank) value in
    let first : get_or s count 0 ≡ get_or (readable p) (blanks p) 0 = ap (λ l. get_or l count 0) value ∙ ap (λ k. get_or (readable p) k 0) same in
    let inside : blanks p < length (readable p) = omega (arith, same, long, c.blank_count-count.ensures.bound, c.if-count-len.false) in
    let after = c.begin_comment.ensures ∙ ap (λ (q : Place). let r : Place = record q { standing = Comment; fresh = false } in r) (c.pass-then-first-eq99.ensures ∙ ap (λ k. passed_over (k + 1) p) same) in
    record {
      passed = omega (arith, ap (λ q. q.passed) after);
      fresh = ap (λ q. q.fresh) after;
      content = λ b. subst (λ q. SameBehind p (p.held ++ b) q (q.held ++ b)) (sym after) (comment_skip p b 0 bound c.requires.start inside (sym first ∙ c.if-first-eq99.true));
    }

pub returns-clause-enters : goal.returns-clause-enters
returns-clause-enters c =
    let p = c.args.self.now in
    let s = c.readable-readable.result.now in
    let value = c.readable-readable.ensures.value in
    let long = ap length value in
    let bound : p.passed ≤ most_bytes = omega (arith, c.readable-readable.ensures.bound) in
    let count = c.blank_count-count.result in
    let same : count ≡ blanks p = c.blank_count-count.ensures.value ∙ ap (prefix_len is_blank) value in
    let first : get_or s count 0 ≡ get_or (readable p) (blanks p) 0 = ap (λ l. get_or l count 0) value ∙ ap (λ k. get_or (readable p) k 0) same in
    let inside : blanks p < length (readable p) = omega (arith, same, long, c.blank_count-count.ensures.bound, c.if-count-len.false) in
    let after = c.begin_content.ensures ∙ ap (λ (q : Place). let r : Place = record q { standing = Content; fresh = true } in r) (c.pass-2.ensures ∙ ap (λ k. passed_over k p) same) in
    record {
      standing = ap (λ q. q.standing) after;
      fresh = ap (λ q. q.fresh) after;
      lines = λ b. subst (λ q. EntersLine p (p.held ++ b) q (q.held ++ b)) (sym after)
          (content_enters p b 0 bound c.requires.start inside (λ e. c.if-first-eq10.false (first ∙ e)) (λ e. c.if-first-eq99.false (first ∙ e)));
    }

pub begin_content-requires : goal.begin_content-requires
begin_content-requires c =
    let p = c.args.self.now in
    let s = c.readable-readable.result.now in
    let value = c.readable-readable.ensures.value in
    let bound : p.passed ≤ most_bytes = omega (arith, c.readable-readable.ensures.bound) in
    let count = c.blank_count-count.result in
    let same : count ≡ blanks p = c.blank_count-count.ensures.value ∙ ap (prefix_len is_blank) value in
    let first : get_or s count 0 ≡ get_or (readable p) (blanks p) 0 = ap (λ l. get_or l count 0) value ∙ ap (λ k. get_or (readable p) k 0) same in
    let inside : blanks p < length (readable p) = omega (arith, same, ap length value, c.blank_count-count.ensures.bound, c.if-count-len.false) in
    ap (λ q. begins_content (readable q)) (c.pass-2.ensures ∙ ap (λ k. passed_over k p) same)
    ∙ begins_here p 0 bound inside (λ e. c.if-first-eq10.false (first ∙ e)) (λ e. c.if-first-eq99.false (first ∙ e))
