use Rattle.std.proofs.Common.{◌≡◌, ◌+◌, ◌-◌, ◌<◌, length, take, drop, true, sym, ap, ◌∙◌, subst, arith, eqb-true}
use Rattle.std.proofs.lemmas.List.{with_items_is}
use Rattle.session_rules.specs.Lines.{most_bytes}
use Rattle.slice_tokens.specs.declared.window.TheConstants.{SIZE}
use Rattle.slice_tokens.specs.Place.{Place, is_fresh, begins_content}
use Rattle.slice_tokens.proofs.Buffer.{length-held, held_refilled}
use Rattle.slice_tokens.proofs.Ahead.{ahead_refilled}
use Rattle.slice_tokens.proofs.Entered.{begins_more}
use Rattle.slice_tokens.proofs.window.Window.refill.Goals as goal

pub returns-in-Ok-clause-ahead : goal.returns-in-Ok-clause-ahead
returns-in-Ok-clause-ahead g c =
    let w = c.self.inside in
    let n = c.in-Ok.count in
    let from = w.end - w.start in
    let new = c.read_more-read.new.buf in
    let old = take from (drop w.start w.buf.items.items) in
    let held = length-held w.buf.items.items w.start w.end c.self.invariant.ordered c.self.invariant.within in
    let shown = c.as_mut_slice.ensures.value in
    let long = ap length shown ∙ c.self.invariant.full in
    let room : from < length c.as_mut_slice.result.now =
    omega (arith, held, ap (λ p. length p.held) c.self.view_is, c.requires.room, long) in
    let same = ap (λ l. take from (drop w.start l)) shown in
    let front : take from new ≡ old = c.in-Ok.ensures.front ∙ same in
    let whole : length new ≡ w.buf.items.len = c.read_more-read.auto.buf ∙ c.as_mut_slice.ensures.len in
    rw (← c.self.view_is) (rw (with_items_is w.buf.items new whole) (ahead_refilled _ _ (let p : Place = record { held = old; ended = w.ended; passed = w.passed; line = w.line; standing = w.standing; fresh = is_fresh w.standing w.passed w.first } in p) (let p : Place = record { held = take (from + n - 0) (drop 0 new); ended = _; passed = w.passed; line = w.line; standing = w.standing; fresh = is_fresh w.standing w.passed w.first } in p) (take (from + n - from) (drop from new))
    (ap (λ p. p.ended) c.self.view_is ∙ c.requires.going) c.in-Ok.ensures.taken (held_refilled from n new old front) (λ zero. c.in-Ok.ensures.end (eqb-true n 0 zero) room)))

pub invariant_of-self : goal.invariant_of-self
invariant_of-self g c =
    let w = c.self.inside in
    let i = c.self.invariant in
    let n = c.in-Ok.count in
    let from = w.end - w.start in
    let new = c.read_more-read.new.buf in
    let old = take from (drop w.start w.buf.items.items) in
    let shown = c.as_mut_slice.ensures.value in
    let front : take from new ≡ old = c.in-Ok.ensures.front ∙ ap (λ l. take from (drop w.start l)) shown in
    let whole : length new ≡ w.buf.items.len = c.read_more-read.auto.buf ∙ c.as_mut_slice.ensures.len in
    let size : length new ≡ SIZE = c.read_more-read.auto.buf ∙ ap length shown ∙ i.full in
    rw (with_items_is w.buf.items new whole) (record {
      ordered = omega arith;
      within = omega (arith, c.in-Ok.ensures.bound, c.read_more-read.auto.buf);
      full = size;
      bounded = i.bounded;
      counted = i.counted;
      entered = i.entered;
      begins = λ e. subst (λ l. begins_content (take (most_bytes - w.passed) l) ≡ true) (sym (held_refilled from n new old front))
          (begins_more (most_bytes - w.passed) old (take (from + n - from) (drop from new)) (i.begins e));
    })
