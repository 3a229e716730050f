use Rattle.std.proofs.Common.{◌≡◌, ◌<◌, length, sym, ap, ◌∙◌, arith, eqb-true}
use Rattle.std.proofs.lemmas.List.{nil_from_length}
use Rattle.std.proofs.lemmas.Result.{err_from_is_err_and}
use Rattle.slice_tokens.specs.Held.{readable}
use Rattle.slice_tokens.proofs.Ending.{told_filled, told_skipped, told_line, told_end, told_bound, told_content, told_here}
use Rattle.slice_tokens.proofs.window.Window.next_line.Goals as goal

pub lines-preserved-then-not-is_at_start : goal.lines-preserved-then-not-is_at_start
lines-preserved-then-not-is_at_start g c =
    let s = c.args.self.now in
    let m = c.fill.new.self in
    let q = c.skip.new.self in
    let i = c.lines.invariant in
    let fill = c.in_ok-fill.ensures in
    record {
      taken = c.skip.ensures.skips.fresh;
      moves = record { passed = omega (arith, i.moves.passed, fill.stays.passed, c.skip.ensures.moves.passed); bounded = c.skip.ensures.moves.bounded; counted = c.skip.ensures.moves.counted; ended = λ e. c.skip.ensures.moves.ended (fill.stays.ended (i.moves.ended e)) };
      ended = λ e. fill.ended (i.moves.ended e) ∙ i.ended e;
      told = told_skipped _ _ s m q c.skip.ensures.ended c.skip.ensures.skips (told_filled _ _ _ s c.lines.self m fill.stays fill.ahead i.told);
      count = omega (arith, i.count, fill.cause.later);
    }

pub lines-preserved : goal.lines-preserved
lines-preserved g c =
    let s = c.args.self.now in
    let m = c.fill.new.self in
    let q = c.enter.new.self in
    let i = c.lines.invariant in
    let fill = c.in_ok-fill.ensures in
    let enter = c.if-enter.ensures in
    record {
      taken = enter.skips.fresh;
      moves = record { passed = omega (arith, i.moves.passed, fill.stays.passed, enter.moves.passed); bounded = enter.moves.bounded; counted = enter.moves.counted; ended = λ e. enter.moves.ended (fill.stays.ended (i.moves.ended e)) };
      ended = λ e. fill.ended (i.moves.ended e) ∙ i.ended e;
      told = told_skipped _ _ s m q enter.ended enter.skips (told_filled _ _ _ s c.lines.self m fill.stays fill.ahead i.told);
      count = omega (arith, i.count, fill.cause.later);
    }

pub returns-then-enter-clause-told : goal.returns-then-enter-clause-told
returns-then-enter-clause-told g c =
    let s = c.args.self.now in
    let m = c.fill.new.self in
    let fill = c.in_ok-fill.ensures in
    told_line _ _ s m c.enter.new.self (sym c.is_fresh.ensures ∙ c.if-is_fresh.false) c.if-enter.ensures.ended c.if-enter.ensures.enters (told_filled _ _ _ s c.lines.self m fill.stays fill.ahead c.lines.invariant.told)

pub returns-then-held-eq0-clause-told : goal.returns-then-held-eq0-clause-told
returns-then-held-eq0-clause-told g c =
    let s = c.args.self.now in
    let m = c.fill.new.self in
    let fill = c.in_ok-fill.ensures in
    let none : length m.held ≡ 0 = sym c.held.ensures ∙ c.if-held-eq0.true in
    told_end _ _ s m (sym c.is_fresh.ensures ∙ c.if-is_fresh.false) (fill.stays.fresh ∙ c.lines.invariant.taken) (nil_from_length m.held none) (fill.some none) (told_filled _ _ _ s c.lines.self m fill.stays fill.ahead c.lines.invariant.told)

pub returns-then-is_empty-clause-told : goal.returns-then-is_empty-clause-told
returns-then-is_empty-clause-told g c =
    let s = c.args.self.now in
    let m = c.fill.new.self in
    let fill = c.in_ok-fill.ensures in
    let some : 0 < length m.held = omega (arith, c.held.ensures, c.if-held-eq0.false) in
    let none : length (readable m) ≡ 0 = sym (ap length c.readable.ensures.value) ∙ eqb-true (length c.readable.result.now) 0 (sym c.is_empty.ensures ∙ c.if-is_empty.true) in
    told_bound _ _ s m (sym c.is_fresh.ensures ∙ c.if-is_fresh.false) (fill.stays.fresh ∙ c.lines.invariant.taken) some none (told_filled _ _ _ s c.lines.self m fill.stays fill.ahead c.lines.invariant.told)

pub returns-then-is_fresh-clause-told : goal.returns-then-is_fresh-clause-told
returns-then-is_fresh-clause-told g c =
    told_here (g.S.Source.left c.args.src.now) c.args.self.now c.recall_bounds.ensures.begins (sym c.is_fresh.ensures ∙ c.if-is_fresh.true)

pub returns-in_err-fill-clause-told : goal.returns-in_err-fill-clause-told
returns-in_err-fill-clause-told g c =
    let s = c.args.self.now in
    let m = c.fill.new.self in
    let fill = c.in_err-fill.ensures in
    let e = err_from_is_err_and c.from_residual.result c.from_residual.ensures.1 in
    rw (e.1, e.2, fill.err.0) (told_content _ _ s m (sym c.is_fresh.ensures ∙ c.if-is_fresh.false) (fill.stays.fresh ∙ c.lines.invariant.taken)
    (told_filled _ _ _ s c.lines.self m fill.stays fill.ahead c.lines.invariant.told))
