use Rattle.std.proofs.Common.{◌≡◌, ℕ, ◌+◌, ◌<◌, List, [], ◌++◌, length, drop, Ok, true, sym, ap, ◌∙◌, subst, arith}
use Rattle.std.proofs.lemmas.Bool.{false≢true}
use Rattle.std.proofs.lemmas.Result.{err_from_is_err_and}
use Rattle.slice_tokens.specs.Place.{WhereTold, ahead, present}
use Rattle.slice_tokens.specs.Due.{due, due_long, due_cut}
use Rattle.slice_tokens.specs.Calls.{at_line_end}
use Rattle.slice_tokens.specs.Held.{passed_over, readable, blanks, word_len, Same, Next, Finds}
use Rattle.slice_tokens.proofs.Places.{looked, looked_bounds, Stands}
use Rattle.slice_tokens.proofs.Finding.{stands_ended, stands_last_at, finds_ok, next_told, due_too_long, due_at_bound}
use Rattle.slice_tokens.proofs.LineEnd.{word_inside, ends_here, end_held, looked_none, holds_word}
use Rattle.slice_tokens.proofs.Told.{told_keeps, told_stays, told_weaker, told_look, told_looked}
use Rattle.slice_tokens.proofs.window.Window.find.Goals as goal

pub returns-in-Ended-clause-takes : goal.returns-in-Ended-clause-takes
returns-in-Ended-clause-takes g c =
    let p = c.look.self in
    let i = c.look.invariant in
    let n = c.in-Ended.word in
    let s = c.in-Ended.ensures.seen in
    let after = c.in-Ended.ensures.after in
    let bound = i.moves.bounded in
    let inside = word_inside p bound in
    rw after (record {
      moves = record { passed = omega arith; bounded = (looked_bounds p bound).1; counted = omega (arith, i.moves.counted, ap (λ q. q.line) after); ended = i.moves.ended };
      line = i.line;
      standing = i.standing ∙ sym c.requires;
      fresh = sym (ap (λ q. q.fresh) after) ∙ c.in-Ended.ensures.fresh ∙ i.fresh;
      holds = holds_word (looked p) n s.1 (omega (arith, inside.0)) (omega (arith, inside.1))
          (λ none. ends_here p bound i.standing (sym s.0 ∙ none) (omega arith));
    })

pub returns-in-Ended-clause-told : goal.returns-in-Ended-clause-told
returns-in-Ended-clause-told g c =
    let p = c.look.self in
    let n = c.in-Ended.word in
    let s = c.in-Ended.ensures.seen in
    let bound = c.look.invariant.moves.bounded in
    let stands : (b : List ℕ) → Stands (looked p) (drop (blanks p) p.held ++ b) n =
    λ b. subst (Stands (looked p) (drop (blanks p) p.held ++ b)) (sym s.0) (stands_ended p b bound (omega arith)) in
    subst (λ q. WhereTold (ahead c.args.self.now (g.S.Source.left c.args.src.now)) (ahead q (g.S.Source.left c.look.src)) (λ t u. Same c.args.self.now t q u × Finds q u (Ok n)))
    (sym c.in-Ended.ensures.after)
    (told_look _ _ c.args.self.now p (λ u. Finds (looked p) u (Ok n)) bound c.look.invariant.standing c.look.invariant.told
    (λ b _. finds_ok (looked p) _ n c.look.invariant.standing s.1 (stands b)))

pub returns-in-Ended-clause-word : goal.returns-in-Ended-clause-word
returns-in-Ended-clause-word g c = λ some.
    let p = c.look.self in
    let n = c.in-Ended.word in
    let s = c.in-Ended.ensures.seen in
    let bound = c.look.invariant.moves.bounded in
    let inside : blanks p + word_len p < length (readable p) = omega arith in
    subst (λ q. WhereTold (ahead q (g.S.Source.left c.look.src)) (ahead (passed_over n q) (g.S.Source.left c.look.src)) (λ t u. Next q t (passed_over n q) u))
    (sym c.in-Ended.ensures.after)
    (next_told _ p n bound c.look.invariant.standing s.0 some (omega arith) (λ b _. stands_ended p b bound inside))

pub returns-in-Ended-clause-again : goal.returns-in-Ended-clause-again
returns-in-Ended-clause-again g c = λ h.
    let p = c.look.self in
    let i = c.look.invariant in
    let same = i.again h in
    let held = end_held p i.standing (ap at_line_end same.0 ∙ h) in
    (ap (λ n. Ok n) (c.in-Ended.ensures.seen.0 ∙ held.word), c.in-Ended.ensures.after ∙ looked_none p held.blanks ∙ same.0, same.1)

pub returns-in-TooLong-clause-takes : goal.returns-in-TooLong-clause-takes
returns-in-TooLong-clause-takes g c =
    let p = c.look.self in
    let i = c.look.invariant in
    let after = c.in-TooLong.ensures.after in
    let bound = i.moves.bounded in
    let inside = word_inside p bound in
    rw after (record {
      moves = record { passed = omega arith; bounded = (looked_bounds p bound).1; counted = omega (arith, i.moves.counted); ended = i.moves.ended };
      line = i.line;
      standing = i.standing ∙ sym c.requires;
      fresh = sym (ap (λ q. q.fresh) after) ∙ c.in-TooLong.ensures.fresh ∙ i.fresh;
      holds = omega (arith, inside.0, c.in-TooLong.ensures.seen);
    })

pub returns-in-TooLong-clause-told : goal.returns-in-TooLong-clause-told
returns-in-TooLong-clause-told g c =
    let p = c.look.self in
    let bound = c.look.invariant.moves.bounded in
    subst (λ q. WhereTold (ahead c.args.self.now (g.S.Source.left c.args.src.now)) (ahead q (g.S.Source.left c.look.src)) (λ t u. Same c.args.self.now t q u × (due (present q u) ≡ due_long)))
    (sym c.in-TooLong.ensures.after)
    (told_look _ _ c.args.self.now p (λ u. due (present (looked p) u) ≡ due_long) bound c.look.invariant.standing c.look.invariant.told
    (λ b _. due_too_long p b bound c.look.invariant.standing c.in-TooLong.ensures.seen))

pub returns-in-AtBound-clause-told : goal.returns-in-AtBound-clause-told
returns-in-AtBound-clause-told g c =
    let p = c.look.self in
    let s = c.in-AtBound.ensures.seen in
    let bound = c.look.invariant.moves.bounded in
    subst (λ q. WhereTold (ahead c.args.self.now (g.S.Source.left c.args.src.now)) (ahead q (g.S.Source.left c.look.src)) (λ t u. Same c.args.self.now t q u × (due (present q u) ≡ due_cut)))
    (sym c.in-AtBound.ensures.after)
    (told_look _ _ c.args.self.now p (λ u. due (present (looked p) u) ≡ due_cut) bound c.look.invariant.standing c.look.invariant.told
    (λ b _. due_at_bound p b bound c.look.invariant.standing s.0 s.1 s.2))

pub returns-then-has_ended-clause-told : goal.returns-then-has_ended-clause-told
returns-then-has_ended-clause-told g c =
    let p = c.look.self in
    let n = c.in-Going.word in
    let s = c.in-Going.ensures.seen in
    let bound = c.look.invariant.moves.bounded in
    let ended : p.ended ≡ true = sym (ap (λ q. q.ended) c.in-Going.ensures.after) ∙ sym c.has_ended.ensures ∙ c.if-has_ended.true in
    let whole : blanks p + word_len p ≡ length (readable p) = omega arith in
    let stands : (b : List ℕ) → (p.ended ≡ true → b ≡ []) → Stands (looked p) (drop (blanks p) p.held ++ b) n =
    λ b none. subst (Stands (looked p) (drop (blanks p) p.held ++ b)) (sym s.0) (stands_last_at p b bound whole s.3 (none ended)) in
    subst (λ q. WhereTold (ahead c.args.self.now (g.S.Source.left c.args.src.now)) (ahead q (g.S.Source.left c.look.src)) (λ t u. Same c.args.self.now t q u × Finds q u (Ok n)))
    (sym c.in-Going.ensures.after)
    (told_look _ _ c.args.self.now p (λ u. Finds (looked p) u (Ok n)) bound c.look.invariant.standing c.look.invariant.told
    (λ b none. finds_ok (looked p) _ n c.look.invariant.standing s.1 (stands b none)))

pub returns-then-has_ended-clause-word : goal.returns-then-has_ended-clause-word
returns-then-has_ended-clause-word g c = λ some.
    let p = c.look.self in
    let n = c.in-Going.word in
    let s = c.in-Going.ensures.seen in
    let bound = c.look.invariant.moves.bounded in
    let ended : p.ended ≡ true = sym (ap (λ q. q.ended) c.in-Going.ensures.after) ∙ sym c.has_ended.ensures ∙ c.if-has_ended.true in
    let whole : blanks p + word_len p ≡ length (readable p) = omega arith in
    subst (λ q. WhereTold (ahead q (g.S.Source.left c.look.src)) (ahead (passed_over n q) (g.S.Source.left c.look.src)) (λ t u. Next q t (passed_over n q) u))
    (sym c.in-Going.ensures.after)
    (next_told _ p n bound c.look.invariant.standing s.0 some (omega arith) (λ b none. stands_last_at p b bound whole s.3 (none ended)))

pub look-preserved : goal.look-preserved
look-preserved g c =
    let p = c.look.self in
    let r = c.refill.new.self in
    let i = c.look.invariant in
    let s = c.in-Going.ensures.seen in
    let after = c.in-Going.ensures.after in
    let stays = c.refill.ensures.stays in
    let passed = stays.passed ∙ ap (λ q. q.passed) after in
    let line = stays.line ∙ ap (λ q. q.line) after in
    let standing = stays.standing ∙ ap (λ q. q.standing) after in
    let going : p.ended ≡ true → ⊥ = λ e. false≢true (sym c.if-has_ended.false ∙ c.has_ended.ensures ∙ ap (λ q. q.ended) after ∙ e) in
    let bounds = looked_bounds p i.moves.bounded in
    record {
      standing = standing ∙ i.standing;
      line = line ∙ i.line;
      fresh = stays.fresh ∙ c.in-Going.ensures.fresh ∙ i.fresh;
      moves = record { passed = omega (arith, passed); bounded = omega (arith, passed, bounds.1); counted = omega (arith, passed, line, i.moves.counted); ended = λ e. absurd (going (i.moves.ended e)) };
      again = λ h.
          let held = end_held p i.standing (ap at_line_end (i.again h).0 ∙ h) in
          absurd (going (held.none (omega (arith, held.blanks, held.word))));
      ended = λ e. absurd (going (i.moves.ended e));
      told = told_stays _ _ c.args.self.now c.look-in-look.new.self r stays
          (told_keeps _ (ahead c.look-in-look.new.self (g.S.Source.left c.look.src)) _ (λ t u. Same c.args.self.now t c.look-in-look.new.self u)
          (subst (λ q. WhereTold (ahead c.args.self.now (g.S.Source.left c.args.src.now)) (ahead q (g.S.Source.left c.look.src)) (λ t u. Same c.args.self.now t q u)) (sym after)
          (told_looked _ _ c.args.self.now p i.moves.bounded i.standing i.told))
          c.refill.ensures.ahead);
      count = omega (arith, i.count, c.refill.ensures.cause.later);
    }

pub returns-in_err-refill-clause-told : goal.returns-in_err-refill-clause-told
returns-in_err-refill-clause-told g c =
    let p = c.look.self in
    let i = c.look.invariant in
    let r = c.refill.new.self in
    let after = c.in-Going.ensures.after in
    let told = told_stays _ _ c.args.self.now c.look-in-look.new.self r c.refill.ensures.stays
    (told_keeps _ (ahead c.look-in-look.new.self (g.S.Source.left c.look.src)) _ (λ t u. Same c.args.self.now t c.look-in-look.new.self u)
    (subst (λ q. WhereTold (ahead c.args.self.now (g.S.Source.left c.args.src.now)) (ahead q (g.S.Source.left c.look.src)) (λ t u. Same c.args.self.now t q u)) (sym after)
    (told_looked _ _ c.args.self.now p i.moves.bounded i.standing i.told))
    c.refill.ensures.ahead) in
    let e = err_from_is_err_and c.from_residual.result c.from_residual.ensures.1 in
    rw (e.1, e.2, c.in_err-refill.ensures.err.0) (told_weaker _ _ (λ t u. Same c.args.self.now t r u) (λ t u. Same c.args.self.now t r u × Unit {0}) (λ t u h. (h, tt)) told)
