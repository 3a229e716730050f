use Rattle.std.proofs.Common.{[], refl}
use Rattle.icnf_lines.proofs.Running.{ran_none, ran_more, ran_ends, ran_differs, ran_fails, less_left}
use Rattle.icnf_lines.proofs.runs.match_parts.Goals as goal

pub lines-init : goal.lines-init
lines-init g c = (λ qs. ran_none c.args.event.now qs _, c.requires.held, record { each = λ l e. e })

pub lines-preserved : goal.lines-preserved
lines-preserved g c = let k = c.lines.invariant in (
  λ qs. ran_more c.args.event.now qs _ _ _ (k.0 qs) (rw c.in-Ok-Agrees.field-0-is at c.in-Ok-Agrees.ensures.part qs),
  (rw c.in-Ok-Agrees.field-0-is at c.in-Ok-Agrees.ensures.held) refl,
  record { each = λ l e. c.next_part.ensures.kept.each l (k.2.each l e) },
)

pub lines-smaller : goal.lines-smaller
lines-smaller g c = less_left c.lines.window.passed c.next_part.new.window.passed ((rw c.in-Ok-Agrees.field-0-is at c.in-Ok-Agrees.ensures.progress) refl) (c.next_part.ensures.part []).moves.bounded

pub returns-in-Ok-Ended-clause-run : goal.returns-in-Ok-Ended-clause-run
returns-in-Ok-Ended-clause-run g c = λ qs. ran_ends c.args.event.now qs c.requires.free _ _ _ (c.lines.invariant.0 qs) (rw c.in-Ok-Ended.field-0-is at c.in-Ok-Ended.ensures.part qs)

pub returns-in-Ok-Differs-clause-run : goal.returns-in-Ok-Differs-clause-run
returns-in-Ok-Differs-clause-run g c = λ qs. ran_differs c.args.event.now qs c.requires.free _ _ _ (c.lines.invariant.0 qs) c.in-Ok-Differs.rule (rw c.in-Ok-Differs.field-0-is at c.in-Ok-Differs.ensures.part qs)

pub returns-in-Err-clause-run : goal.returns-in-Err-clause-run
returns-in-Err-clause-run g c = λ qs. ran_fails c.args.event.now qs c.requires.free _ _ _ (c.lines.invariant.0 qs) c.in-Err.fault (c.in-Err.ensures.part qs)
