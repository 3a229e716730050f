use Rattle.std.proofs.Common.{Err, sym, ap, ◌∙◌}
use Rattle.icnf_lines.proofs.Running.{seen_part, seen_other, seen_fault}
use Rattle.icnf_lines.proofs.runs.next_part.Goals as goal

pub returns-then-tells_part-clause-part : goal.returns-then-tells_part-clause-part
returns-then-tells_part-clause-part g c = λ qs. seen_part c.args.event.now qs c.requires.free c.in-Ok-Some.letter _ _ _ c.match_part.result (sym c.tells_part.ensures ∙ c.if-tells_part.true)
    (rw c.in-Ok-Some.field-0-is at c.in-Ok-Some.ensures.letter) (c.match_part.ensures.part qs)

pub returns-else-tells_part-clause-part : goal.returns-else-tells_part-clause-part
returns-else-tells_part-clause-part g c = λ qs. seen_other c.args.event.now qs c.requires.free c.in-Ok-Some.letter _ _ (sym c.tells_part.ensures ∙ c.if-tells_part.false)
    (rw c.in-Ok-Some.field-0-is at c.in-Ok-Some.ensures.letter)

pub returns-in-Err-clause-part : goal.returns-in-Err-clause-part
returns-in-Err-clause-part g c = λ qs. rw c.match_fault.ensures (seen_fault c.args.event.now qs c.requires.free _ _ c.in-Err.fault (λ e. c.in-Err.ensures.memory (ap (λ z. Err z) e)) c.in-Err.ensures.letter)
