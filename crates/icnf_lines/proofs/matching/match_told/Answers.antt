use Rattle.std.proofs.Common.{Err, sym, ap, ◌∙◌}
use Rattle.icnf_lines.proofs.Running.{told_whole, told_run, told_other, told_fault}
use Rattle.icnf_lines.proofs.matching.match_told.Goals as goal

pub returns-then-tells_whole-clause-line : goal.returns-then-tells_whole-clause-line
returns-then-tells_whole-clause-line g c = told_whole c.args.event.now c.args.assumed.now c.requires.free c.in-Ok-Some.letter _ _ _ c.match_next.result (sym c.tells_whole.ensures ∙ c.if-tells_whole.true)
    (rw c.in-Ok-Some.field-0-is at c.in-Ok-Some.ensures.letter) c.match_next.ensures.line

pub returns-then-tells_part-clause-line : goal.returns-then-tells_part-clause-line
returns-then-tells_part-clause-line g c = told_run c.args.event.now c.args.assumed.now c.requires.free c.in-Ok-Some.letter _ _ _ c.match_run.result (sym c.tells_whole.ensures ∙ c.if-tells_whole.false)
    (rw c.in-Ok-Some.field-0-is at c.in-Ok-Some.ensures.letter) (c.match_run.ensures.run c.args.assumed.now)

pub returns-else-tells_part-clause-line : goal.returns-else-tells_part-clause-line
returns-else-tells_part-clause-line g c = told_other c.args.event.now c.args.assumed.now c.requires.free c.in-Ok-Some.letter _ _ (sym c.tells_whole.ensures ∙ c.if-tells_whole.false) (sym c.tells_part.ensures ∙ c.if-tells_part.false)
    (rw c.in-Ok-Some.field-0-is at c.in-Ok-Some.ensures.letter)

pub returns-in-Err-clause-line : goal.returns-in-Err-clause-line
returns-in-Err-clause-line g c = rw c.match_fault.ensures (told_fault c.args.event.now c.args.assumed.now c.requires.free _ _ c.in-Err.fault (λ e. c.in-Err.ensures.memory (ap (λ z. Err z) e)) c.in-Err.ensures.letter)
