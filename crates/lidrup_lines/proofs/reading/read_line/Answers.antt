use Rattle.std.proofs.Common.{refl}
use Rattle.session_rules.specs.Reading.{id_step_at, lidrup_line}
use Rattle.line_reading.proofs.ByLetter.{line_read, line_broken, line_not_entered}
use Rattle.lidrup_lines.proofs.IdStepLines.{lidrup_line_is}
use Rattle.lidrup_lines.proofs.reading.read_line.Goals as goal

pub returns-in-Ok : goal.returns-in-Ok
returns-in-Ok g c = line_read id_step_at (λ ws. refl) lidrup_line lidrup_line_is c.in-Ok-Some.letter c.in-Ok.step _ _ _ (rw c.in-Ok-Some.field-0-is at c.in-Ok-Some.ensures.letter) c.in-Ok.ensures

pub returns-in-Err-read_step : goal.returns-in-Err-read_step
returns-in-Err-read_step g c =
    line_broken id_step_at (λ ws. refl) lidrup_line lidrup_line_is c.in-Ok-Some.letter c.in-Err-read_step.fault _ _ _ (rw c.in-Ok-Some.field-0-is at c.in-Ok-Some.ensures.letter) c.in-Err-read_step.ensures

pub returns-in-Err : goal.returns-in-Err
returns-in-Err g c = line_not_entered id_step_at (λ ws. refl) lidrup_line lidrup_line_is c.in-Err.fault _ _ c.in-Err.ensures.letter
