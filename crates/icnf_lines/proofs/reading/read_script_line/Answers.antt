use Rattle.std.proofs.Common.{refl}
use Rattle.session_rules.specs.Reading.{script_at, script_line}
use Rattle.line_reading.proofs.ByLetter.{line_read, line_broken, line_not_entered}
use Rattle.icnf_lines.proofs.EventLines.{script_line_is}
use Rattle.icnf_lines.proofs.reading.read_script_line.Goals as goal

pub returns-in-Ok : goal.returns-in-Ok
returns-in-Ok g c = line_read script_at (λ ws. refl) script_line script_line_is c.in-Ok-Some.letter c.in-Ok.event _ _ _ (rw c.in-Ok-Some.field-0-is at c.in-Ok-Some.ensures.letter) c.in-Ok.ensures

pub returns-in-Err-read_script_event : goal.returns-in-Err-read_script_event
returns-in-Err-read_script_event g c =
    line_broken script_at (λ ws. refl) script_line script_line_is c.in-Ok-Some.letter c.in-Err-read_script_event.fault _ _ _ (rw c.in-Ok-Some.field-0-is at c.in-Ok-Some.ensures.letter) c.in-Err-read_script_event.ensures

pub returns-in-Err : goal.returns-in-Err
returns-in-Err g c = line_not_entered script_at (λ ws. refl) script_line script_line_is c.in-Err.fault _ _ c.in-Err.ensures.letter
