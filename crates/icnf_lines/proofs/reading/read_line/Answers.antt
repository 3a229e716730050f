use Rattle.std.proofs.Common.{refl}
use Rattle.session_rules.specs.Reading.{event_at, icnf_line}
use Rattle.line_reading.proofs.ByLetter.{line_read, line_broken, line_not_entered}
use Rattle.icnf_lines.proofs.EventLines.{icnf_line_is}
use Rattle.icnf_lines.proofs.reading.read_line.Goals as goal

pub returns-in-Ok : goal.returns-in-Ok
returns-in-Ok g c = line_read event_at (λ ws. refl) icnf_line icnf_line_is c.in-Ok-Some.letter c.in-Ok.event _ _ _ (rw c.in-Ok-Some.field-0-is at c.in-Ok-Some.ensures.letter) c.in-Ok.ensures

pub returns-in-Err-read_event : goal.returns-in-Err-read_event
returns-in-Err-read_event g c =
    line_broken event_at (λ ws. refl) icnf_line icnf_line_is c.in-Ok-Some.letter c.in-Err-read_event.fault _ _ _ (rw c.in-Ok-Some.field-0-is at c.in-Ok-Some.ensures.letter) c.in-Err-read_event.ensures

pub returns-in-Err : goal.returns-in-Err
returns-in-Err g c = line_not_entered event_at (λ ws. refl) icnf_line icnf_line_is c.in-Err.fault _ _ c.in-Err.ensures.letter
