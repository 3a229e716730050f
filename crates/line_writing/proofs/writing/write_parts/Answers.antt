use Rattle.std.proofs.Common.{refl, arith}
use Rattle.line_writing.proofs.Passing.{Passed_whole, Failing_line}
use Rattle.line_writing.proofs.Spaced.{line_text-line_words}
use Rattle.line_writing.proofs.writing.write_parts.Goals as goal

pub returns-in_default : goal.returns-in_default
returns-in_default g c =
    let long = c.in_default.ensures in
    rw line_text-line_words (record { longer = omega (arith, long); same = refl; kept = refl })

pub returns-in-Ok : goal.returns-in-Ok
returns-in-Ok g c =
    let fits = c.in-Some.ensures in
    rw line_text-line_words (Passed_whole _ _ _ _ _ _ _ _ (c.in-Ok.ensures) (omega (arith, fits.0, fits.1)))

pub returns-in-Err : goal.returns-in-Err
returns-in-Err g c =
    let fits = c.in-Some.ensures in
    rw line_text-line_words (Failing_line _ g.K.Sink.finished _ _ _ _ _ _ (c.in-Err.ensures) fits.0 refl)
