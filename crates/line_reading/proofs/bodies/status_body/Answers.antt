use Rattle.std.proofs.lemmas.Result.{err_from_is_err_and}
use Rattle.session_rules.specs.Reading.{status_word}
use Rattle.line_reading.proofs.WholeBodies.{part_ended, part_unended}
use Rattle.line_reading.proofs.bodies.status_body.Goals as goal

pub returns-clause-body : goal.returns-clause-body
returns-clause-body g c = part_ended status_word c.in_ok-status.status tt _ _ _ c.in_ok-status.ensures.part c.in_ok-end_line.ensures.end

pub returns-in_err-end_line-clause-body : goal.returns-in_err-end_line-clause-body
returns-in_err-end_line-clause-body g c =
    let e = err_from_is_err_and c.from_residual-in_err-end_line.result c.from_residual-in_err-end_line.ensures.1 in
    rw (e.1, e.2) (part_unended status_word c.in_ok-status.status c.in_err-end_line.field-0.0 _ _ _ c.in_ok-status.ensures.part c.in_err-end_line.ensures.end)
