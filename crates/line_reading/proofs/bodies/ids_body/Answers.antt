use Rattle.std.proofs.lemmas.Result.{err_from_is_err_and}
use Rattle.session_rules.specs.Reading.{id_list}
use Rattle.line_reading.proofs.WholeBodies.{part_ended, part_unended}
use Rattle.line_reading.proofs.bodies.ids_body.Goals as goal

pub returns : goal.returns
returns g c = record { body = part_ended id_list c.in_ok-ids.ids tt _ _ _ c.in_ok-ids.ensures.part c.in_ok-end_line.ensures.end }

pub returns-in_err-end_line : goal.returns-in_err-end_line
returns-in_err-end_line g c =
    let e = err_from_is_err_and c.from_residual-in_err-end_line.result c.from_residual-in_err-end_line.ensures.1 in
    record { body = rw (e.1, e.2) (part_unended id_list c.in_ok-ids.ids c.in_err-end_line.field-0.0 _ _ _ c.in_ok-ids.ensures.part c.in_err-end_line.ensures.end) }
