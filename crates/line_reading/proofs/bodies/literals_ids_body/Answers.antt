use Rattle.std.proofs.lemmas.Result.{err_from_is_err_and}
use Rattle.line_reading.proofs.WholeBodies.{fault_behind_literals, ids_behind}
use Rattle.line_reading.proofs.bodies.literals_ids_body.Goals as goal

pub returns-in_err-ids : goal.returns-in_err-ids
returns-in_err-ids g c =
    let e = err_from_is_err_and c.from_residual-in_err-ids.result c.from_residual-in_err-ids.ensures.1 in
    record { body = rw (e.1, e.2) (fault_behind_literals c.in_ok-lits.lits c.in_err-ids.field-0.0 _ _ _ c.in_ok-lits.ensures.part c.in_err-ids.ensures.body) }

pub returns : goal.returns
returns g c = record { body = ids_behind c.in_ok-lits.lits c.in_ok-ids.ids _ _ _ c.in_ok-lits.ensures.part c.in_ok-ids.ensures.body }
