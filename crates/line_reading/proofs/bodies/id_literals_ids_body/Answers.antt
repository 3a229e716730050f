use Rattle.std.proofs.lemmas.Result.{err_from_is_err_and}
use Rattle.line_reading.proofs.WholeBodies.{fault_behind_id_lists, lists_behind_id}
use Rattle.line_reading.proofs.bodies.id_literals_ids_body.Goals as goal

pub returns-in_err-lits : goal.returns-in_err-lits
returns-in_err-lits g c =
    let e = err_from_is_err_and c.from_residual-in_err-lits.result c.from_residual-in_err-lits.ensures.1 in
    record { body = rw (e.1, e.2) (fault_behind_id_lists c.in_ok-id.id c.in_err-lits.field-0.0 _ _ _ c.in_ok-id.ensures.part c.in_err-lits.ensures.body) }

pub returns : goal.returns
returns g c = record { body = lists_behind_id c.in_ok-id.id (c.in_ok-lits.lits, c.in_ok-lits.ids) _ _ _ c.in_ok-id.ensures.part c.in_ok-lits.ensures.body }
