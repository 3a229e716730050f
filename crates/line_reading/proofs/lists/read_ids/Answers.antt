use Rattle.std.proofs.Common.{sym, ◌∙◌}
use Rattle.session_rules.specs.Reading.{id_list}
use Rattle.line_reading.specs.Kinds.{id_says}
use Rattle.line_reading.proofs.Collecting.{id_list_is, succeeded, collecting_none, collecting_more, collecting_last, collecting_fault, collecting_memory}
use Rattle.line_reading.proofs.lists.read_ids.Goals as goal

pub ids-init : goal.ids-init
ids-init g c = rw c.empty_ids-ids.ensures (collecting_none id_list _)

pub ids-preserved : goal.ids-preserved
ids-preserved g c =
    let grown = succeeded c.push.result _ (sym c.is_err.ensures.value ∙ c.if-is_err.false) c.push.ensures.ok in
    rw grown (collecting_more id_list id_says id_list_is c.ids.ids _ _ _ c.ids.invariant c.in-Ok-Some.id (rw c.in-Ok-Some.field-0-is at c.in-Ok-Some.ensures.part))

pub returns-in-Ok-None : goal.returns-in-Ok-None
returns-in-Ok-None g c = record { part = collecting_last id_list id_says id_list_is c.ids.ids _ _ _ c.ids.invariant (rw c.in-Ok-None.field-0-is at c.in-Ok-None.ensures.part) }

pub returns-in-Err : goal.returns-in-Err
returns-in-Err g c = record { part = collecting_fault id_list id_says id_list_is c.ids.ids _ _ _ c.ids.invariant c.in-Err.fault c.in-Err.ensures.part }

pub returns-then-is_err : goal.returns-then-is_err
returns-then-is_err g c = record { part = collecting_memory id_list id_says id_list_is c.ids.ids _ _ _ c.ids.invariant c.in-Ok-Some.id (rw c.in-Ok-Some.field-0-is at c.in-Ok-Some.ensures.part) }
