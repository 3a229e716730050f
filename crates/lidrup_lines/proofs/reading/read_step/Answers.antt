use Rattle.std.proofs.lemmas.Result.{err_from_is_err_and}
use Rattle.session_rules.specs.declared.Letter.TheVariants as letters
use Rattle.session_rules.specs.declared.LStep.TheVariants as lsteps
use Rattle.session_rules.specs.Reading.{id_step_at}
use Rattle.line_reading.specs.Whole.{literals_body, ids_body, status_body, id_literals_body, id_literals_ids_body, literals_ids_body}
use Rattle.line_reading.proofs.ByLetter.{literals_as, ids_as, status_as, body_fails}
use Rattle.lidrup_lines.proofs.IdStepLines.{input, lemma_step, core, input_step, lemma_line, core_step}
use Rattle.lidrup_lines.proofs.reading.read_step.Goals as goal

pub returns-in_err-id-in-Input : goal.returns-in_err-id-in-Input
returns-in_err-id-in-Input g c =
    let e = err_from_is_err_and c.from_residual.result c.from_residual.ensures.1 in
    rw (e.1, e.2, c.in-Input.is) (body_fails id_literals_body (id_step_at letters.Input) (input) (input_step) c.in_err-id-in-Input.field-0.0 _ _ c.in_err-id-in-Input.ensures.body)

pub returns-in_err-id-in-Lemma : goal.returns-in_err-id-in-Lemma
returns-in_err-id-in-Lemma g c =
    let e = err_from_is_err_and c.from_residual-in_err-id-in-Lemma.result c.from_residual-in_err-id-in-Lemma.ensures.1 in
    rw (e.1, e.2, c.in-Lemma.is) (body_fails id_literals_ids_body (id_step_at letters.Lemma) (lemma_step) (lemma_line) c.in_err-id-in-Lemma.field-0.0 _ _ c.in_err-id-in-Lemma.ensures.body)

pub returns-in_err-lits-in-Core : goal.returns-in_err-lits-in-Core
returns-in_err-lits-in-Core g c =
    let e = err_from_is_err_and c.from_residual-in_err-lits-in-Core.result c.from_residual-in_err-lits-in-Core.ensures.1 in
    rw (e.1, e.2, c.in-Core.is) (body_fails literals_ids_body (id_step_at letters.Core) (core) (core_step) c.in_err-lits-in-Core.field-0.0 _ _ c.in_err-lits-in-Core.ensures.body)

pub returns-in_err-literals_body-in-Query : goal.returns-in_err-literals_body-in-Query
returns-in_err-literals_body-in-Query g c =
    let e = err_from_is_err_and c.from_residual-in_err-literals_body-in-Query.result c.from_residual-in_err-literals_body-in-Query.ensures.1 in
    rw (e.1, e.2, c.in-Query.is) (body_fails literals_body (id_step_at letters.Query) (lsteps.Query) (literals_as lsteps.Query) c.in_err-literals_body-in-Query.field-0.0 _ _ c.in_err-literals_body-in-Query.ensures.body)

pub returns-in_err-status_body-in-Status : goal.returns-in_err-status_body-in-Status
returns-in_err-status_body-in-Status g c =
    let e = err_from_is_err_and c.from_residual-in_err-status_body-in-Status.result c.from_residual-in_err-status_body-in-Status.ensures.1 in
    rw (e.1, e.2, c.in-Status.is) (body_fails status_body (id_step_at letters.Status) (lsteps.Status) (status_as lsteps.Status) c.in_err-status_body-in-Status.field-0.0 _ _ c.in_err-status_body-in-Status.ensures.body)

pub returns-in_err-literals_body-in-Model : goal.returns-in_err-literals_body-in-Model
returns-in_err-literals_body-in-Model g c =
    let e = err_from_is_err_and c.from_residual-in_err-literals_body-in-Model.result c.from_residual-in_err-literals_body-in-Model.ensures.1 in
    rw (e.1, e.2, c.in-Model.is) (body_fails literals_body (id_step_at letters.Model) (lsteps.Model) (literals_as lsteps.Model) c.in_err-literals_body-in-Model.field-0.0 _ _ c.in_err-literals_body-in-Model.ensures.body)

pub returns-in_err-ids_body-in-Deletion : goal.returns-in_err-ids_body-in-Deletion
returns-in_err-ids_body-in-Deletion g c =
    let e = err_from_is_err_and c.from_residual-in_err-ids_body-in-Deletion.result c.from_residual-in_err-ids_body-in-Deletion.ensures.1 in
    rw (e.1, e.2, c.in-Deletion.is) (body_fails ids_body (id_step_at letters.Deletion) (lsteps.Delete) (ids_as lsteps.Delete) c.in_err-ids_body-in-Deletion.field-0.0 _ _ c.in_err-ids_body-in-Deletion.ensures.body)

pub returns-in_err-ids_body-in-Weakening : goal.returns-in_err-ids_body-in-Weakening
returns-in_err-ids_body-in-Weakening g c =
    let e = err_from_is_err_and c.from_residual-in_err-ids_body-in-Weakening.result c.from_residual-in_err-ids_body-in-Weakening.ensures.1 in
    rw (e.1, e.2, c.in-Weakening.is) (body_fails ids_body (id_step_at letters.Weakening) (lsteps.Weaken) (ids_as lsteps.Weaken) c.in_err-ids_body-in-Weakening.field-0.0 _ _ c.in_err-ids_body-in-Weakening.ensures.body)

pub returns-in_err-ids_body-in-Restoring : goal.returns-in_err-ids_body-in-Restoring
returns-in_err-ids_body-in-Restoring g c =
    let e = err_from_is_err_and c.from_residual-in_err-ids_body-in-Restoring.result c.from_residual-in_err-ids_body-in-Restoring.ensures.1 in
    rw (e.1, e.2, c.in-Restoring.is) (body_fails ids_body (id_step_at letters.Restoring) (lsteps.Restore) (ids_as lsteps.Restore) c.in_err-ids_body-in-Restoring.field-0.0 _ _ c.in_err-ids_body-in-Restoring.ensures.body)
