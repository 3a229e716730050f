use Rattle.std.proofs.Common.{refl}
use Rattle.std.proofs.lemmas.Result.{err_from_is_err_and}
use Rattle.session_rules.specs.declared.Letter.TheVariants as letters
use Rattle.session_rules.specs.declared.Step.TheVariants as steps
use Rattle.idrup_lines.proofs.StepLines.{literals_fault, event_read, event_fault}
use Rattle.idrup_lines.proofs.reading.read_step.Goals as goal

pub returns-in_err-literals_body-in-Lemma : goal.returns-in_err-literals_body-in-Lemma
returns-in_err-literals_body-in-Lemma g c =
    let e = err_from_is_err_and c.from_residual.result c.from_residual.ensures.1 in
    rw (e.1, e.2, c.in-Lemma.is) (literals_fault letters.Lemma steps.Lemma (λ ws. refl) c.in_err-literals_body-in-Lemma.field-0.0 _ _ c.in_err-literals_body-in-Lemma.ensures.body)

pub returns-in_err-literals_body-in-Deletion : goal.returns-in_err-literals_body-in-Deletion
returns-in_err-literals_body-in-Deletion g c =
    let e = err_from_is_err_and c.from_residual-in_err-literals_body-in-Deletion.result c.from_residual-in_err-literals_body-in-Deletion.ensures.1 in
    rw (e.1, e.2, c.in-Deletion.is) (literals_fault letters.Deletion steps.Delete (λ ws. refl) c.in_err-literals_body-in-Deletion.field-0.0 _ _ c.in_err-literals_body-in-Deletion.ensures.body)

pub returns-in_err-literals_body-in-Weakening : goal.returns-in_err-literals_body-in-Weakening
returns-in_err-literals_body-in-Weakening g c =
    let e = err_from_is_err_and c.from_residual-in_err-literals_body-in-Weakening.result c.from_residual-in_err-literals_body-in-Weakening.ensures.1 in
    rw (e.1, e.2, c.in-Weakening.is) (literals_fault letters.Weakening steps.Weaken (λ ws. refl) c.in_err-literals_body-in-Weakening.field-0.0 _ _ c.in_err-literals_body-in-Weakening.ensures.body)

pub returns-in_err-literals_body-in-Restoring : goal.returns-in_err-literals_body-in-Restoring
returns-in_err-literals_body-in-Restoring g c =
    let e = err_from_is_err_and c.from_residual-in_err-literals_body-in-Restoring.result c.from_residual-in_err-literals_body-in-Restoring.ensures.1 in
    rw (e.1, e.2, c.in-Restoring.is) (literals_fault letters.Restoring steps.Restore (λ ws. refl) c.in_err-literals_body-in-Restoring.field-0.0 _ _ c.in_err-literals_body-in-Restoring.ensures.body)

pub returns-in_err-read_event-in_default : goal.returns-in_err-read_event-in_default
returns-in_err-read_event-in_default g c =
    let e = err_from_is_err_and c.from_residual-in_err-read_event-in_default.result c.from_residual-in_err-read_event-in_default.ensures.1 in
    let d = c.in_default in
    rw (e.1, e.2) (event_fault c.args.letter d.not-Lemma d.not-Deletion d.not-Weakening d.not-Restoring d.not-Values d.not-Failed c.in_err-read_event-in_default.field-0.0 _ _ c.in_err-read_event-in_default.ensures)

pub returns-in_ok-read_event-in_default : goal.returns-in_ok-read_event-in_default
returns-in_ok-read_event-in_default g c =
    let d = c.in_default in
    event_read c.args.letter d.not-Lemma d.not-Deletion d.not-Weakening d.not-Restoring d.not-Values d.not-Failed _ _ _ c.in_ok-read_event-in_default.ensures
