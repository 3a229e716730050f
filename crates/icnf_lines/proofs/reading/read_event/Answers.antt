use Rattle.std.proofs.Common.{refl}
use Rattle.std.proofs.lemmas.Result.{err_from_is_err_and}
use Rattle.session_rules.specs.declared.Letter.TheVariants as letters
use Rattle.session_rules.specs.declared.Event.TheVariants as events
use Rattle.icnf_lines.proofs.EventLines.{literals_fault, status_fault}
use Rattle.icnf_lines.proofs.reading.read_event.Goals as goal

pub returns-in_err-literals_body-in-Input : goal.returns-in_err-literals_body-in-Input
returns-in_err-literals_body-in-Input g c =
    let e = err_from_is_err_and c.from_residual.result c.from_residual.ensures.1 in
    rw (e.1, e.2, c.in-Input.is) (literals_fault letters.Input events.Input (λ ws. refl) c.in_err-literals_body-in-Input.field-0.0 _ _ c.in_err-literals_body-in-Input.ensures.body)

pub returns-in_err-literals_body-in-Query : goal.returns-in_err-literals_body-in-Query
returns-in_err-literals_body-in-Query g c =
    let e = err_from_is_err_and c.from_residual-in_err-literals_body-in-Query.result c.from_residual-in_err-literals_body-in-Query.ensures.1 in
    rw (e.1, e.2, c.in-Query.is) (literals_fault letters.Query events.Query (λ ws. refl) c.in_err-literals_body-in-Query.field-0.0 _ _ c.in_err-literals_body-in-Query.ensures.body)

pub returns-in_err-literals_body-in-Model : goal.returns-in_err-literals_body-in-Model
returns-in_err-literals_body-in-Model g c =
    let e = err_from_is_err_and c.from_residual-in_err-literals_body-in-Model.result c.from_residual-in_err-literals_body-in-Model.ensures.1 in
    rw (e.1, e.2, c.in-Model.is) (literals_fault letters.Model events.Model (λ ws. refl) c.in_err-literals_body-in-Model.field-0.0 _ _ c.in_err-literals_body-in-Model.ensures.body)

pub returns-in_err-literals_body-in-Core : goal.returns-in_err-literals_body-in-Core
returns-in_err-literals_body-in-Core g c =
    let e = err_from_is_err_and c.from_residual-in_err-literals_body-in-Core.result c.from_residual-in_err-literals_body-in-Core.ensures.1 in
    rw (e.1, e.2, c.in-Core.is) (literals_fault letters.Core events.Core (λ ws. refl) c.in_err-literals_body-in-Core.field-0.0 _ _ c.in_err-literals_body-in-Core.ensures.body)

pub returns-in_err-status_body-in-Status : goal.returns-in_err-status_body-in-Status
returns-in_err-status_body-in-Status g c =
    let e = err_from_is_err_and c.from_residual-in_err-status_body-in-Status.result c.from_residual-in_err-status_body-in-Status.ensures.1 in
    rw (e.1, e.2, c.in-Status.is) (status_fault events.Status (λ ws. refl) c.in_err-status_body-in-Status.field-0.0 _ _ c.in_err-status_body-in-Status.ensures.body)

pub returns-in_err-literals_body-in-Values : goal.returns-in_err-literals_body-in-Values
returns-in_err-literals_body-in-Values g c =
    let e = err_from_is_err_and c.from_residual-in_err-literals_body-in-Values.result c.from_residual-in_err-literals_body-in-Values.ensures.1 in
    rw (e.1, e.2, c.in-Values.is) (literals_fault letters.Values events.Values (λ ws. refl) c.in_err-literals_body-in-Values.field-0.0 _ _ c.in_err-literals_body-in-Values.ensures.body)

pub returns-in_err-literals_body-in-Failed : goal.returns-in_err-literals_body-in-Failed
returns-in_err-literals_body-in-Failed g c =
    let e = err_from_is_err_and c.from_residual-in_err-literals_body-in-Failed.result c.from_residual-in_err-literals_body-in-Failed.ensures.1 in
    rw (e.1, e.2, c.in-Failed.is) (literals_fault letters.Failed events.Failed (λ ws. refl) c.in_err-literals_body-in-Failed.field-0.0 _ _ c.in_err-literals_body-in-Failed.ensures.body)
