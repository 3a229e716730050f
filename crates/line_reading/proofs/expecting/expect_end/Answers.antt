use Rattle.std.proofs.Common.{Err}
use Rattle.line_reading.specs.Parts.{line_fault_of}
use Rattle.line_reading.specs.Whole.{ReadsBody}
use Rattle.line_reading.specs.Expected.{expected_end}
use Rattle.line_reading.proofs.EndDue.{end_fault}
use Rattle.line_reading.specs.Readers.{reader}
use Rattle.line_reading.proofs.Joined.{window_failed}
use Rattle.line_reading.proofs.expecting.expect_end.Goals as goal

pub returns-in-Err-clause-body : goal.returns-in-Err-clause-body
returns-in-Err-clause-body g c =
    let at = reader g.S.Source.left g.S.Source.faults in
    let p = c.args.window.now in
    let q = c.next.follows.lender-at-none in
    rw c.line_fault.ensures (window_failed (ReadsBody (expected_end c.args.rule) (Err (line_fault_of c.args.rule c.in-Err.fault))) c.args.rule c.in-Err.fault (at p c.args.src.now) (at q c.next.new.src)
    (rw c.in-Err.is at c.next.follows.holds-at-none) c.in-Err.ensures.count c.in-Err.ensures.read c.in-Err.ensures.answer
    (λ t u d l. (end_fault c.args.rule p q t u c.in-Err.fault d l)))
