use Rattle.std.proofs.Common.{Err}
use Rattle.session_rules.specs.declared.Rule.TheVariants as rules
use Rattle.line_reading.specs.Parts.{EndsLine, line_fault_of}
use Rattle.line_reading.proofs.Opening.{ends_fault}
use Rattle.line_reading.specs.Readers.{reader}
use Rattle.line_reading.proofs.Joined.{window_failed}
use Rattle.line_reading.proofs.words.later_end.Goals as goal

pub returns-in-Err-clause-end : goal.returns-in-Err-clause-end
returns-in-Err-clause-end g c =
    let at = reader g.S.Source.left g.S.Source.faults in
    let p = c.args.window.now in
    let q = c.next.follows.lender-at-none in
    rw c.line_fault.ensures (window_failed (EndsLine (Err (line_fault_of rules.Excess c.in-Err.fault))) rules.Excess c.in-Err.fault (at p c.args.src.now) (at q c.next.new.src)
    (rw c.in-Err.is at c.next.follows.holds-at-none) c.in-Err.ensures.count c.in-Err.ensures.read c.in-Err.ensures.answer
    (λ t u d l. (ends_fault p q t u c.in-Err.fault d l)))
