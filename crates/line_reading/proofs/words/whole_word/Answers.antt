use Rattle.std.proofs.Common.{Err}
use Rattle.line_reading.specs.Parts.{ReadsPart, word_part, line_fault_of}
use Rattle.line_reading.proofs.Opening.{reads_fault}
use Rattle.line_reading.specs.Readers.{reader}
use Rattle.line_reading.proofs.Joined.{window_failed}
use Rattle.line_reading.proofs.words.whole_word.Goals as goal

pub returns-in-Err-clause-part : goal.returns-in-Err-clause-part
returns-in-Err-clause-part g c =
    let at = reader g.S.Source.left g.S.Source.faults in
    let p = c.args.window.now in
    let q = c.next.follows.lender-at-none in
    rw (c.line_fault.ensures, c.long.ensures) (window_failed (ReadsPart (word_part g.K.WordKind.says g.K.WordKind.missing g.K.WordKind.long) (Err (line_fault_of g.K.WordKind.long c.in-Err.fault))) g.K.WordKind.long c.in-Err.fault (at p c.args.src.now) (at q c.next.new.src)
    (rw c.in-Err.is at c.next.follows.holds-at-none) c.in-Err.ensures.count c.in-Err.ensures.read c.in-Err.ensures.answer
    (λ t u d l. (reads_fault g.K.WordKind.says g.K.WordKind.missing g.K.WordKind.long p q t u c.in-Err.fault d l)))
