use Rattle.std.proofs.Common.{refl}
use Rattle.line_reading.proofs.NextLetter.{peeked_word, peeked_long, peeked_end, peeked_cut, peek_failed}
use Rattle.line_reading.proofs.peeking.peek_letter.Goals as goal

pub returns-in-Ok-Word-clause-letter : goal.returns-in-Ok-Word-clause-letter
returns-in-Ok-Word-clause-letter g c =
    let h = c.peek.follows.holds-at-none in
    rw c.letter_of.ensures (peeked_word _ _ _ c.next_line.ensures.moves c.next_line.ensures.count (rw (c.in-Ok-true.is, c.in-Ok-true.field-0-test) at c.next_line.ensures.told)
    h.moves h.line h.told c.peek.ensures.count c.in-Ok-Word.word.now (rw c.in-Ok-Word.field-0-is at c.in-Ok-Word.ensures.answer))

pub returns-in-Err-Read-peek-clause-letter : goal.returns-in-Err-Read-peek-clause-letter
returns-in-Err-Read-peek-clause-letter g c =
    let h = c.peek.follows.holds-at-none in
    peek_failed _ _ _ c.next_line.ensures.moves c.next_line.ensures.count (rw (c.in-Ok-true.is, c.in-Ok-true.field-0-test) at c.next_line.ensures.told)
    h.moves h.line h.told c.peek.ensures.count (rw c.in-Err-Read-peek.field-0-is at c.in-Err-Read-peek.ensures.read refl)

pub returns-in-Err-Length-clause-letter : goal.returns-in-Err-Length-clause-letter
returns-in-Err-Length-clause-letter g c =
    let h = c.peek.follows.holds-at-none in
    peeked_cut _ _ _ c.next_line.ensures.moves c.next_line.ensures.count (rw (c.in-Ok-true.is, c.in-Ok-true.field-0-test) at c.next_line.ensures.told)
    h.moves h.line h.told c.peek.ensures.count (rw c.in-Err-Length.field-0-is at c.in-Err-Length.ensures.answer)

pub returns-in-Ok-LineEnd-clause-letter : goal.returns-in-Ok-LineEnd-clause-letter
returns-in-Ok-LineEnd-clause-letter g c =
    let h = c.peek.follows.holds-at-none in
    peeked_end _ _ _ c.next_line.ensures.moves c.next_line.ensures.count (rw (c.in-Ok-true.is, c.in-Ok-true.field-0-test) at c.next_line.ensures.told)
    h.moves h.line h.told c.peek.ensures.count (rw c.in-Ok-LineEnd.field-0-is at c.in-Ok-LineEnd.ensures.answer)

pub returns-in-Err-LongWord-clause-letter : goal.returns-in-Err-LongWord-clause-letter
returns-in-Err-LongWord-clause-letter g c =
    let h = c.peek.follows.holds-at-none in
    peeked_long _ _ _ c.next_line.ensures.moves c.next_line.ensures.count (rw (c.in-Ok-true.is, c.in-Ok-true.field-0-test) at c.next_line.ensures.told)
    h.moves h.line h.told c.peek.ensures.count (rw c.in-Err-LongWord.field-0-is at c.in-Err-LongWord.ensures.answer)
