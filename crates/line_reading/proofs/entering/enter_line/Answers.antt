use Rattle.line_reading.proofs.FirstLetter.{letter_read, letter_fails}
use Rattle.line_reading.proofs.entering.enter_line.Goals as goal

pub returns-in-Ok-clause-letter : goal.returns-in-Ok-clause-letter
returns-in-Ok-clause-letter g c =
    letter_read _ _ _ c.next_line.ensures.moves c.next_line.ensures.count (rw (c.in-Ok-true.is, c.in-Ok-true.field-0-test) at c.next_line.ensures.told)
    c.in-Ok.letter c.in-Ok.ensures.progress c.in-Ok.ensures.taken c.in-Ok.ensures.part

pub returns-in-Err-first_word-clause-letter : goal.returns-in-Err-first_word-clause-letter
returns-in-Err-first_word-clause-letter g c =
    letter_fails _ _ _ c.next_line.ensures.moves c.next_line.ensures.count (rw (c.in-Ok-true.is, c.in-Ok-true.field-0-test) at c.next_line.ensures.told)
    c.in-Err-first_word.fault c.in-Err-first_word.ensures.part
