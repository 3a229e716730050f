use Rattle.icnf_lines.proofs.HeaderWords.{header_unreached, header_said, header_broken}
use Rattle.icnf_lines.proofs.header.read_header.Goals as goal

pub returns-in-Err : goal.returns-in-Err
returns-in-Err g c = rw c.stream_fault.ensures (header_unreached c.args.name.now c.in-Err.fault _ _ c.next_line.ensures.moves c.in-Err.ensures.count c.in-Err.ensures.read c.in-Err.ensures.told)

pub returns-in-Ok : goal.returns-in-Ok
returns-in-Ok g c =
    header_said c.args.name.now _ _ _ c.next_line.ensures.moves c.next_line.ensures.count (rw (c.in-Ok-true.is, c.in-Ok-true.field-0-test) at c.next_line.ensures.told)
    c.in-Ok.ensures.taken c.in-Ok.ensures.body

pub returns-in-Err-header_words : goal.returns-in-Err-header_words
returns-in-Err-header_words g c =
    header_broken c.args.name.now _ _ _ c.next_line.ensures.moves c.next_line.ensures.count (rw (c.in-Ok-true.is, c.in-Ok-true.field-0-test) at c.next_line.ensures.told)
    c.in-Err-header_words.fault c.header_fault.result c.header_fault.ensures c.in-Err-header_words.ensures.body
