use Rattle.std.proofs.Common.{Err, refl, subst}
use Rattle.std.specs.Prelude.{codes}
use Rattle.session_rules.specs.Lines.{most_bytes}
use Rattle.session_rules.specs.Spelling.{line_text, header_words}
use Rattle.line_writing.specs.Writing.{writer, WritesLine, FailedLine}
use Rattle.hint_converter.proofs.Lines.{header_failed, begins}
use Rattle.hint_converter.proofs.converting.begin.Goals as goal

pub returns-in-Err-Write-clause-fault : goal.returns-in-Err-Write-clause-fault
returns-in-Err-Write-clause-fault g c = λ source rest h. let at = writer g.K.Sink.written g.K.Sink.finished g.K.Sink.faults in
    let failed : FailedLine (line_text (header_words (codes "lidrup"))) (at c.args.sink.now most_bytes) (at c.write_header.new.sink c.write_header.new.room) =
    subst (λ z. WritesLine (line_text (header_words (codes "lidrup"))) (at c.args.sink.now most_bytes) (at c.write_header.new.sink c.write_header.new.room) (Err z)) c.in-Err-Write.field-0-is c.in-Err-Write.ensures in
    header_failed c.args.window source rest (at c.args.sink.now most_bytes) (at c.write_header.new.sink c.write_header.new.room) failed h

pub returns-clause-told : goal.returns-clause-told
returns-clause-told g c = λ source rest h. begins c.in-Ok.side c.args.window source rest _ _ h c.in-Ok.ensures.stands refl c.in-Ok-write_header.ensures
