use Rattle.std.proofs.Common.{Err, sym, ap, subst}
use Rattle.session_rules.specs.Spelling.{line_text, id_step_words}
use Rattle.line_writing.specs.Writing.{writer, WritesLine, FailedLine, RefusedLine}
use Rattle.hint_converter.proofs.Lines.{line_wrote, line_failed, line_refused}
use Rattle.hint_converter.proofs.converting.put_line.Goals as goal

pub returns-in-Ok-clause-told : goal.returns-in-Ok-clause-told
returns-in-Ok-clause-told g c = λ before source rest a. let at = writer g.K.Sink.written g.K.Sink.finished g.K.Sink.faults in
    line_wrote c.args.line.now c.args.c.now.side c.args.c.now.lines before c.args.c.now.window source rest (at c.args.sink.now c.args.c.now.room) (at c.write_line.new.sink c.write_line.new.room) a c.in-Ok.ensures

pub returns-in-Err-Write-clause-told : goal.returns-in-Err-Write-clause-told
returns-in-Err-Write-clause-told g c = λ before source rest a. let at = writer g.K.Sink.written g.K.Sink.finished g.K.Sink.faults in
    let failed : FailedLine (line_text (id_step_words c.args.line.now)) (at c.args.sink.now c.args.c.now.room) (at c.write_line.new.sink c.write_line.new.room) =
    subst (λ z. WritesLine (line_text (id_step_words c.args.line.now)) (at c.args.sink.now c.args.c.now.room) (at c.write_line.new.sink c.write_line.new.room) (Err z)) c.in-Err-Write.field-0-is c.in-Err-Write.ensures in
    line_failed c.args.line.now c.args.c.now.side c.args.c.now.lines before c.args.c.now.window source rest (at c.args.sink.now c.args.c.now.room) (at c.write_line.new.sink c.write_line.new.room) a failed

pub returns-in-Err-Exhausted-clause-told : goal.returns-in-Err-Exhausted-clause-told
returns-in-Err-Exhausted-clause-told g c = λ before source rest a. let at = writer g.K.Sink.written g.K.Sink.finished g.K.Sink.faults in
    let refused : RefusedLine (line_text (id_step_words c.args.line.now)) (at c.args.sink.now c.args.c.now.room) (at c.write_line.new.sink c.write_line.new.room) =
    subst (λ z. WritesLine (line_text (id_step_words c.args.line.now)) (at c.args.sink.now c.args.c.now.room) (at c.write_line.new.sink c.write_line.new.room) (Err z)) c.in-Err-Exhausted.field-0-is c.in-Err-Exhausted.ensures in
    line_refused c.args.line.now c.args.c.now.side c.args.c.now.lines before c.args.c.now.window source rest (at c.args.sink.now c.args.c.now.room) (at c.write_line.new.sink c.write_line.new.room) a
    (ap g.K.Sink.written (sym refused.same)) refused
