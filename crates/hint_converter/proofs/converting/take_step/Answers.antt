use Rattle.std.proofs.Common.{ap, ◌∙◌}
use Rattle.hint_converter.specs.declared.converting.ConvertEnd.TheVariants.{Refused}
use Rattle.hint_converter.proofs.Lines.{line_known, step_refused, part_at_step}
use Rattle.hint_converter.proofs.converting.take_step.Goals as goal

pub returns-in-Ok-clause-told : goal.returns-in-Ok-clause-told
returns-in-Ok-clause-told g c = λ before source rest a. c.in-Ok.ensures.told before source rest (line_known c.args.c.now.side c.step_with.new.self c.args.c.now.room c.args.c.now.lines before (g.K.Sink.written c.args.sink.now) c.args.c.now.window source rest c.args.step.now c.in-Ok-Line.line c.in-Ok-Line.field-0 c.in-Ok-Line.field-0-is
    c.in-Ok-Line.ensures.rule c.in-Ok-Line.ensures.stands c.in-Ok-Line.ensures.line a)

pub returns-in-Ok-Line-clause-told : goal.returns-in-Ok-Line-clause-told
returns-in-Ok-Line-clause-told g c = λ before source rest a. c.in-Err-put_line.ensures.told before source rest (line_known c.args.c.now.side c.step_with.new.self c.args.c.now.room c.args.c.now.lines before (g.K.Sink.written c.args.sink.now) c.args.c.now.window source rest c.args.step.now c.in-Ok-Line.line c.in-Ok-Line.field-0 c.in-Ok-Line.field-0-is
    c.in-Ok-Line.ensures.rule c.in-Ok-Line.ensures.stands c.in-Ok-Line.ensures.line a)

pub returns-in-Ok-Broken-clause-told : goal.returns-in-Ok-Broken-clause-told
returns-in-Ok-Broken-clause-told g c = λ before source rest a. step_refused c.args.c.now.side c.args.c.now.room c.args.c.now.lines before (g.K.Sink.written c.args.sink.now) c.args.c.now.window source rest c.args.step.now
    c.in-Ok-Broken.rule c.in-Ok-Broken.field-0 c.refused.result c.in-Ok-Broken.field-0-is c.in-Ok-Broken.ensures.rule (c.refused.ensures ∙ ap (λ n. Refused n c.in-Ok-Broken.rule) c.line.ensures.line) a

pub returns-clause-told : goal.returns-clause-told
returns-clause-told g c = λ before source rest a. part_at_step c.args.c.now.side c.args.c.now.room c.args.c.now.lines before (g.K.Sink.written c.args.sink.now) source c.args.c.now.window rest c.args.step.now a
