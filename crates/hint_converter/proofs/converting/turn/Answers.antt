use Rattle.std.proofs.Common.{Ok, Err, Some, None, refl, sym, ap, ◌∙◌, subst}
use Rattle.session_rules.specs.declared.LineFault.TheVariants as faults
use Rattle.slice_tokens.specs.Place.{ahead, WhereTold}
use Rattle.hint_converter.specs.declared.converting.ConvertEnd.TheVariants.{Refused}
use Rattle.hint_converter.specs.Targets.{Ends}
use Rattle.hint_converter.specs.Turns.{Turns}
use Rattle.hint_converter.proofs.Lines.{turn_by, step_read, line_broken, source_ended, part_between}
use Rattle.hint_converter.proofs.converting.turn.Goals as goal

pub returns-in-Ok-clause-told : goal.returns-in-Ok-clause-told
returns-in-Ok-clause-told g c = λ whole before h.
    subst (λ w. WhereTold whole (ahead w (g.S.Source.left c.read_line.new.src)) (Turns (Ok c.in-Ok.answer) c.take_step.new.c.side c.take_step.new.c.room c.take_step.new.c.lines before (g.K.Sink.written c.take_step.new.sink) c.take_step.new.c.window)) (sym c.take_step.ensures.place)
    (turn_by whole _ _ before (g.K.Sink.written c.args.sink.now) c.args.c.now.side c.args.c.now.room c.args.c.now.lines c.args.c.now.window c.read_line.new.window c.read_line.result (Ok (Some c.in-Ok-Some.step)) (c.in-Ok-Some.is ∙ ap Ok c.in-Ok-Some.field-0-is) _ h c.read_line.ensures.told
    (λ source t u k s. c.in-Ok.ensures.told before source u (step_read c.args.c.now.side c.args.c.now.room c.args.c.now.lines before (g.K.Sink.written c.args.sink.now) source c.args.c.now.window c.read_line.new.window t u k c.in-Ok-Some.step s)))

pub returns-in-Ok-Some-clause-told : goal.returns-in-Ok-Some-clause-told
returns-in-Ok-Some-clause-told g c = λ whole before h.
    subst (λ w. WhereTold whole (ahead w (g.S.Source.left c.read_line.new.src)) (λ source rest. Ends (Err c.in-Err.fault) before (g.K.Sink.written c.take_step.new.sink) source)) (sym c.take_step.ensures.place)
    (turn_by whole _ _ before (g.K.Sink.written c.args.sink.now) c.args.c.now.side c.args.c.now.room c.args.c.now.lines c.args.c.now.window c.read_line.new.window c.read_line.result (Ok (Some c.in-Ok-Some.step)) (c.in-Ok-Some.is ∙ ap Ok c.in-Ok-Some.field-0-is) _ h c.read_line.ensures.told
    (λ source t u k s. c.in-Err.ensures.told before source u (step_read c.args.c.now.side c.args.c.now.room c.args.c.now.lines before (g.K.Sink.written c.args.sink.now) source c.args.c.now.window c.read_line.new.window t u k c.in-Ok-Some.step s)))

pub returns-in-Ok-None-clause-told : goal.returns-in-Ok-None-clause-told
returns-in-Ok-None-clause-told g c = λ whole before h. turn_by whole _ _ before (g.K.Sink.written c.args.sink.now) c.args.c.now.side c.args.c.now.room c.args.c.now.lines c.args.c.now.window c.read_line.new.window c.read_line.result (Ok None) (c.in-Ok-None.is ∙ ap Ok c.in-Ok-None.field-0-is) _ h c.read_line.ensures.told
    (λ source t u k s. source_ended c.args.c.now.side c.args.c.now.room c.args.c.now.lines before (g.K.Sink.written c.args.sink.now) source c.args.c.now.window c.read_line.new.window t u k c.end.result s c.end.ensures)

pub returns-in-Err-Syntax-clause-told : goal.returns-in-Err-Syntax-clause-told
returns-in-Err-Syntax-clause-told g c = λ whole before h. turn_by whole _ _ before (g.K.Sink.written c.args.sink.now) c.args.c.now.side c.args.c.now.room c.args.c.now.lines c.args.c.now.window c.read_line.new.window c.read_line.result (Err (faults.Syntax c.in-Err-Syntax.rule)) (c.in-Err-Syntax.is ∙ ap Err c.in-Err-Syntax.field-0-is) _ h c.read_line.ensures.told
    (λ source t u k s. subst (λ z. Ends (Ok z) before (g.K.Sink.written c.args.sink.now) source) (sym (c.refused.ensures ∙ ap (λ n. Refused n c.in-Err-Syntax.rule) c.line.ensures.line))
    (line_broken c.args.c.now.side c.args.c.now.room c.args.c.now.lines before (g.K.Sink.written c.args.sink.now) source c.args.c.now.window c.read_line.new.window t u k c.in-Err-Syntax.rule s))

pub returns-in-Err-Read-clause-told : goal.returns-in-Err-Read-clause-told
returns-in-Err-Read-clause-told g c = λ whole before h. turn_by whole _ _ before (g.K.Sink.written c.args.sink.now) c.args.c.now.side c.args.c.now.room c.args.c.now.lines c.args.c.now.window c.read_line.new.window c.read_line.result c.read_line.result refl _ h c.read_line.ensures.told
    (λ source t u k s. part_between c.args.c.now.side c.args.c.now.room c.args.c.now.lines before (g.K.Sink.written c.args.sink.now) source c.args.c.now.window c.read_line.new.window t u k)

pub returns-clause-told : goal.returns-clause-told
returns-clause-told g c = λ whole before h. turn_by whole _ _ before (g.K.Sink.written c.args.sink.now) c.args.c.now.side c.args.c.now.room c.args.c.now.lines c.args.c.now.window c.read_line.new.window c.read_line.result c.read_line.result refl _ h c.read_line.ensures.told
    (λ source t u k s. part_between c.args.c.now.side c.args.c.now.room c.args.c.now.lines before (g.K.Sink.written c.args.sink.now) source c.args.c.now.window c.read_line.new.window t u k)
