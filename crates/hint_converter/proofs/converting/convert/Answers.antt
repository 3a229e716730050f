use Rattle.std.proofs.Common.{Ok, refl, sym, ap, ◌∙◌, subst}
use Rattle.pair_matcher.proofs.TwoStreams.{is_told}
use Rattle.pair_matcher.proofs.Headed.{passes, passes_broken}
use Rattle.hint_converter.specs.declared.converting.ConvertEnd.TheVariants.{Refused}
use Rattle.hint_converter.specs.Targets.{Ends}
use Rattle.hint_converter.proofs.Lines.{untouched, header_refused}
use Rattle.hint_converter.proofs.converting.convert.Goals as goal

pub returns-in_default-clause-told : goal.returns-in_default-clause-told
returns-in_default-clause-told g c = λ bytes e. untouched bytes (g.K.Sink.written c.args.sink.now)

pub returns-in-Err-Syntax-clause-told : goal.returns-in-Err-Syntax-clause-told
returns-in-Err-Syntax-clause-told g c = λ bytes e.
    let k = is_told _ _ _ (passes_broken _ c.in-Err-Syntax.rule c.in-Ok.window c.read_header.new.window _ _ c.in-Ok.ensures.start (rw c.in-Err-Syntax.field-0-is at c.in-Err-Syntax.ensures.told)) bytes e in
    subst (λ z. Ends (Ok z) (g.K.Sink.written c.args.sink.now) (g.K.Sink.written c.args.sink.now) bytes) (sym ((rw c.in-Err-Syntax.field-0-is at c.refused.ensures) ∙ ap (λ n. Refused n c.in-Err-Syntax.rule) c.line.ensures.line))
    (header_refused bytes c.read_header.new.window.line c.in-Err-Syntax.rule (g.K.Sink.written c.args.sink.now) (g.K.Sink.written c.args.sink.now) k.1.0 refl)

pub returns-in-Err-Read-clause-told : goal.returns-in-Err-Read-clause-told
returns-in-Err-Read-clause-told g c = λ bytes e. untouched bytes (g.K.Sink.written c.args.sink.now)

pub returns-clause-told : goal.returns-clause-told
returns-clause-told g c = λ bytes e. c.convert_behind.ensures.told _
    (passes _ c.in-Ok.window c.read_header.new.window _ _ c.in-Ok.ensures.start c.in-Ok-read_header.ensures.told) bytes e
