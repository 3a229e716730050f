use Rattle.std.proofs.Common.{sym, subst}
use Rattle.slice_tokens.specs.Place.{WhereTold, ahead}
use Rattle.slice_tokens.proofs.Told.{told_weaker}
use Rattle.pair_matcher.proofs.TwoStreams.{is_told}
use Rattle.hint_converter.specs.Turns.{Converting}
use Rattle.hint_converter.proofs.converting.convert_behind.Goals as goal

pub returns-in-Err-clause-told : goal.returns-in-Err-clause-told
returns-in-Err-clause-told g c = λ whole h bytes e. let k = is_told _ _ _ h bytes e in c.in-Err.ensures.fault bytes k.0 k.1

pub returns-in-Ok-convert_lines-clause-told : goal.returns-in-Ok-convert_lines-clause-told
returns-in-Ok-convert_lines-clause-told g c = λ whole h bytes e. let before = g.K.Sink.written c.args.sink.now in
    (is_told _ _ _ (c.in-Ok-convert_lines.ensures.told whole before
    (subst (λ w. WhereTold whole (ahead w (g.S.Source.left c.args.source.now)) (Converting c.in-Ok.conversion.side c.in-Ok.conversion.room c.in-Ok.conversion.lines before (g.K.Sink.written c.begin.new.sink) w)) (sym c.in-Ok.ensures.place)
    (told_weaker _ _ _ _ (λ t u k. c.in-Ok.ensures.told t u k) h))) bytes e).1

pub returns-clause-told : goal.returns-clause-told
returns-clause-told g c = λ whole h bytes e. let before = g.K.Sink.written c.args.sink.now in
    (is_told _ _ _ (c.in-Err-convert_lines.ensures.told whole before
    (subst (λ w. WhereTold whole (ahead w (g.S.Source.left c.args.source.now)) (Converting c.in-Ok.conversion.side c.in-Ok.conversion.room c.in-Ok.conversion.lines before (g.K.Sink.written c.begin.new.sink) w)) (sym c.in-Ok.ensures.place)
    (told_weaker _ _ _ _ (λ t u k. c.in-Ok.ensures.told t u k) h))) bytes e).1
