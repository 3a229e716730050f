use Rattle.std.proofs.Common.{◌≡◌, ◌-◌, ◌^◌, true}
use Rattle.slice_tokens.specs.Place.{ahead}
use Rattle.hint_converter.specs.Turns.{Converting}
use Rattle.hint_converter.proofs.Lines.{Taking}
use Rattle.hint_converter.proofs.converting.convert_lines.Given as goal

abbrev pub invariant-lines : goal.invariant-lines
invariant-lines g l =
    (l.c.side.live ≡ true)
    × Taking (λ before. Converting l.fn.c.side l.fn.c.room l.fn.c.lines before (g.K.Sink.written l.fn.sink) l.fn.c.window)
    (λ before. Converting l.c.side l.c.room l.c.lines before (g.K.Sink.written l.sink) l.c.window)
    (ahead l.fn.c.window (g.S.Source.left l.fn.source)) (ahead l.c.window (g.S.Source.left l.source))
    l.c.side.next l.c.lines l.c.window.passed
    (g.S.Source.faults l.fn.source) (g.S.Source.faults l.source) (g.K.Sink.faults l.fn.sink) (g.K.Sink.faults l.sink)

abbrev pub decreases-lines : goal.decreases-lines
decreases-lines g l = 2 ^ 62 - l.c.window.passed
