use Rattle.std.proofs.Common.{◌∷◌, [], take}
use Rattle.line_writing.specs.Held.{Passed, parts_text}
use Rattle.line_writing.proofs.writing.put_line.Given as goal

abbrev pub invariant-loop-part : goal.invariant-loop-part
invariant-loop-part g l = Passed g.K.Sink.written g.K.Sink.finished g.K.Sink.faults l.fn.sink l.sink [] l.held (l.letter ∷ parts_text (take l.part-index l.parts))
