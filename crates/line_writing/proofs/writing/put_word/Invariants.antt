use Rattle.std.proofs.Common.{◌∷◌, take}
use Rattle.line_writing.specs.Held.{Passed}
use Rattle.line_writing.proofs.writing.put_word.Given as goal

abbrev pub invariant-loop-byte : goal.invariant-loop-byte
invariant-loop-byte g l = Passed g.K.Sink.written g.K.Sink.finished g.K.Sink.faults l.fn.sink l.sink l.fn.held l.held (32 ∷ take l.byte-index l.word)
