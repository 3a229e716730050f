use Rattle.std.proofs.Common.{◌∷◌, take}
use Rattle.std.specs.List.{flat_map}
use Rattle.lits.specs.Word.{literal_text}
use Rattle.lits.specs.Numbering.{file_lit}
use Rattle.line_writing.specs.Held.{Passed}
use Rattle.line_writing.proofs.writing.put_numbered.Given as goal

abbrev pub invariant-loop-item : goal.invariant-loop-item
invariant-loop-item g l = Passed g.K.Sink.written g.K.Sink.finished g.K.Sink.faults l.fn.sink l.sink l.fn.held l.held (flat_map (λ x. 32 ∷ literal_text (file_lit l.dense x)) (take l.item-index l.items))
