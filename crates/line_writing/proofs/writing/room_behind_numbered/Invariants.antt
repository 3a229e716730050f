use Rattle.std.proofs.Common.{◌≡◌, ◌+◌, ◌∷◌, length, take}
use Rattle.std.specs.List.{flat_map}
use Rattle.lits.specs.Word.{literal_text}
use Rattle.lits.specs.Numbering.{file_lit}
use Rattle.line_writing.proofs.writing.room_behind_numbered.Given as goal

abbrev pub invariant-loop-item : goal.invariant-loop-item
invariant-loop-item l = l.left + (length (flat_map (λ x. 32 ∷ literal_text (file_lit l.dense x)) (take l.item-index l.items)) + 2) ≡ l.fn.room
