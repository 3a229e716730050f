use Rattle.std.proofs.Common.{◌≡◌, ◌+◌, ◌∷◌, length, take}
use Rattle.std.specs.List.{flat_map}
use Rattle.line_writing.proofs.writing.room_behind_list.Given as goal

abbrev pub invariant-loop-item : goal.invariant-loop-item
invariant-loop-item g l = l.left + (length (flat_map (λ x. 32 ∷ g.W.Numeral.text x) (take l.item-index l.items)) + 2) ≡ l.fn.room
