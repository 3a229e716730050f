use Rattle.std.proofs.Common.{◌∷◌, length, ap, arith}
use Rattle.std.proofs.lemmas.List.{length-append}
use Rattle.std.specs.List.{flat_map}
use Rattle.std.specs.Prelude.{codes}
use Rattle.line_writing.proofs.Spaced.{flat_map-parted}
use Rattle.line_writing.proofs.writing.room_behind_list.Goals as goal

-- a word is longer than what is left, so the list is longer than the room
pub returns-in_err-left-2 : goal.returns-in_err-left-2
returns-in_err-left-2 g c =
    let word = λ (x : g.row.W.Denot). 32 ∷ g.W.Numeral.text x in
    let items = c.args.items.now in
    let i = c.loop-item.item-index in
    let x = c.item-item.result in
    let long = c.in_err-left-2.ensures in
    let parted = ap length (flat_map-parted word items i x c.loop-item-test.true c.item-item.is) in
    let lengths = simp length-append at parted in
    rw c.from_residual-in_err-left-2.ensures (λ fits. long (omega (arith, lengths, length-append (flat_map word items) (codes " 0"))))
