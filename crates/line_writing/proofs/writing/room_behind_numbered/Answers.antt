use Rattle.std.proofs.Common.{ℕ, ◌∷◌, length, ap, arith}
use Rattle.std.proofs.lemmas.List.{length-append}
use Rattle.std.specs.List.{flat_map}
use Rattle.std.specs.Prelude.{codes}
use Rattle.lits.specs.Word.{literal_text}
use Rattle.lits.specs.Numbering.{file_lit}
use Rattle.line_writing.proofs.Spaced.{flat_map-parted}
use Rattle.line_writing.proofs.writing.room_behind_numbered.Goals as goal

-- a word is longer than what is left, so the list is longer than the room
pub returns-in_err-left-2 : goal.returns-in_err-left-2
returns-in_err-left-2 c =
    let word = λ (x : ℕ). 32 ∷ literal_text (file_lit c.args.dense.now x) in
    let items = c.args.items.now in
    let i = c.loop-item.item-index in
    let x = c.item-item.result in
    let long = c.in_err-left-2.ensures in
    let parted = ap length (flat_map-parted word items i x c.loop-item-test.true c.item-item.is) in
    let lengths = simp length-append at parted in
    let same = ap (λ z. length (literal_text z)) c.with_variable.ensures in
    rw c.from_residual-in_err-left-2.ensures (λ fits. long (omega (arith, same, lengths, length-append (flat_map word items) (codes " 0"))))
