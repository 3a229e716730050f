use Rattle.std.proofs.Common.{[], ◌∷◌, length, ap, arith}
use Rattle.std.proofs.lemmas.List.{length-append}
use Rattle.std.specs.List.{flat_map}
use Rattle.line_writing.specs.Held.{part_text}
use Rattle.line_writing.proofs.Spaced.{flat_map-parted}
use Rattle.line_writing.proofs.writing.room_behind_line.Goals as goal

-- a part is longer than what is left, so the line is longer than the room
pub returns-in_err-left-2 : goal.returns-in_err-left-2
returns-in_err-left-2 c =
    let parts = c.args.parts.now in
    let i = c.loop-part.part-index in
    let x = c.part-item.result in
    let long = c.in_err-left-2.ensures in
    let parted = ap length (flat_map-parted part_text parts i x c.loop-part-test.true c.part-item.is) in
    let lengths = simp length-append at parted in
    rw c.from_residual-in_err-left-2.ensures (λ fits. long (omega (arith, lengths, length-append (flat_map part_text parts) (10 ∷ []))))
