use Rattle.std.proofs.Common.{◌≡◌, ◌+◌, length, take}
use Rattle.line_writing.specs.Held.{parts_text}
use Rattle.line_writing.proofs.writing.room_behind_line.Given as goal

abbrev pub invariant-loop-part : goal.invariant-loop-part
invariant-loop-part l = l.left + (length (parts_text (take l.part-index l.parts)) + 2) ≡ l.fn.room
