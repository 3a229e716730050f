use Rattle.std.proofs.Common.{◌≡◌}
use Rattle.elimination.specs.Boards.{BoardView, no_board}
use Rattle.elimination.proofs.Boarding.{new_inside}
use Rattle.elimination.proofs.board.Board.new.Goals as goal

pub invariant_of-result : goal.invariant_of-result
invariant_of-result c = new_inside _ c.new-3.result (λ i. record { engine = c.new.ensures i; irredundant = c.new-2.ensures i; stack = c.new-4.ensures i; inputs = c.new-5.ensures i; next_id = 1 }) c.new-3.ensures
