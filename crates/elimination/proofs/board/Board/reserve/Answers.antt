use Rattle.elimination.proofs.Boarding.{reserved_board}
use Rattle.elimination.proofs.board.Board.reserve.Goals as goal

pub invariant_of-self-2 : goal.invariant_of-self-2
invariant_of-self-2 c = reserved_board (record { engine = c.self.inside.clauses.engine; irredundant = c.self.inside.clauses.irredundant; stack = c.self.inside.stack; inputs = c.self.inside.inputs; next_id = c.self.inside.clauses.next_id })
    c.self.inside.clauses.occurrences c.reserve.new.self c.args.vars c.reserve-2.new.self c.reserve-2.result c.self.invariant c.requires c.in_ok-reserve.ensures.ok c.reserve-2.ensures.ok c.reserve-2.ensures.err
