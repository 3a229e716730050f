use Rattle.std.proofs.Common.{◌∙◌, ap, arith}
use Rattle.propagation.specs.Engine.{EngineView, up_to_level, level_after}
use Rattle.propagation.proofs.Levels.{level_after-up_to_level}
use Rattle.elimination.specs.Searching.{with_engine}
use Rattle.elimination.proofs.Searched.{moved, board_searched}
use Rattle.elimination.proofs.searching.Searching.into_board.Goals as goal

pub invariant_of-result : goal.invariant_of-result
invariant_of-result c = let le = level_after-up_to_level 0 c.self.inside.engine.trail in
    board_searched (with_engine (record { engine = c.self.inside.engine; irredundant = c.self.inside.irredundant; stack = c.self.inside.stack; inputs = c.self.inside.inputs; next_id = c.self.inside.next_id }) c.back_to.new.self) c.self.inside.occurrences
    (moved (record { engine = c.self.inside.engine; irredundant = c.self.inside.irredundant; stack = c.self.inside.stack; inputs = c.self.inside.inputs; next_id = c.self.inside.next_id }) c.self.inside.occurrences c.back_to.new.self (up_to_level 0 c.self.inside.engine.trail) c.self.invariant c.level.ensures.sound c.back_to.ensures)
    (ap (λ (e : EngineView). level_after e.trail) c.back_to.ensures ∙ omega (arith, le))
