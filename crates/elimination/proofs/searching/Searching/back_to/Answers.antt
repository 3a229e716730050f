use Rattle.propagation.specs.Engine.{up_to_level}
use Rattle.elimination.proofs.Searched.{moved}
use Rattle.elimination.proofs.searching.Searching.back_to.Goals as goal

pub invariant_of-self : goal.invariant_of-self
invariant_of-self c = moved (record { engine = c.self.inside.engine; irredundant = c.self.inside.irredundant; stack = c.self.inside.stack; inputs = c.self.inside.inputs; next_id = c.self.inside.next_id })
    c.self.inside.occurrences c.back_to.new.self (up_to_level c.args.level c.self.inside.engine.trail) c.self.invariant c.level.ensures.sound c.back_to.ensures
