use Rattle.std.proofs.Common.{◌++◌}
use Rattle.elimination.proofs.Searched.{moved}
use Rattle.elimination.proofs.searching.Searching.propagate.Goals as goal

pub invariant_of-self : goal.invariant_of-self
invariant_of-self c = moved (record { engine = c.self.inside.engine; irredundant = c.self.inside.irredundant; stack = c.self.inside.stack; inputs = c.self.inside.inputs; next_id = c.self.inside.next_id })
    c.self.inside.occurrences c.propagate.new.self (c.self.inside.engine.trail ++ c.propagate.ensures.grows.0) c.self.invariant c.propagate.ensures.sound c.propagate.ensures.grows.1

pub returns-clause-sound : goal.returns-clause-sound
returns-clause-sound c = (moved (record { engine = c.self.inside.engine; irredundant = c.self.inside.irredundant; stack = c.self.inside.stack; inputs = c.self.inside.inputs; next_id = c.self.inside.next_id })
    c.self.inside.occurrences c.propagate.new.self (c.self.inside.engine.trail ++ c.propagate.ensures.grows.0) c.self.invariant c.propagate.ensures.sound c.propagate.ensures.grows.1).searched
