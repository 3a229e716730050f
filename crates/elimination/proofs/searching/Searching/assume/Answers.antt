use Rattle.std.proofs.Common.{◌++◌, ◌∷◌, [], None}
use Rattle.elimination.proofs.Searched.{moved}
use Rattle.elimination.proofs.searching.Searching.assume.Goals as goal

pub invariant_of-self : goal.invariant_of-self
invariant_of-self c = moved (record { engine = c.self.inside.engine; irredundant = c.self.inside.irredundant; stack = c.self.inside.stack; inputs = c.self.inside.inputs; next_id = c.self.inside.next_id })
    c.self.inside.occurrences c.assume.new.self (c.self.inside.engine.trail ++ record { lit = c.args.l; reason = None } ∷ []) c.self.invariant c.level.ensures.sound c.assume.ensures
