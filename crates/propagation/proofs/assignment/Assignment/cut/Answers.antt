use Rattle.std.proofs.Common.{◌≡◌, take, drop, sym, ap, ◌∙◌, arith}
use Rattle.propagation.specs.Engine.{level_after}
use Rattle.propagation.specs.Assigned.{AreFreed}
use Rattle.propagation.proofs.Undoing.{assigned-cut, reach-behind}
use Rattle.propagation.proofs.assignment.Assignment.cut.Goals as goal

pub free_from-requires-clause-reach : goal.free_from-requires-clause-reach
free_from-requires-clause-reach c l h = reach-behind _ _ _ _ _ _ _ c.args.n _ _ l c.self.invariant c.deref.ensures.value c.deref_mut.ensures.value h

pub invariant_of-self : goal.invariant_of-self
invariant_of-self c =
    let freed : AreFreed c.self.inside.values.items (drop c.args.n c.self.inside.lits.items) c.free_from.new.values = rw (c.deref_mut.ensures.value, c.deref.ensures.value) at c.free_from.ensures in
    let low : c.args.level ≡ level_after (take c.args.n c.self.inside.entries.items) = c.requires.level ∙ ap (λ z. level_after (take c.args.n z.entries)) (sym c.self.view_is) in
    assigned-cut _ _ _ _ _ _ _ _ _ c.args.n _ _ _ _ _ c.self.invariant c.truncate.ensures.items c.truncate-2.ensures.items low freed c.self.inside.values.ok.0
    (omega (arith, c.truncate.ensures.capacity)) (omega (arith, c.truncate-2.ensures.capacity))
