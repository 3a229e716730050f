use Rattle.std.proofs.Common.{◌≡◌, ◌≤◌, sym, ap, ◌∙◌, arith}
use Rattle.propagation.specs.Engine.{level_after}
use Rattle.propagation.proofs.Levels.{up_to_level-all, level_after-exactly}
use Rattle.propagation.proofs.assignment.Assignment.back_to.Goals as goal

pub cut-requires-clause-level : goal.cut-requires-clause-level
cut-requires-clause-level c =
    let count : c.self.inside.level ≡ level_after c.args.self.now.entries = c.self.invariant.counted ∙ ap (λ z. level_after z.entries) c.self.view_is in
    let low : c.args.level ≤ level_after c.args.self.now.entries = omega (arith, count, c.if-self-level.true) in
    sym (ap level_after c.kept-n.ensures.entries ∙ level_after-exactly c.args.level c.args.self.now.entries low)

pub returns-else-self-level : goal.returns-else-self-level
returns-else-self-level c =
    let count : c.self.inside.level ≡ level_after c.args.self.now.entries = c.self.invariant.counted ∙ ap (λ z. level_after z.entries) c.self.view_is in
    let high : level_after c.args.self.now.entries ≤ c.args.level = omega (arith, count, c.if-self-level.false) in
    λ i. record { entries = sym (up_to_level-all c.args.level c.args.self.now.entries high) i; vars = c.args.self.now.vars }
