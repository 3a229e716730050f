use Rattle.std.proofs.Common.{◌-◌, get_or, sym, ap, ◌∙◌}
use Rattle.propagation.specs.Engine.{literals, value_in, level_behind}
use Rattle.propagation.proofs.Assigning.{level-read, level-free, value-none}
use Rattle.propagation.proofs.assignment.Assignment.level_of.Goals as goal

pub returns-in-Some : goal.returns-in-Some
returns-in-Some c =
    level-read c.self.inside.entries.items c.self.inside.origins.items c.args.l c.in-Some.field-0 c.index.result.now c.self.invariant.each_origin (ap (λ z. value_in (literals z.entries) c.args.l) c.self.view_is ∙ sym c.value.ensures ∙ c.in-Some.is)
    (c.index.ensures ∙ ap (λ k. get_or c.self.inside.origins.items (k - 1) c.index.result.now) c.var.ensures.variable)
    ∙ ap (λ z. level_behind 0 z.entries c.args.l) c.self.view_is

pub returns-in-None : goal.returns-in-None
returns-in-None c = sym (level-free 0 c.args.self.now.entries c.args.l (value-none (literals c.args.self.now.entries) c.args.l (sym c.value.ensures ∙ c.in-None.is)))
