use Rattle.std.proofs.Common.{◌≡◌, ◌≤◌, true, length, sym, subst, ap, ◌∙◌}
use Rattle.lits.specs.Literal.{var, neg}
use Rattle.session_rules.specs.Logic.{has}
use Rattle.propagation.specs.Engine.{literals}
use Rattle.propagation.proofs.Assigning.{true-table, true-alone}
use Rattle.propagation.proofs.assignment.Assignment.is_false.Goals as goal

pub returns-in-True : goal.returns-in-True
returns-in-True c =
    let o = c.self.inside in
    let low : var c.args.l ≤ length o.origins.items = subst (λ z. var c.args.l ≤ z) (sym (ap (λ z. z.vars) c.self.view_is)) c.requires in
    let here : has (literals o.entries.items) c.args.l ≡ true = true-table o.entries.items _ o.values.items o.origins.items _ _ _ c.args.l c.code.result c.index.result.now c.self.invariant low c.code.ensures.code c.index.ensures c.in-True.is in
    sym (ap (λ z. has (literals z.entries) (neg c.args.l)) (sym c.self.view_is) ∙ true-alone _ o.entries.items c.args.l c.self.invariant.each_new here)
