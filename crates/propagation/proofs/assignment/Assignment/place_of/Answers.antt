use Rattle.std.proofs.Common.{◌≡◌, ◌-◌, true, get_or, length, sym, ap, ◌∙◌}
use Rattle.session_rules.specs.Logic.{has}
use Rattle.propagation.specs.Engine.{literals, place_in}
use Rattle.propagation.specs.Assigned.{value_of}
use Rattle.propagation.proofs.Assigning.{true-read, false-read, value-none}
use Rattle.propagation.proofs.Places.{place-read, place-none}
use Rattle.propagation.proofs.assignment.Assignment.place_of.Goals as goal

pub returns-in-True : goal.returns-in-True
returns-in-True c =
    let o = c.self.inside in
    let on : has (literals o.entries.items) c.args.l ≡ true = ap (λ z. has (literals z.entries) c.args.l) c.self.view_is ∙ true-read (literals c.args.self.now.entries) c.args.l (sym c.entry.ensures ∙ ap value_of c.in-True.is) in
    let origin = c.self.invariant.each_origin c.args.l c.index.result.now on (c.index.ensures ∙ ap (λ k. get_or o.origins.items (k - 1) c.index.result.now) c.var.ensures.variable) in
    place-read (length o.origins.items) o.entries.items c.args.l c.index.result.now.place c.self.invariant.each_new origin.at ∙ ap (λ z. place_in (literals z.entries) c.args.l) c.self.view_is

pub returns-in-False : goal.returns-in-False
returns-in-False c = sym (place-none (literals c.args.self.now.entries) c.args.l (false-read (literals c.args.self.now.entries) c.args.l (sym c.entry.ensures ∙ ap value_of c.in-False.is)).0)

pub returns-in-Free : goal.returns-in-Free
returns-in-Free c = sym (place-none (literals c.args.self.now.entries) c.args.l (value-none (literals c.args.self.now.entries) c.args.l (sym c.entry.ensures ∙ ap value_of c.in-Free.is)).0)
