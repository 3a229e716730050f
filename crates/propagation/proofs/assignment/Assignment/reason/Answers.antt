use Rattle.std.proofs.Common.{◌≡◌, Some, length, sym, ap, ◌∙◌, arith}
use Rattle.propagation.specs.Engine.{literals, reason_in, place_in}
use Rattle.propagation.proofs.Assigning.{reason-none}
use Rattle.propagation.proofs.Places.{place-below, place-entry, no_place-absent}
use Rattle.propagation.proofs.Resting.{read-reason}
use Rattle.propagation.proofs.assignment.Assignment.reason.Goals as goal

pub index-requires : goal.index-requires
index-requires c = let o = c.self.inside in
    let at : Some c.in-Some.place ≡ place_in (literals o.entries.items) c.args.l = c.in-Some.ensures ∙ ap (λ z. place_in (literals z.entries) c.args.l) (sym c.self.view_is) in
    let low = place-below o.entries.items c.args.l c.in-Some.place at in omega (arith, low, o.entries.ok.0)

pub returns-in-Some : goal.returns-in-Some
returns-in-Some c = let o = c.self.inside in
    let at : Some c.in-Some.place ≡ place_in (literals o.entries.items) c.args.l = c.in-Some.ensures ∙ ap (λ z. place_in (literals z.entries) c.args.l) (sym c.self.view_is) in
    read-reason (length o.origins.items) o.entries.items c.args.l c.in-Some.place c.index.result.now c.self.invariant.each_new (place-entry o.entries.items c.args.l c.in-Some.place at) c.index.ensures
    ∙ ap (λ z. reason_in z.entries c.args.l) c.self.view_is

pub returns-in-None : goal.returns-in-None
returns-in-None c = sym (reason-none c.args.self.now.entries c.args.l (no_place-absent c.args.self.now.entries c.args.l c.in-None.ensures))
