use Rattle.std.proofs.Common.{◌≡◌, ◌+◌, ◌∙◌, ap, sym, subst}
use Rattle.std.specs.Prelude.{IfSome, IfNone, slice_index}
use Rattle.restore.specs.Stack.{has_entry}
use Rattle.restore.proofs.Indexing.{has_from_place}
use Rattle.restore.proofs.stack.Stack.has.Goals as goal

pub returns : goal.returns
returns c = c.is_some.ensures ∙ has_from_place c.self.inside.entries.items c.self.inside.places.items c.args.var c.place_in.result c.self.invariant
    (subst (λ ps. IfSome c.place_in.result (λ i. slice_index ps c.args.var ≡ i + 1)) c.deref.ensures.value c.place_in.ensures.some)
    (subst (λ ps. IfNone c.place_in.result (slice_index ps c.args.var ≡ 0)) c.deref.ensures.value c.place_in.ensures.none) ∙ ap (λ es. has_entry es c.args.var) c.self.view_is
