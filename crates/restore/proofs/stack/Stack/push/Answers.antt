use Rattle.std.proofs.Common.{◌≡◌, ◌<◌, ◌++◌, ◌∷◌, [], false, ◌∙◌, ap, sym, subst, length, arith}
use Rattle.restore.specs.Stack.{has_entry}
use Rattle.restore.specs.Indexed.{variables_of, IsIndexed}
use Rattle.restore.proofs.Indexing.{indexed_push, indexed_more}
use Rattle.restore.proofs.stack.Stack.push.Goals as goal

pub invariant_of-self-in-Ok-push : goal.invariant_of-self-in-Ok-push
invariant_of-self-in-Ok-push c =
    let absent : has_entry c.self.inside.entries.items c.args.entry.var ≡ false = ap (λ es. has_entry es c.args.entry.var) c.self.view_is ∙ c.requires in
    rw c.in-Ok-push.ensures.items (indexed_push c.self.inside.entries.items c.args.entry c.make_room.new.places.items c.len.result
    (indexed_more _ _ _ c.make_room.ensures.same c.self.invariant) absent (omega (arith, c.in-Ok.ensures.room)) (c.len.ensures ∙ c.push.new.self.ok.0 ∙ ap length c.in-Ok-push.ensures.items))
