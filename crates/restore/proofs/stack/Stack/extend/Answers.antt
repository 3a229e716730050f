use Rattle.std.proofs.Common.{◌≡◌, ◌<◌, ◌-◌, ◌+◌, List, Bool, refl, sym, ◌∙◌, ap, subst, arith}
use Rattle.std.specs.List.{list_any}
use Rattle.restore.specs.declared.lists.Kept.{Kept}
use Rattle.restore.specs.Values.{value}
use Rattle.std.specs.Prelude.{All}
use Rattle.restore.specs.Stack.{needs, IsCovered}
use Rattle.restore.proofs.Steps.{covered_at, extending-step}
use Rattle.restore.proofs.stack.Stack.extend.Goals as goal

pub loop-left-preserved : goal.loop-left-preserved
loop-left-preserved c =
    let up = c.loop-left-test.true in
    let within = c.loop-left.invariant.within in
    let all = subst (λ es. All (IsCovered c.args.values.now) es) (sym c.self.view_is) c.requires in
    let here = covered_at c.self.inside.entries.items c.args.values.now c.loop-left.values (c.loop-left.left - 1) c.index-entry.result.now all (omega arith) c.index-entry.ensures c.loop-left.invariant.reserved in
    extending-step c.self.inside.entries.items c.args.values.now c.loop-left.values c.set.new.self (c.loop-left.left - 1) c.loop-left.left c.index-entry.result.now c.is_needed-needed.result
    (omega arith) c.index-entry.ensures here.variable
    (c.is_needed-needed.ensures ∙ ap (λ cs. list_any (λ (k : Kept). needs (value c.loop-left.values) c.index-entry.result.now.var k.lits) cs) c.as_slice.ensures) c.set.ensures c.loop-left.invariant
