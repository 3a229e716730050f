use Rattle.std.proofs.Common.{◌≡◌, Bool, List, ℕ, ◌++◌, ◌∙◌, ap, subst, false, get_or, filter, OnOk}
use Rattle.lits.specs.Clause.{has}
use Rattle.restore.specs.Resolution.{without}
use Rattle.resolvents.specs.Held.{Held, unmarked}
use Rattle.resolvents.proofs.Listing.{resolvent_is}
use Rattle.resolvents.proofs.Resolver.resolve.Goals as goal

pub returns : goal.returns
returns c =
    let e = ap (λ (z : Held). z.clause) c.self.view_is in
    let first = c.deref.ensures.value ∙ e in
    let begun = c.in_ok-push_others.ensures ∙ ap (λ (z : List ℕ). z ++ without c.args.var c.deref.result.now) c.clear.ensures.items ∙ ap (λ (z : List ℕ). without c.args.var z) first in
    let rest = resolvent_is c.args.var c.args.self.now.clause c.args.second.now c.deref-2.result.now
    (λ l. ap (λ (z : List Bool). get_or z l false) c.deref-2.ensures.value ∙ c.self.invariant.set l ∙ ap (λ (z : List ℕ). has z l) e)
    c.requires.first c.requires.second in
    subst (λ (z : List ℕ). OnOk c.push_unmarked.result (c.push_unmarked.new.out.items ≡ z))
    (ap (λ (z : List ℕ). z ++ filter (unmarked c.deref-2.result.now c.args.var) c.args.second.now) begun ∙ rest) c.push_unmarked.ensures
