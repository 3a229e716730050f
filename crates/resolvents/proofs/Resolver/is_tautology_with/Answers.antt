use Rattle.std.proofs.Common.{Bool, List, ℕ, ◌∙◌, ap, false, get_or}
use Rattle.lits.specs.Clause.{has}
use Rattle.resolvents.specs.Held.{Held}
use Rattle.resolvents.proofs.Clashing.{clash_is}
use Rattle.resolvents.proofs.Resolver.is_tautology_with.Goals as goal

pub returns : goal.returns
returns c =
    let e = ap (λ (z : Held). z.clause) c.self.view_is in
    c.has_clash.ensures ∙ clash_is c.args.var c.args.self.now.clause c.args.second.now (λ l. get_or c.deref.result.now l false)
    (λ l. ap (λ (z : List Bool). get_or z l false) c.deref.ensures.value ∙ c.self.invariant.set l ∙ ap (λ (z : List ℕ). has z l) e)
    c.requires.first c.requires.second
