use Rattle.std.proofs.Common.{◌≡◌, Bool, List, ℕ, ◌∙◌, ap, sym, false, get_or, length}
use Rattle.lits.specs.Clause.{has}
use Rattle.resolvents.specs.Held.{Held}
use Rattle.resolvents.proofs.Comparing.{other_length, same_length}
use Rattle.resolvents.proofs.Resolver.is_same.Goals as goal

pub returns-then-other-len : goal.returns-then-other-len
returns-then-other-len c =
    let long : c.len.result ≡ length c.args.self.now.clause = c.len.ensures ∙ c.self.inside.first.ok.0 ∙ ap (λ (z : Held). length z.clause) c.self.view_is in
    other_length c.args.self.now.clause c.args.other.now c.requires.held c.requires.once (λ e. c.if-other-len.true (e ∙ sym long))

pub returns : goal.returns
returns c =
    let long : c.len.result ≡ length c.args.self.now.clause = c.len.ensures ∙ c.self.inside.first.ok.0 ∙ ap (λ (z : Held). length z.clause) c.self.view_is in
    let e = ap (λ (z : Held). z.clause) c.self.view_is in
    c.are_marked.ensures ∙ same_length c.deref.result.now c.args.self.now.clause c.args.other.now
    (λ l. ap (λ (z : List Bool). get_or z l false) c.deref.ensures.value ∙ c.self.invariant.set l ∙ ap (λ (z : List ℕ). has z l) e)
    c.requires.held c.requires.once (c.if-other-len.false ∙ long)
