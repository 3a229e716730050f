use Rattle.std.proofs.Common.{sym, ◌∙◌, ap, subst, List, ℕ}
use Rattle.std.specs.List.Sorted.{IsStrictlyIncreasing}
use Rattle.std.proofs.lemmas.List.Sorted.{searched}
use Rattle.lits.specs.Clause.{has}
use Rattle.lits.proofs.SetSteps.{found, rises_from}
use Rattle.lits.proofs.set.LitSet.has.Goals as goal

pub returns : goal.returns
returns c =
    let lits = c.as_slice.result.now in let is = c.as_slice.ensures.literals in
    let up = subst IsStrictlyIncreasing (sym is) c.as_slice.ensures.increasing in
    let answer = searched lits c.args.l c.binary_search.result c.binary_search.ensures.position (rises_from lits up) in
    c.is_ok.ensures.value ∙ found lits c.args.l c.binary_search.result answer ∙ ap (λ (xs : List ℕ). has xs c.args.l) is
