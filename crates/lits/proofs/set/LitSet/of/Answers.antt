use Rattle.std.proofs.Common.{◌∙◌, ap, subst, List, ℕ, nat_eq, length, IsPermutation}
use Rattle.std.specs.List.{dedup}
use Rattle.smallvec.proofs.SmallVecLemmas.{items-with_items}
use Rattle.lits.proofs.SetSteps.{IsSetOf, IsSetOf-dedup}
use Rattle.lits.proofs.set.LitSet.of.Goals as goal

-- what is kept is the set of the list
kept : (c : goal.After-dedup) → IsSetOf c.args.lits.now c.dedup.new.self.items
kept c =
    let sorted = c.sort_unstable.new.self in
    let moved = subst (λ (xs : List ℕ). IsPermutation xs sorted) (c.deref_mut.ensures.value ∙ c.in_ok-items.ensures.ok) c.sort_unstable.ensures.permutation in
    let long = c.sort_unstable.ensures.len ∙ ap length c.deref_mut.ensures.value in
    let is = c.dedup.ensures.items ∙ ap (dedup nat_eq) (items-with_items c.in_ok-items.items sorted long) in
    IsSetOf-dedup c.args.lits.now sorted c.dedup.new.self.items moved c.sort_unstable.ensures.sorted is

pub invariant_of-result : goal.invariant_of-result
invariant_of-result c = (kept c).increasing

pub returns-clause-members : goal.returns-clause-members
returns-clause-members c = (kept c).members

pub returns-clause-increasing : goal.returns-clause-increasing
returns-clause-increasing c = (kept c).increasing

pub returns-clause-set : goal.returns-clause-set
returns-clause-set c = (kept c).set
