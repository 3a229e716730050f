use Rattle.std.proofs.Common.{sym, subst, arith}
use Rattle.std.proofs.lemmas.Bool.{both_ways}
use Rattle.std.specs.Ordering.{nat_cmp}
use Rattle.std.specs.FinSet.{contains-empty}
use Rattle.decisions.specs.Inside.{AreDecisions}
use Rattle.decisions.proofs.Decisions.new.Goals as goal

pub invariant_of-result : goal.invariant_of-result
invariant_of-result c = subst (λ z. AreDecisions z c.new-2.result.items 65536) (sym c.new.ensures) (record {
  phased = omega arith;
  limit = omega arith;
  within = λ v m. absurd (both_ways _ (contains-empty nat_cmp v) m);
  bounded = omega arith;
})
