use Rattle.std.proofs.Common.{◌≡◌, ℕ, drop}
use Rattle.std.specs.Ordering.{nat_cmp}
use Rattle.std.specs.BTreeSet.{contains}
use Rattle.lits.specs.Clause.{has}
use Rattle.clause_store.specs.Clauses.{firsts_behind, firsts}
use Rattle.clause_store.proofs.once.firsts.Given as goal

abbrev pub invariant-loop-l : goal.invariant-loop-l
invariant-loop-l l = record { listed : firsts_behind l.kept.items (drop l.l-index l.lits) ≡ firsts l.lits; seen : (q : ℕ) → contains nat_cmp l.seen q ≡ has l.kept.items q }
