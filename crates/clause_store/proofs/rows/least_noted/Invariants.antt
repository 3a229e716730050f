use Rattle.std.proofs.Common.{ℕ, ◌<◌, ◌≤◌, ◌-◌, length}
use Rattle.std.specs.Prelude.{IfSome, IfNone}
use Rattle.clause_store.specs.Rows.{noted, IsRowWith, says_active}
use Rattle.clause_store.proofs.rows.least_noted.Given as goal

abbrev pub invariant-loop-s : goal.invariant-loop-s
invariant-loop-s l = record {
  found : IfSome l.least (λ i. IsRowWith (says_active l.state) l.pool l.clauses l.set i);
  least : IfSome l.least (λ i. (s : ℕ) → s < l.s → IsRowWith (says_active l.state) l.pool l.clauses l.set (noted l.noted.items s).id → i ≤ (noted l.noted.items s).id);
  none : IfNone l.least ((s : ℕ) → s < l.s → IsRowWith (says_active l.state) l.pool l.clauses l.set (noted l.noted.items s).id → ⊥);
}

abbrev pub decreases-loop-s : goal.decreases-loop-s
decreases-loop-s l = length l.noted.items - l.s
