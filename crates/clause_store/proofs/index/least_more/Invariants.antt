use Rattle.std.proofs.Common.{◌≡◌, ℕ, ◌<◌, ◌-◌, ◌^◌, true, Some, None, Option, MatchOption}
use Rattle.clause_store.specs.Index.{in_more}
use Rattle.clause_store.specs.Rows.{literals_in}
use Rattle.clause_store.proofs.index.least_more.Given as goal

-- how many ids are still to come
abbrev ahead : Option ℕ → ℕ
ahead None = 0
ahead (Some i) = 2 ^ 64 - i

abbrev pub invariant-loop-next : goal.invariant-loop-next
invariant-loop-next l = MatchOption l.next
    ((x : ℕ) → in_more l.more l.key x ≡ true → literals_in l.pool l.clauses x ≡ Some l.set → ⊥)
    (λ i. (in_more l.more l.key i ≡ true) × ((x : ℕ) → x < i → in_more l.more l.key x ≡ true → literals_in l.pool l.clauses x ≡ Some l.set → ⊥))

abbrev pub decreases-loop-next : goal.decreases-loop-next
decreases-loop-next l = ahead l.next
