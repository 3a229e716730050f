use Rattle.std.proofs.Common.{◌≡◌, ◌≤◌, ◌+◌, drop}
use Rattle.elimination.specs.Pairs.{clauses_at, found_pairs}
use Rattle.elimination.proofs.asked.are_few.Given as goal

abbrev pub invariant-loop-id : goal.invariant-loop-id
invariant-loop-id l = record {
  found : l.count + found_pairs l.var (clauses_at l.store (drop l.id-index l.with)) (clauses_at l.store l.against) ≡ found_pairs l.var (clauses_at l.store l.with) (clauses_at l.store l.against);
  few : l.count ≤ l.most;
}
