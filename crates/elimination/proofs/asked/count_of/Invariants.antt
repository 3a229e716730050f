use Rattle.std.proofs.Common.{◌≡◌, ◌≤◌, ◌+◌, drop}
use Rattle.elimination.specs.Pairs.{clauses_at, found_with}
use Rattle.elimination.proofs.asked.count_of.Given as goal

abbrev pub invariant-loop-id : goal.invariant-loop-id
invariant-loop-id l = record {
  found : l.count + found_with l.var l.first (clauses_at l.store (drop l.id-index l.ids)) ≡ found_with l.var l.first (clauses_at l.store l.ids);
  few : l.count ≤ l.id-index;
}
