use Rattle.std.proofs.Common.{◌≡◌, drop}
use Rattle.std.specs.List.{list_any}
use Rattle.lits.specs.Clause.{same_set}
use Rattle.elimination.specs.Pairs.{clauses_at}
use Rattle.elimination.proofs.known.is_among.Given as goal

abbrev pub invariant-loop-id : goal.invariant-loop-id
invariant-loop-id l = list_any (same_set l.resolver.clause) (clauses_at l.store (drop l.id-index l.ids)) ≡ list_any (same_set l.resolver.clause) (clauses_at l.store l.ids)
