use Rattle.std.proofs.Common.{◌≡◌, ℕ, ◌⊎◌}
use Rattle.std.specs.FinSet as set
use Rattle.decide_order.specs.Ranked.{IsMember}
use Rattle.decisions.specs.Candidates.{IsAssigned}
use Rattle.decisions.proofs.Decisions.pick.Given as goal

abbrev pub invariant-best : goal.invariant-best
invariant-best l = record {
  left : (v : ℕ) → IsMember l.initial.self-inside.order v → IsMember l.self-inside.order v ⊎ IsAssigned l.engine v;
  old : (v : ℕ) → IsMember l.self-inside.order v → IsMember l.initial.self-inside.order v;
  reserved : l.self-inside.order.reserved ≡ l.initial.self-inside.order.reserved;
  same : l.self-inside.phases.items ≡ l.initial.self-inside.phases.items;
  amount : l.self-inside.amount ≡ l.initial.self-inside.amount;
}

abbrev pub decreases-best : goal.decreases-best
decreases-best l = set.len l.self-inside.order.members
