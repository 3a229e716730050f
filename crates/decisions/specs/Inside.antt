-- What holds inside of what is decided.
use Rattle.std.specs.Prelude.{ℕ, ◌^◌, ◌<◌, ◌≤◌, Bool, List, length}
use Rattle.lits.specs.Literal.{max_var}
use Rattle.decide_order.specs.Ranked.{Ranked, IsMember}

pub record AreDecisions (order : Ranked) (phases : List Bool) (amount : ℕ) : Type 0 where
  pub phased : order.reserved ≤ length phases
  pub limit : order.reserved ≤ max_var
  pub within : (v : ℕ) → IsMember order v → (0 < v) × (v ≤ order.reserved)
  pub bounded : amount ≤ 2 ^ 48
