-- What always holds of the parts that an event's state is kept in.
use Rattle.std.specs.Prelude.{◌≡◌, ℕ, ◌*◌, ◌≤◌, Bool, List, [], length, All}
use Rattle.lits.specs.Literal.{max_var, var}
use Rattle.session_events.specs.Ticks.{Ticks}

-- the table is clean and has a place for each reserved literal, and all literals are reserved
pub record HasRoom (ticks : List Bool) (assumed : List ℕ) (inputs : List (List ℕ)) (reserved : ℕ) : Type 0 where
  pub small : reserved ≤ max_var
  pub sized : length ticks ≡ 2 * reserved
  pub clean : Ticks ticks []
  pub assumed_fit : All (λ l. var l ≤ reserved) assumed
  pub inputs_fit : All (λ c. All (λ l. var l ≤ reserved) c) inputs
