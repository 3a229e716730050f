-- When a variable is eligible for elimination, by the irredundant clauses, the frozen literals and the assigned ones.
use Rattle.std.specs.Prelude.{◌≡◌, ℕ, ◌≤◌, Bool, not, ◌&&◌, nat_le, List, [], length, filter, Contains, IsTrue}
use Rattle.std.specs.List.{list_any}
use Rattle.lits.specs.Literal.{var}
use Rattle.session_rules.specs.Logic.{same_set, propagated_times}
use Rattle.restore.specs.Resolution.{has_variable, holds, holds_negated, resolvents, all_variables}
use Rattle.restore.specs.Stack.{has_set}

-- how many clauses pass a test, each as often as it stands in the list
abbrev pub how_many : (List ℕ → Bool) → List (List ℕ) → ℕ
how_many test cs = length (filter test cs)

-- so many clauses at most hold an eligible variable, and so many its negation
abbrev pub most_holding : ℕ
most_holding = 10

-- whether few enough clauses hold the variable, and few enough its negation
abbrev pub stands_in_few : List (List ℕ) → ℕ → Bool
stands_in_few cs x = nat_le (how_many (holds x) cs) most_holding && nat_le (how_many (holds_negated x) cs) most_holding

-- whether its resolvents that are no tautologies are at most as many as the clauses with it
abbrev pub has_few_resolvents : List (List ℕ) → ℕ → Bool
has_few_resolvents cs x = nat_le (length (resolvents x cs)) (how_many (has_variable x) cs)

-- whether a variable is eligible: it is neither frozen nor assigned, some clause has it, few clauses have it, and it has
-- few resolvents
unfoldable pub eligible : List (List ℕ) → List ℕ → List ℕ → ℕ → Bool
eligible cs frozen assigned x =
    (not (has_variable x frozen) && not (has_variable x assigned))
    && (list_any (has_variable x) cs && (stands_in_few cs x && has_few_resolvents cs x))

-- the same, condition by condition
pub record IsEligible (cs : List (List ℕ)) (frozen assigned : List ℕ) (x : ℕ) : Type 0 where
  pub not_frozen : (l : ℕ) → Contains frozen l → (var l ≡ x) → ⊥
  pub not_assigned : (l : ℕ) → Contains assigned l → (var l ≡ x) → ⊥
  pub occurs : (c : List ℕ) × Contains cs c × IsTrue (has_variable x c)
  pub few_with : how_many (holds x) cs ≤ most_holding
  pub few_with_negation : how_many (holds_negated x) cs ≤ most_holding
  pub few_resolvents : length (resolvents x cs) ≤ how_many (has_variable x) cs

-- whether some variable is eligible
unfoldable pub any_eligible : List (List ℕ) → List ℕ → List ℕ → Bool
any_eligible cs frozen assigned = list_any (eligible cs frozen assigned) (all_variables cs)

-- the literals that clauses force, found by rounds
abbrev pub forced : List (List ℕ) → List ℕ
forced cs = propagated_times (length cs) cs []

-- ---- Lists of clauses that differ in their order and their literals' order alone

-- each set stands in both lists as often
abbrev pub OftenAs : List (List ℕ) → List (List ℕ) → Type 0
OftenAs cs ds = (c : List ℕ) → how_many (same_set c) cs ≡ how_many (same_set c) ds

-- each clause of the first list has its set in the second
abbrev pub Covered : List (List ℕ) → List (List ℕ) → Type 0
Covered cs ds = (c : List ℕ) → Contains cs c → IsTrue (has_set ds c)
