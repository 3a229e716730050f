-- What callers see of an entry of a literal's list.
use Rattle.std.specs.Prelude.{ℕ, ◌+◌, ◌*◌, refl}
use Rattle.std.specs.Coded.{Coded, code_by, coded×, coded_ℕ}

-- the slot of a clause that watches the literal, and some literal of the clause
pub record WatchView : Type 0 where
  pub slot : ℕ
  pub blocker : ℕ

-- it is stored as its parts
abbrev pub watch_code : Coded WatchView
watch_code = code_by (ℕ × ℕ) (coded× coded_ℕ coded_ℕ) (λ e. (e.slot, e.blocker)) (λ p. record { slot = p.0; blocker = p.1 }) (λ _. refl)

-- an entry in place of none
abbrev pub no_watch : WatchView
no_watch = record { slot = 0; blocker = 0 }

-- the number of a place of a slot's clause, different for different slots and places
abbrev pub node_at : ℕ → ℕ → ℕ
node_at s p = 2 * s + p

-- with another blocker
abbrev pub with_blocker : WatchView → ℕ → WatchView
with_blocker e b = record { slot = e.slot; blocker = b }
