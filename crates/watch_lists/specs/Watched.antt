-- What callers see of watched clauses: the clauses of a store, and for each literal the list of those that watch it.
use Rattle.std.specs.Prelude.{◌≡◌, ℕ, ◌<◌, ◌*◌, ◌≤◌, ◌-◌, ◌++◌, replicate, map, Bool, true, ◌&&◌, ◌||◌, nat_eq, nat_le, if◌then◌else◌, List, [], length, slice_index, slice_index_or, slice_set, Some, refl}
use Rattle.std.specs.FinMap as finmap
use Rattle.std.specs.Coded.{Coded, code_by, coded×, coded_list, coded_ℕ}
use Rattle.lits.specs.Clause.{has}
use Rattle.clause_store.specs.Clauses.{Store, clause_code, slot_at, lits_at, literals_at, IsSlot, IsOnce, IsStore}
use Rattle.watch_lists.specs.Watch.{WatchView, watch_code, no_watch, with_blocker}

-- the clauses, and the list of each literal of a reserved variable
pub record Watched : Type 0 where
  pub clauses : Store
  pub lists : List (List WatchView)

-- they are stored as their parts
abbrev pub watched_code : Coded Watched
watched_code =
    code_by (Store × List (List WatchView)) (coded× (finmap.code coded_ℕ clause_code) (coded_list (coded_list watch_code)))
    (λ w. (w.clauses, w.lists)) (λ p. record { clauses = p.0; lists = p.1 }) (λ _. refl)

-- the list of a literal, empty where its variable isn't reserved
abbrev pub list_at : List (List WatchView) → ℕ → List WatchView
list_at ls l = slice_index_or ls l []

-- an entry of a list
abbrev pub entry_at : List WatchView → ℕ → WatchView
entry_at es i = slice_index_or es i no_watch

-- an entry of a literal's list
abbrev pub watch_at : Watched → ℕ → ℕ → WatchView
watch_at w l i = entry_at (list_at w.lists l) i

-- the slots of a list
abbrev pub slots_in : List WatchView → List ℕ
slots_in es = map (λ e. e.slot) es

-- the slots of the clauses that watch a literal
abbrev pub watchers : Watched → ℕ → List ℕ
watchers w l = slots_in (list_at w.lists l)

-- whether a literal is one of the first two of a list of two or more
abbrev pub is_watch : List ℕ → ℕ → Bool
is_watch ls l = nat_le 2 (length ls) && (nat_eq (slice_index ls 0) l || nat_eq (slice_index ls 1) l)

-- at which of its first two places a list has a literal that is one of them, 0 or 1
abbrev pub watch_place : List ℕ → ℕ → ℕ
watch_place ls l = if nat_eq (slice_index ls 0) l then 0 else 1

-- an entry of a literal's list is right for a clause of this list of literals
pub record IsWatch (ls : List ℕ) (l : ℕ) (e : WatchView) : Type 0 where
  pub long : 2 ≤ length ls
  pub lit : slice_index ls (watch_place ls l) ≡ l
  pub blocker : has ls e.blocker ≡ true

-- with the variables up to this one reserved, where they aren't
abbrev pub reserved : Watched → ℕ → Watched
reserved w vars = record { clauses = w.clauses; lists = w.lists ++ replicate (2 * vars - length w.lists) [] }

-- the literals of a list are of reserved variables
abbrev pub AreReserved : Watched → List ℕ → Type 0
AreReserved w ls = (l : ℕ) → has ls l ≡ true → l < length w.lists

-- with another blocker of one entry
abbrev pub blocked : Watched → ℕ → ℕ → ℕ → Watched
blocked w l i b = record { clauses = w.clauses; lists = slice_set w.lists l (slice_set (list_at w.lists l) i (with_blocker (watch_at w l i) b)) }

-- what holds of all watched clauses. It tells the lists but for their order and the blockers
pub record IsWatched (w : Watched) : Type 0 where
  -- the clauses are a store's
  pub store : IsStore w.clauses
  -- the literals of each clause are of reserved variables
  pub reserved : (id l : ℕ) → has (literals_at w.clauses id) l ≡ true → l < length w.lists
  -- a slot stands in a list at most once
  pub once : (l : ℕ) → IsOnce (watchers w l)
  -- an active clause stands in the lists of the first two literals of its list, if it has two or more, and in no other
  pub watches : (id s l : ℕ) → slot_at w.clauses id ≡ Some s → has (watchers w l) s ≡ is_watch (lits_at w.clauses id) l
  -- only active clauses stand in lists
  pub slots : (l s : ℕ) → has (watchers w l) s ≡ true → IsSlot w.clauses s
  -- that have the literal at one of the first two places, and with a literal of their own
  pub entries : (id l i : ℕ) → i < length (list_at w.lists l) → slot_at w.clauses id ≡ Some (watch_at w l i).slot → IsWatch (lits_at w.clauses id) l (watch_at w l i)
