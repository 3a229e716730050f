-- What an engine shows of its clauses: for each id its literals, and its slot where it is active. The order of the
-- literals and the links aren't seen, so a call that changes only these leaves the clauses as they were.
use Rattle.std.specs.Prelude.{ℕ, Bool, List, [], ◌∷◌, map, Option, None, Some, is_some, if◌then◌else◌, option_and_then, option_map, unwrap_or, is_none, ◌&&◌, refl}
use Rattle.std.specs.Ordering.{nat_cmp}
use Rattle.std.specs.FinMap as finmap
use Rattle.std.specs.Coded.{Coded, code_by, coded×, coded_list, coded_option, coded_ℕ}
use Rattle.clause_store.specs.Clauses.{ClauseEntry, Store}

-- a clause: its literal set as the ascending list, and its slot, which it has where it is active
pub record Clause : Type 0 where
  pub literals : List ℕ
  pub slot : Option ℕ

-- a clause is stored as its parts
abbrev pub clause_code : Coded Clause
clause_code = code_by (List ℕ × Option ℕ) (coded× (coded_list coded_ℕ) (coded_option coded_ℕ)) (λ e. (e.literals, e.slot)) (λ p. record { literals = p.0; slot = p.1 }) (λ _. refl)

-- the clauses by id
abbrev pub Clauses : Type 0
Clauses = finmap.FinMap nat_cmp Clause

-- what is seen of a clause of the store
abbrev pub clause_of : ClauseEntry → Clause
clause_of h = record { literals = h.literals; slot = option_map (λ p. p.slot) h.place }

-- what is seen of a store
unfoldable pub clauses_of : Store → Clauses
clauses_of m = finmap.from_entries (map (λ e. (e.0, clause_of e.1)) (finmap.entries m))

-- the slot of an active clause
abbrev pub slot_of : Clauses → ℕ → Option ℕ
slot_of m id = option_and_then (λ c. c.slot) (finmap.get m id)

-- the literals of a clause if it is active
abbrev pub if_active : Clause → Option (List ℕ)
if_active c = if is_some c.slot then Some (c.literals) else None

-- the literals of the active clause of an id
abbrev pub active_at : Clauses → ℕ → Option (List ℕ)
active_at m id = option_and_then if_active (finmap.get m id)

-- a list of clauses with one more, if there is one
abbrev pub with_clause : Option (List ℕ) → List (List ℕ) → List (List ℕ)
with_clause None cs = cs
with_clause (Some c) cs = c ∷ cs

-- the active clauses of these ids
abbrev pub active_among : Clauses → List ℕ → List (List ℕ)
active_among m [] = []
active_among m (id ∷ ids) = with_clause (active_at m id) (active_among m ids)

-- the active clauses
unfoldable pub active : Clauses → List (List ℕ)
active m = active_among m (finmap.keys m)

-- the literal set of a clause, empty where the id is free
abbrev pub literals_at : Clauses → ℕ → List ℕ
literals_at m id = unwrap_or (option_map (λ c. c.literals) (finmap.get m id)) []

-- whether the id is that of a weakened clause
abbrev pub is_weakened : Clauses → ℕ → Bool
is_weakened m id = finmap.contains_key m id && is_none (slot_of m id)
