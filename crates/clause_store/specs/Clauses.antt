-- What callers see of a store: a finite map from ids to clauses.
use Rattle.std.specs.Prelude.{◌≡◌, ◌≢◌, ℕ, Bool, not, false, ◌&&◌, List, [], ◌∷◌, Option, None, Some, ◌++◌, if◌then◌else◌, IsTrue, is_some, unwrap_or, option_and_then, option_map, swap, refl}
use Rattle.std.specs.Ordering.{nat_cmp}
use Rattle.std.specs.FinMap as finmap
use Rattle.std.specs.Coded.{Coded, code_by, coded×, coded_list, coded_option, coded_ℕ}
use Rattle.lits.specs.Clause.{has, set_of}
use Rattle.lit_pool.specs.declared.Which.{Which}
use Rattle.lit_pool.specs.declared.Which.TheVariants.{One, Two}

-- what an active clause has besides its set: its slot, its literals in some order, and its links
pub record Place : Type 0 where
  pub slot : ℕ
  pub lits : List ℕ
  pub one : Option ℕ
  pub two : Option ℕ

-- a clause: its literal set as the ascending list, the slot that keeps it, and its place, which it has where it is active;
-- without one it is weakened
pub record ClauseEntry : Type 0 where
  pub literals : List ℕ
  pub slot : ℕ
  pub place : Option Place

-- a place is stored as its parts
abbrev pub place_code : Coded Place
place_code =
    code_by (ℕ × (List ℕ × (Option ℕ × Option ℕ))) (coded× coded_ℕ (coded× (coded_list coded_ℕ) (coded× (coded_option coded_ℕ) (coded_option coded_ℕ))))
    (λ e. (e.slot, (e.lits, (e.one, e.two)))) (λ p. record { slot = p.0; lits = p.1.0; one = p.1.1.0; two = p.1.1.1 }) (λ _. refl)

-- a clause is stored as its parts
abbrev pub clause_code : Coded ClauseEntry
clause_code =
    code_by (List ℕ × (ℕ × Option Place)) (coded× (coded_list coded_ℕ) (coded× coded_ℕ (coded_option place_code)))
    (λ e. (e.literals, (e.slot, e.place))) (λ p. record { literals = p.0; slot = p.1.0; place = p.1.1 }) (λ _. refl)

-- the clauses by id
abbrev pub Store : Type 0
Store = finmap.FinMap nat_cmp ClauseEntry

-- the place of an active clause
abbrev pub place_at : Store → ℕ → Option Place
place_at m id = option_and_then (λ h. h.place) (finmap.get m id)

-- the slot of an active clause
abbrev pub slot_at : Store → ℕ → Option ℕ
slot_at m id = option_map (λ p. p.slot) (place_at m id)

-- the slot that keeps a clause, active or weakened, 0 where the id is free
abbrev pub kept_at : Store → ℕ → ℕ
kept_at m id = unwrap_or (option_map (λ h. h.slot) (finmap.get m id)) 0

-- whether the id is that of an active clause
abbrev pub is_active : Store → ℕ → Bool
is_active m id = is_some (slot_at m id)

-- whether the id is that of an active or a weakened clause
abbrev pub is_held : Store → ℕ → Bool
is_held m id = finmap.contains_key m id

-- whether the id is that of a weakened clause
abbrev pub is_weakened : Store → ℕ → Bool
is_weakened m id = is_held m id && not (is_active m id)

-- the slot is that of an active clause
abbrev pub IsSlot : Store → ℕ → Type 0
IsSlot m s = (id : ℕ) × (slot_at m id ≡ Some s)

-- no active clause has the slot
abbrev pub IsFresh : Store → ℕ → Type 0
IsFresh m s = (id : ℕ) → slot_at m id ≢ Some s

-- a list with a literal at its end, unless it has it
abbrev pub with_new : List ℕ → ℕ → List ℕ
with_new ls l = if has ls l then ls else ls ++ l ∷ []

-- these, and then each literal at its first place that they don't have
unfoldable pub firsts_behind : List ℕ → List ℕ → List ℕ
firsts_behind ls [] = ls
firsts_behind ls (m ∷ ms) = firsts_behind (with_new ls m) ms

-- each literal at its first place
abbrev pub firsts : List ℕ → List ℕ
firsts ls = firsts_behind [] ls

-- no literal stands twice
abbrev pub IsOnce : List ℕ → Type 0
IsOnce [] = Unit {0}
IsOnce (x ∷ xs) = (has xs x ≡ false) × IsOnce xs

-- the literals of an active clause in their order, none where the id isn't active
abbrev pub lits_at : Store → ℕ → List ℕ
lits_at m id = unwrap_or (option_map (λ p. p.lits) (place_at m id)) []

-- the literal set of a clause, empty where the id is free
abbrev pub literals_at : Store → ℕ → List ℕ
literals_at m id = unwrap_or (option_map (λ h. h.literals) (finmap.get m id)) []

-- an active clause of this set and list, with no links
abbrev pub active_entry : List ℕ → List ℕ → ℕ → ClauseEntry
active_entry set ls s = record { literals = set; slot = s; place = Some (record { slot = s; lits = ls; one = None; two = None }) }

-- an active clause of these literals, as `add` makes it
abbrev pub new_clause : List ℕ → ℕ → ClauseEntry
new_clause ls s = active_entry (set_of ls) (firsts ls) s

-- a weakened clause of this set, which is kept at this slot
abbrev pub weakened_entry : List ℕ → ℕ → ClauseEntry
weakened_entry set s = record { literals = set; slot = s; place = None }

-- the clause of an id, an empty weakened one where the id is free
abbrev pub clause_at : Store → ℕ → ClauseEntry
clause_at m id = unwrap_or (finmap.get m id) (weakened_entry [] 0)

-- a link of a place
abbrev pub place_link : Which → Place → Option ℕ
place_link One p = p.one
place_link Two p = p.two

-- a link of an active clause, none where the id isn't active
abbrev pub link_at : Store → ℕ → Which → Option ℕ
link_at m id which = option_and_then (place_link which) (place_at m id)

-- a place with one link changed
abbrev pub relinked : Which → Option ℕ → Place → Place
relinked One to p = record { slot = p.slot; lits = p.lits; one = to; two = p.two }
relinked Two to p = record { slot = p.slot; lits = p.lits; one = p.one; two = to }

-- a place with two literals of its list exchanged
abbrev pub swapped : ℕ → ℕ → Place → Place
swapped a b p = record { slot = p.slot; lits = swap p.lits a b; one = p.one; two = p.two }

-- a clause with its place changed, if it has one
abbrev pub with_place : (Place → Place) → ClauseEntry → ClauseEntry
with_place f h = record { literals = h.literals; slot = h.slot; place = option_map f h.place }

-- the clauses with two literals of one's list exchanged
abbrev pub with_swap : Store → ℕ → ℕ → ℕ → Store
with_swap m id a b = finmap.insert m id (with_place (swapped a b) (clause_at m id))

-- the clauses with a link of one changed
abbrev pub with_link : Store → ℕ → Which → Option ℕ → Store
with_link m id which to = finmap.insert m id (with_place (relinked which to) (clause_at m id))

-- the weakened clause is active again, at the slot that kept it and no active clause had, with each of its literals once and no
-- links
pub record IsRestored (old : Store) (id : ℕ) (new : Store) : Type 0 where
  pub slot : ℕ
  pub lits : List ℕ
  pub same_slot : slot ≡ kept_at old id
  pub fresh : IsFresh old slot
  pub once : IsOnce lits
  pub same_literals : set_of lits ≡ literals_at old id
  pub changed : new ≡ finmap.insert old id (active_entry (literals_at old id) lits slot)

-- the id is that of an active clause with this set
abbrev pub IsActiveWith : Store → List ℕ → ℕ → Type 0
IsActiveWith m set id = IsTrue (is_active m id) × (literals_at m id ≡ set)

-- the id is that of a weakened clause with this set
abbrev pub IsWeakenedWith : Store → List ℕ → ℕ → Type 0
IsWeakenedWith m set id = IsTrue (is_weakened m id) × (literals_at m id ≡ set)

-- what holds of every store
pub record IsStore (m : Store) : Type 0 where
  -- two active clauses have different slots
  pub slots_apart : (a b s : ℕ) → slot_at m a ≡ Some s → slot_at m b ≡ Some s → a ≡ b
  -- the list of an active clause has the literals of its set, each once
  pub same_literals : (id : ℕ) (h : ClauseEntry) (p : Place) → finmap.get m id ≡ Some h → h.place ≡ Some p → (set_of p.lits ≡ h.literals) × IsOnce p.lits
  -- the set of a clause is the ascending list
  pub sets : (id : ℕ) (h : ClauseEntry) → finmap.get m id ≡ Some h → set_of h.literals ≡ h.literals
