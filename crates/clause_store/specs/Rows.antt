-- How the store's fields give the map.
use Rattle.std.specs.Prelude.{◌≡◌, ◌≢◌, ℕ, ◌<◌, Bool, true, false, ◌&&◌, nat_eq, if◌then◌else◌, List, [], ◌∷◌, length, map, ◌++◌, suc, get_or, Option, None, Some, is_some, unwrap_or, option_map, IsTrue}
use Rattle.std.specs.Option.{option_or}
use Rattle.std.specs.FinMap.{from_entries, get}
use Rattle.std.specs.Map.{lookup}
use Rattle.lits.specs.Clause.{set_of}
use Rattle.lit_pool.specs.Entry.{Entry, Entries, new_entry}
use Rattle.clause_store.specs.declared.table.ClauseRow.{ClauseRow}
use Rattle.clause_store.specs.declared.table.Cell.{Cell}
use Rattle.clause_store.specs.declared.table.Cell.TheVariants.{Free, Active, Weakened}
use Rattle.clause_store.specs.declared.rows.SlotInfo.{SlotInfo}
use Rattle.clause_store.specs.declared.rows.State.{State}
use Rattle.clause_store.specs.declared.rows.State.TheVariants as states
use Rattle.clause_store.specs.declared.table.Table.{Table}
use Rattle.clause_store.specs.Clauses.{ClauseEntry, Place, Store, IsOnce}
use Rattle.clause_store.specs.declared.index.Pairs.{Pairs}
use Rattle.clause_store.specs.Index.{has_pair, key_of}

-- an entry, or the empty one
abbrev pub entry_of : Option Entry → Entry
entry_of o = unwrap_or o (new_entry [])

-- the place of a clause with this entry
abbrev pub place_of : Entry → ℕ → Place
place_of e s = record { slot = s; lits = e.lits; one = e.one; two = e.two }

-- a row as callers see it, with its entry in the pool
abbrev pub held_of : Option Entry → ClauseRow → ClauseEntry
held_of o k = record { literals = set_of (entry_of o).lits; slot = k.slot; place = (if k.active then Some (place_of (entry_of o) k.slot) else None) }

-- the row that a cell of the dense part has
abbrev pub kept_of : Cell → Option ClauseRow
kept_of Free = None
kept_of (Active s) = Some (record { slot = s; active = true })
kept_of (Weakened s) = Some (record { slot = s; active = false })

-- a row with its id
abbrev pub row_if : ℕ → Option ClauseRow → List (ℕ × ClauseRow)
row_if q None = []
row_if q (Some k) = (q, k) ∷ []

-- the rows of the dense part with their ids, which begin at q
abbrev pub listed : ℕ → List Cell → List (ℕ × ClauseRow)
listed q [] = []
listed q (c ∷ cs) = row_if q (kept_of c) ++ listed (suc q) cs

-- the rows with their ids; at an id that stands twice the first counts
abbrev pub entries : Table → List (ℕ × ClauseRow)
entries t = listed 0 t.dense.items ++ t.far.entries

-- the rows as a map
unfoldable pub store_of : Entries → Table → Store
store_of pool t = from_entries (map (λ e. (e.0, held_of (get pool e.1.slot) e.1)) (entries t))

-- what the dense part has at an id
abbrev pub dense_row : List Cell → ℕ → Option ClauseRow
dense_row cs q = kept_of (get_or cs q Free)

-- what the far part has at an id
abbrev pub far_row : List (ℕ × ClauseRow) → ℕ → Option ClauseRow
far_row es q = lookup (nat_eq q) es

-- the row of an id
abbrev pub row : Table → ℕ → Option ClauseRow
row t q = option_or (dense_row t.dense.items q) (far_row t.far.entries q)

-- the literal set of an id's row
abbrev pub literals_in : Entries → Table → ℕ → Option (List ℕ)
literals_in pool es q = option_map (λ k. set_of (entry_of (get pool k.slot)).lits) (row es q)

-- whether active clauses are asked for
abbrev pub says_active : State → Bool
says_active (states.Active) = true
says_active (states.Weakened) = false

-- whether a flag is in a state
abbrev pub is_state : Bool → Bool → Bool
is_state true b = b
is_state false b = if b then false else true

-- what is noted of a slot
abbrev pub noted : List SlotInfo → ℕ → SlotInfo
noted ids s = get_or ids s (record { id = 0; key = 0 })

-- whether a row has this key and is in this state
abbrev pub stands : List SlotInfo → Bool → ℕ → Option ClauseRow → Bool
stands ids state key None = false
stands ids state key (Some k) = nat_eq (noted ids k.slot).key key && is_state state k.active

-- the slot of a row in this state
abbrev pub row_slot : Bool → Option ClauseRow → Option ℕ
row_slot state None = None
row_slot state (Some k) = if is_state state k.active then Some k.slot else None

-- a row that is active, or isn't
abbrev pub with_state : Bool → ClauseRow → ClauseRow
with_state b k = record { slot = k.slot; active = b }

-- this id is noted of a slot
abbrev pub IsListed : List SlotInfo → ℕ → ℕ → Type 0
IsListed ids s q = (s < length ids) × ((noted ids s).id ≡ q)

-- what is noted is as it was but at this slot
abbrev pub SameListed : List SlotInfo → List SlotInfo → ℕ → Type 0
SameListed old new s = (t : ℕ) → t ≢ s → t < length old → (t < length new) × (noted new t ≡ noted old t)

-- an id is that of a row in this state with this set
abbrev pub IsRowWith : Bool → Entries → Table → List ℕ → ℕ → Type 0
IsRowWith state pool es set q = IsTrue (is_some (row_slot state (row es q))) × (literals_in pool es q ≡ Some set)

-- what holds of a row of an id, with its entry in the pool; its key is noted in a store with an index
pub record IsRow (indexed : Bool) (o : Option Entry) (ids : List SlotInfo) (q : ℕ) (k : ClauseRow) : Type 0 where
  pub live : IsTrue (is_some o)
  pub listed : IsListed ids k.slot q
  pub once : IsOnce (entry_of o).lits
  pub keyed : IsTrue indexed → (noted ids k.slot).key ≡ key_of (set_of (entry_of o).lits)

-- each row has a live entry with each literal once
abbrev pub ArePooled : Entries → Table → Type 0
ArePooled pool es = (q : ℕ) (k : ClauseRow) → row es q ≡ Some k → IsTrue (is_some (get pool k.slot)) × IsOnce (entry_of (get pool k.slot)).lits

-- each row holds
abbrev pub AreRows : Bool → Entries → List SlotInfo → Table → Type 0
AreRows indexed pool ids es = (q : ℕ) (k : ClauseRow) → row es q ≡ Some k → IsRow indexed (get pool k.slot) ids q k

-- the index has the pairs of the rows in this state, in a store that keeps an index
abbrev pub IsIndex : Bool → List SlotInfo → Bool → Pairs → Table → Type 0
IsIndex indexed ids state s es = IsTrue indexed → (key q : ℕ) → has_pair s key q ≡ stands ids state key (row es q)

-- what holds inside every store, with an index or without
pub record IsStoreInside (indexed : Bool) (pool : Entries) (es : Table) (active weakened : Pairs) (ids : List SlotInfo) : Type 0 where
  pub rows : AreRows indexed pool ids es
  pub active_index : IsIndex indexed ids true active es
  pub weakened_index : IsIndex indexed ids false weakened es
