-- How the rows of the literals and the places of the entries give the lists.
use Rattle.std.specs.Prelude.{◌≡◌, ◌≢◌, ℕ, ◌+◌, ◌*◌, ◌<◌, ◌≤◌, ◌-◌, map, Bool, true, false, nat_eq, nat_le, if◌then◌else◌, List, [], ◌∷◌, length, slice_index, slice_index_or, slice_set, Option, None, Some, refl}
use Rattle.std.specs.Coded.{Coded, code_by, coded×, coded_list, coded_ℕ}
use Rattle.std.specs.FinMap.{keys}
use Rattle.lits.specs.Clause.{has}
use Rattle.clause_store.specs.Clauses.{Store, slot_at, kept_at, is_held, lits_at, literals_at, IsStore}
use Rattle.watch_lists.specs.declared.lists.Sides.{Sides}
use Rattle.watch_lists.specs.Watch.{WatchView, watch_code, node_at}
use Rattle.watch_lists.specs.Watched.{Watched, entry_at, watch_place}

-- ---- Rows

-- a literal's row: its list, and a number of clauses for which the list has room
pub record RowView : Type 0 where
  pub watches : List WatchView
  pub count : ℕ

-- a row is stored as its parts
abbrev pub row_code : Coded RowView
row_code = code_by (List WatchView × ℕ) (coded× (coded_list watch_code) coded_ℕ) (λ r. (r.watches, r.count)) (λ p. record { watches = p.0; count = p.1 }) (λ _. refl)

abbrev pub no_row : RowView
no_row = record { watches = []; count = 0 }

-- the row of a literal
abbrev pub row_at : List RowView → ℕ → RowView
row_at rows l = slice_index_or rows l no_row

-- the list of a literal
abbrev pub watches_at : List RowView → ℕ → List WatchView
watches_at rows l = (row_at rows l).watches

abbrev pub count_at : List RowView → ℕ → ℕ
count_at rows l = (row_at rows l).count

-- a row with another list
abbrev pub with_watches : RowView → List WatchView → RowView
with_watches r es = record { watches = es; count = r.count }

-- a row with another number
abbrev pub with_count : RowView → ℕ → RowView
with_count r n = record { watches = r.watches; count = n }

-- one entry is taken out, and the last has come to its place
pub record IsCut (old new : List WatchView) (i : ℕ) : Type 0 where
  pub shorter : length new + 1 ≡ length old
  pub moved : i + 1 < length old → entry_at new i ≡ entry_at old (length old - 1)
  pub others : (k : ℕ) → k ≢ i → k + 1 < length old → entry_at new k ≡ entry_at old k

-- one row has changed
pub record IsRowChanged (l : ℕ) (old new : List RowView) : Type 0 where
  pub long : length new ≡ length old
  pub others : (k : ℕ) → k ≢ l → row_at new k ≡ row_at old k
  pub count : count_at new l ≡ count_at old l

-- the places, where the entry of a slot and a place is put at a list's end
abbrev pub put_places : List ℕ → List WatchView → ℕ → ℕ → List ℕ
put_places places es s p = slice_set places (node_at s p) (length es)

-- the last entry of a list
abbrev pub last_in : List WatchView → WatchView
last_in es = entry_at es (length es - 1)

-- the places, where an entry is taken out of a list and the last, which is that of a place p, comes to its place
abbrev pub cut_places : List ℕ → List WatchView → ℕ → ℕ → List ℕ
cut_places places es p i = if nat_le (length es) (i + 1) then places else slice_set places (node_at (last_in es).slot p) i

-- ---- The clause at a slot

-- whether a clause's slot is this one
abbrev pub has_slot : Option ℕ → ℕ → Bool
has_slot None s = false
has_slot (Some t) s = nat_eq t s

-- the first of these ids whose clause has a slot, 0 if there is none
abbrev pub id_among : Store → ℕ → List ℕ → ℕ
id_among m s [] = 0
id_among m s (q ∷ qs) = if has_slot (slot_at m q) s then q else id_among m s qs

-- the id of the active clause at a slot, 0 if there is none
unfoldable pub id_at : Store → ℕ → ℕ
id_at m s = id_among m s (keys m)

-- the list of the active clause at a slot
abbrev pub lits_of : Store → ℕ → List ℕ
lits_of m s = lits_at m (id_at m s)

-- at which of its first two places the clause at a slot has a literal that is one of them
abbrev pub watch_places : Store → ℕ → ℕ → ℕ
watch_places m s l = watch_place (lits_of m s) l

-- the active clause at a slot watches the literal at this place of its list
pub record IsWatching (m : Store) (s p l : ℕ) : Type 0 where
  pub slot : slot_at m (id_at m s) ≡ Some s
  pub long : 2 ≤ length (lits_of m s)
  pub low : p ≤ 1
  pub lit : slice_index (lits_of m s) p ≡ l

-- so it does, and isn't away
abbrev pub IsHere : (ℕ → Bool) → Store → ℕ → ℕ → ℕ → Type 0
IsHere away m s p l = IsWatching m s p l × (away s ≡ false)

-- no slot is away
abbrev pub nobody : ℕ → Bool
nobody s = false

-- ---- What holds

-- where the entry of a slot and a place stands
abbrev pub place_in : List ℕ → ℕ → ℕ → ℕ
place_in places s p = slice_index places (node_at s p)

-- the entry of a slot and a place stands in a list where the table says
pub record StandsIn (rows : List RowView) (places : List ℕ) (s p l : ℕ) : Type 0 where
  pub within : place_in places s p < length (watches_at rows l)
  pub slot : (entry_at (watches_at rows l) (place_in places s p)).slot ≡ s

-- the lists have the entries for which a relation of slots, places and literals holds, and no other, and the table says where.
-- The place is a function of the slot and the literal
pub record AreListed (R : ℕ → ℕ → ℕ → Type 0) (f : ℕ → ℕ → ℕ) (rows : List RowView) (places : List ℕ) : Type 0 where
  pub here : (s p l : ℕ) → R s p l → StandsIn rows places s p l
  pub tied : (s p l : ℕ) → R s p l → f s l ≡ p
  pub back : (l i : ℕ) → i < length (watches_at rows l) → R (entry_at (watches_at rows l) i).slot (f (entry_at (watches_at rows l) i).slot l) l
  pub placed : (l i : ℕ) → i < length (watches_at rows l) → place_in places (entry_at (watches_at rows l) i).slot (f (entry_at (watches_at rows l) i).slot l) ≡ i
  pub low : (s p l : ℕ) → R s p l → p ≤ 1

-- each entry has a literal of its clause
abbrev pub AreBlockers : Store → List RowView → Type 0
AreBlockers m rows = (l i : ℕ) → i < length (watches_at rows l) → has (lits_of m (entry_at (watches_at rows l) i).slot) (entry_at (watches_at rows l) i).blocker ≡ true

-- the clauses with a literal, active or weakened, are at most so many
pub record HasRoom (m : Store) (l count : ℕ) : Type 0 where
  pub ids : List ℕ
  pub each : (q : ℕ) → has (literals_at m q) l ≡ true → has ids q ≡ true
  pub few : length ids ≤ count

-- the table has a place for both entries of each clause, also of a weakened one
abbrev pub HavePlaces : Store → List ℕ → Type 0
HavePlaces m places = (q : ℕ) → is_held m q ≡ true → node_at (kept_at m q) 1 < length places

-- the lists are those of the clauses whose slots aren't away
pub record AreKept (away : ℕ → Bool) (m : Store) (rows : List RowView) (places : List ℕ) : Type 0 where
  pub stored : IsStore m
  pub listed : AreListed (IsHere away m) (watch_places m) rows places
  pub blockers : AreBlockers m rows
  pub reserved : (q l : ℕ) → has (literals_at m q) l ≡ true → l < length rows
  pub fits : (q s : ℕ) → slot_at m q ≡ Some s → node_at s 1 < length places
  pub keeps : HavePlaces m places
  pub rooms : (l : ℕ) → HasRoom m l (count_at rows l)

-- what the fields of watched clauses fulfil
pub record AreWatchesInside (m : Store) (rows : List RowView) (places : List ℕ) (vars : ℕ) : Type 0 where
  pub kept : AreKept nobody m rows places
  pub vars_is : length rows ≡ 2 * vars

-- the clauses and lists that callers see
abbrev pub seen : Store → List RowView → Watched
seen m rows = record { clauses = m; lists = map (λ r. r.watches) rows }

-- ---- What calls need

-- both entries of the clause at a slot, if it has two literals or more
abbrev pub sides_in : Store → List ℕ → ℕ → Option Sides
sides_in m places s = if nat_le 2 (length (lits_of m s)) then Some (record { one = slice_index (lits_of m s) 0; one_at = place_in places s 0; two = slice_index (lits_of m s) 1; two_at = place_in places s 1 }) else None

-- the clauses of watched slots are the same, but for one slot
pub record AreBeside (m n : Store) (s : ℕ) : Type 0 where
  pub slot : (t : ℕ) → nat_eq s t ≡ false → slot_at m (id_at m t) ≡ Some t → slot_at n (id_at n t) ≡ Some t
  pub lits : (t : ℕ) → nat_eq s t ≡ false → slot_at m (id_at m t) ≡ Some t → lits_of n t ≡ lits_of m t

-- a slot is that of a clause of two literals or more, and its entry for a literal stands at this place of the literal's list
pub record IsPlaced (m : Store) (places : List ℕ) (s l at : ℕ) : Type 0 where
  pub slot : slot_at m (id_at m s) ≡ Some s
  pub long : 2 ≤ length (lits_of m s)
  pub fits : node_at s 1 < length places
  pub here : place_in places s (watch_places m s l) ≡ at

-- these are the entries of a slot that can be taken out of its lists, also where the slot's clause has left the store
pub record CanPart (m n : Store) (rows : List RowView) (places : List ℕ) (s : ℕ) (sides : Option Sides) : Type 0 where
  pub kept : AreKept nobody m rows places
  pub slot : slot_at m (id_at m s) ≡ Some s
  pub beside : AreBeside m n s
  pub is : sides ≡ sides_in m places s

-- the list that has an entry can give it up for the one of a later literal
pub record CanMove (m : Store) (rows : List RowView) (places : List ℕ) (l i k : ℕ) : Type 0 where
  pub kept : AreKept nobody m rows places
  pub within : i < length (watches_at rows l)
  pub later : 2 ≤ k
  pub in_bounds : k < length (lits_of m (entry_at (watches_at rows l) i).slot)

-- the rows have room for the entries of a list of literals more
pub record AreRaised (ls : List ℕ) (old new : List RowView) : Type 0 where
  pub long : length new ≡ length old
  pub watches : (l : ℕ) → watches_at new l ≡ watches_at old l
  pub counts : (l : ℕ) → count_at old l ≤ count_at new l
  pub more : (l : ℕ) → has ls l ≡ true → count_at old l < count_at new l

-- the rows have room for the entries of a list of literals less
pub record AreLowered (ls : List ℕ) (old new : List RowView) : Type 0 where
  pub long : length new ≡ length old
  pub watches : (l : ℕ) → watches_at new l ≡ watches_at old l
  pub counts : (l : ℕ) → count_at new l ≡ (if has ls l then count_at old l - 1 else count_at old l)
