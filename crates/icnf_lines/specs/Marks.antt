-- A table with marks for literals. The place of a literal is the code that it has with its variable's number as the variable; a
-- literal whose variable has no number has no place.
use Rattle.std.specs.Prelude.{◌≡◌, ℕ, ◌*◌, ◌≤◌, Bool, true, false, ◌&&◌, ◌||◌, nat_eq, List, length, slice_index_or, Option, Some, None, IsTrue, All}
use Rattle.std.specs.List.{list_any}
use Rattle.lits.specs.Literal.{max_var}
use Rattle.lits.specs.Numbering.{is_known, dense_lit, find_dense_lit}
use Rattle.session_rules.specs.Logic.{has}
use Rattle.icnf_lines.specs.declared.marks.Mark.{Mark}

-- no mark
abbrev pub blank : Mark
blank = record { held = false; assumed = false; met = false }

-- the marks at a place; one beyond the table has none
abbrev pub mark_at : List Mark → ℕ → Mark
mark_at table p = slice_index_or table p blank

-- the marks at a place, if there is one
abbrev pub mark_in : List Mark → Option ℕ → Mark
mark_in table None = blank
mark_in table (Some p) = mark_at table p

-- the marks of a literal under a numbering; one without a number has none
abbrev pub mark_of : List ℕ → List Mark → ℕ → Mark
mark_of vars table l = mark_in table (find_dense_lit vars l)

-- whether this is the place, if there is one
abbrev pub is_at : Option ℕ → ℕ → Bool
is_at None p = false
is_at (Some q) p = nat_eq p q

-- whether one of these literals has this place
abbrev pub is_place : List ℕ → List ℕ → ℕ → Bool
is_place vars ls p = list_any (λ l. nat_eq p (dense_lit vars l)) ls

-- each of these literals has a number
abbrev pub AreKnown : List ℕ → List ℕ → Type 0
AreKnown vars ls = All (λ l. IsTrue (is_known vars l)) ls

-- a table of this length has a place for each literal of a numbering
abbrev pub HasRoom : ℕ → List ℕ → Type 0
HasRoom size vars = 2 * length vars ≤ size

-- no place is marked
pub record IsBlank (table : List Mark) : Type 0 where
  pub each : (p : ℕ) → mark_at table p ≡ blank

-- the table is blank and has a place for each literal of so many variables
pub record IsKept (table : List Mark) (reserved : ℕ) : Type 0 where
  pub small : reserved ≤ max_var
  pub sized : length table ≡ 2 * reserved
  pub clean : IsBlank table

-- a mark of which one part is also so, the last only where the literal is held; and one that is taken away
abbrev pub also_held : Bool → Mark → Mark
also_held b m = record m { held = m.held || b }

abbrev pub also_assumed : Bool → Mark → Mark
also_assumed b m = record m { assumed = m.assumed || b }

abbrev pub also_met : Bool → Mark → Mark
also_met b m = record m { met = m.met || (m.held && b) }

abbrev pub cleared : Bool → Mark → Mark
cleared true m = blank
cleared false m = m

-- the marks of these literals were so changed, and those of no other
pub record Changes (vars : List ℕ) (change : Bool → Mark → Mark) (old new : List Mark) (ls : List ℕ) : Type 0 where
  pub each : (l : ℕ) → mark_of vars new l ≡ change (has ls l) (mark_of vars old l)

-- the marks at the places of these literals were so changed, and those at no other
pub record PlacesChange (vars : List ℕ) (change : Bool → Mark → Mark) (old new : List Mark) (ls : List ℕ) : Type 0 where
  pub each : (p : ℕ) → mark_at new p ≡ change (is_place vars ls p) (mark_at old p)

-- the marks at this place were so changed, if there is one, and those at no other
pub record PlaceChanges (change : Bool → Mark → Mark) (old new : List Mark) (place : Option ℕ) : Type 0 where
  pub each : (p : ℕ) → mark_at new p ≡ change (is_at place p) (mark_at old p)
