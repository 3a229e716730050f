-- The true literals in their order, with the value of each literal and the level and the place of each by table.
use Rattle.std.specs.Prelude.{nat_eq, map, ◌≡◌, ℕ, ◌*◌, ◌≤◌, Bool, true, false, List, [], ◌∷◌, ◌++◌, length, get_or, Option, None, Some, is_none, if◌then◌else◌, ◌+◌, ◌-◌, ◌||◌, IsTrue, refl}
use Rattle.std.specs.Coded.{Coded, code_by, coded×, coded_list, coded_ℕ}
use Rattle.lits.specs.Literal.{max_var, var, neg}
use Rattle.session_rules.specs.Logic.{has}
use Rattle.propagation.specs.declared.TrailEntry.{TrailEntry}
use Rattle.propagation.specs.declared.assignment.Origin.{Origin}
use Rattle.propagation.specs.declared.assignment.Value.{Value}
use Rattle.propagation.specs.declared.assignment.Value.TheVariants as value
use Rattle.propagation.specs.Engine.{literals, level_after, level_behind, value_in, IsFree, entry_code}

-- the entries, oldest first, and the greatest reserved variable
pub record Assigned : Type 0 where
  pub entries : List TrailEntry
  pub vars : ℕ

-- it is stored as its parts
abbrev pub assigned_code : Coded Assigned
assigned_code = code_by (List TrailEntry × ℕ) (coded× (coded_list entry_code) coded_ℕ) (λ a. (a.entries, a.vars)) (λ p. record { entries = p.0; vars = p.1 }) (λ _. refl)

-- no literal, no variable
abbrev pub nothing_assigned : Assigned
nothing_assigned = record { entries = []; vars = 0 }

-- with one more entry
abbrev pub with_last : Assigned → TrailEntry → Assigned
with_last a s = record { entries = a.entries ++ s ∷ []; vars = a.vars }

-- with these entries
abbrev pub with_entries : Assigned → List TrailEntry → Assigned
with_entries a ss = record { entries = ss; vars = a.vars }

-- the level behind an entry of this reason
abbrev pub raised : ℕ → Option ℕ → ℕ
raised n r = if is_none r then n + 1 else n

-- the level before an entry of this reason
abbrev pub lowered : ℕ → Option ℕ → ℕ
lowered n r = if is_none r then n - 1 else n

-- the literal may come on the trail behind these
pub record IsNew (vars : ℕ) (before : List TrailEntry) (l : ℕ) : Type 0 where
  pub reserved : var l ≤ vars
  pub free : IsFree (literals before) l

-- so many entries stand before the literal's own
pub record IsAt (entries : List TrailEntry) (l place : ℕ) : Type 0 where
  pub before : List TrailEntry
  pub entry : TrailEntry
  pub after : List TrailEntry
  pub cut : entries ≡ before ++ entry ∷ after
  pub counted : place ≡ length before
  pub lit : entry.lit ≡ l

-- the origin has the level of the literal and the place of its entry
pub record IsOrigin (entries : List TrailEntry) (l : ℕ) (m : Origin) : Type 0 where
  pub level : level_behind 0 entries l ≡ Some m.level
  pub at : IsAt entries l m.place

-- the entry, with this slot as its reason where it is that of the literal
abbrev pub rested : ℕ → ℕ → TrailEntry → TrailEntry
rested l s t = if nat_eq t.lit l then record { lit = t.lit; reason = Some s } else t

-- the entries with this slot as the literal's reason
abbrev pub with_reason : List TrailEntry → ℕ → ℕ → List TrailEntry
with_reason ss l s = map (rested l s) ss

-- each literal was new when it came
abbrev pub AreNew : ℕ → List TrailEntry → Type 0
AreNew vars entries = (before after : List TrailEntry) (s : TrailEntry) → entries ≡ before ++ s ∷ after
    → IsNew vars before s.lit

-- what an entry says
abbrev pub value_of : Value → Option Bool
value_of (value.Free) = None
value_of (value.True) = Some true
value_of (value.False) = Some false

-- each literal's value is in the table; it is free beyond it
abbrev pub AreValues : List TrailEntry → List Value → Type 0
AreValues entries values = (l : ℕ) → value_of (get_or values l value.Free) ≡ value_in (literals entries) l

-- the entry of a literal where these literals and their negations are made free
abbrev pub entry_without : List ℕ → List Value → ℕ → Value
entry_without ls values l = if has ls l || has ls (neg l) then value.Free else get_or values l value.Free

-- the table is another one where these literals and their negations are made free
pub record AreFreed (old : List Value) (ls : List ℕ) (new : List Value) : Type 0 where
  pub len : length new ≡ length old
  pub entries : (l : ℕ) → get_or new l value.Free ≡ entry_without ls old l

-- the origin of each true literal is in the table
abbrev pub AreOrigins : List TrailEntry → List Origin → Type 0
AreOrigins entries origins = (l : ℕ) (m : Origin) → IsTrue (has (literals entries) l)
    → m ≡ get_or origins (var l - 1) m → IsOrigin entries l m

-- what holds of the tables; entries and literals have room for each variable
pub record IsAssigned (entries : List TrailEntry) (lits : List ℕ) (values : List Value) (origins : List Origin) (level entries_room lits_room : ℕ) : Type 0 where
  pub each_new : AreNew (length origins) entries
  pub same : lits ≡ literals entries
  pub rows : length values ≡ 2 * length origins
  pub each_value : AreValues entries values
  pub each_origin : AreOrigins entries origins
  pub counted : level ≡ level_after entries
  pub limit : length origins ≤ max_var
  pub entries_fit : length origins ≤ entries_room
  pub lits_fit : length origins ≤ lits_room
