-- What callers see of an engine: its clauses, its trail and its greatest reserved variable.
use Rattle.std.specs.Prelude.{nat_eq, ◌≡◌, ◌≢◌, ℕ, zero, suc, ◌+◌, ◌<◌, ◌≤◌, Bool, true, false, List, [], ◌∷◌, ◌++◌, length, map, filter, find, position, Contains, Option, None, Some, IsTrue, is_none, is_some, if◌then◌else◌, option_and_then, refl}
use Rattle.std.specs.FinMap as finmap
use Rattle.std.specs.Coded.{Coded, code_by, coded×, coded_list, coded_option, coded_ℕ}
use Rattle.lits.specs.Literal.{max_var, var, neg}
use Rattle.session_rules.specs.Logic.{has, is_falsified, is_unit}
use Rattle.propagation.specs.declared.TrailEntry.{TrailEntry}
use Rattle.lits.specs.Clause.{set_of}
pub use Rattle.clause_store.specs.Clauses.{IsOnce}
use Rattle.propagation.specs.Clauses.{Clause, Clauses, clause_code, slot_of, active_at, literals_at, is_weakened}

-- an engine
pub record EngineView : Type 0 where
  pub clauses : Clauses
  -- the true literals, oldest first, each with the slot of its reason, or none where it was assumed
  pub trail : List TrailEntry
  pub vars : ℕ

-- an entry is stored as its parts
abbrev pub entry_code : Coded TrailEntry
entry_code = code_by (ℕ × Option ℕ) (coded× coded_ℕ (coded_option coded_ℕ)) (λ s. (s.lit, s.reason)) (λ p. record { lit = p.0; reason = p.1 }) (λ _. refl)

-- an engine is stored as its parts
abbrev pub engine_code : Coded EngineView
engine_code = code_by (Clauses × (List TrailEntry × ℕ)) (coded× (finmap.code coded_ℕ clause_code) (coded× (coded_list entry_code) coded_ℕ)) (λ e. (e.clauses, (e.trail, e.vars))) (λ p. record { clauses = p.0; trail = p.1.0; vars = p.1.1 }) (λ _. refl)

-- the literals of a trail
abbrev pub literals : List TrailEntry → List ℕ
literals ss = map (λ s. s.lit) ss

-- whether an entry was assumed
abbrev pub is_assumed : TrailEntry → Bool
is_assumed s = is_none s.reason

-- how many of them were assumed: the level that is reached
abbrev pub level_after : List TrailEntry → ℕ
level_after ss = length (filter is_assumed ss)

-- the value of a literal
abbrev pub value_in : List ℕ → ℕ → Option Bool
value_in trues l = if has trues l then Some true else (if has trues (neg l) then Some false else None)

-- the place of a literal among the true ones, counted from 0, or none
abbrev pub place_in : List ℕ → ℕ → Option ℕ
place_in trues l = position (nat_eq l) trues

-- the first literal came on the trail before the second
pub record CameBefore (trues : List ℕ) (one two : ℕ) : Type 0 where
  pub place_one : ℕ
  pub place_two : ℕ
  pub at_one : place_in trues one ≡ Some place_one
  pub at_two : place_in trues two ≡ Some place_two
  pub order : place_one < place_two

-- neither the literal nor its negation is true
abbrev pub IsFree : List ℕ → ℕ → Type 0
IsFree trues l = (has trues l ≡ false) × (has trues (neg l) ≡ false)

-- the slot is that of an active clause that has the literal and whose other literals are false
abbrev pub IsReason : Clauses → List ℕ → ℕ → ℕ → Type 0
IsReason m trues l s = (id : ℕ) × (c : List ℕ) × (slot_of m id ≡ Some s) × (active_at m id ≡ Some c)
    × IsTrue (is_unit trues c l)

-- what holds of a literal when it comes on the trail behind these
pub record IsEntry (m : Clauses) (vars : ℕ) (before : List TrailEntry) (s : TrailEntry) : Type 0 where
  pub reserved : var s.lit ≤ vars
  pub free : IsFree (literals before) s.lit
  pub reason : (r : ℕ) → s.reason ≡ Some r → IsReason m (literals before) s.lit r

-- what holds of every engine
pub record IsEngine (e : EngineView) : Type 0 where
  pub entries : (before after : List TrailEntry) (s : TrailEntry) → e.trail ≡ before ++ s ∷ after
      → IsEntry e.clauses e.vars before s
  -- two active clauses have different slots
  pub slots_apart : (a b s : ℕ) → slot_of e.clauses a ≡ Some s → slot_of e.clauses b ≡ Some s → a ≡ b
  -- and the variables of each clause, active or weakened, are reserved
  pub clauses_reserved : (id l : ℕ) (c : Clause) → finmap.get e.clauses id ≡ Some c → Contains c.literals l → var l ≤ e.vars
  pub vars_limit : e.vars ≤ max_var

-- the slot is that of an active clause that is false under these true literals
abbrev pub IsFalseUnder : Clauses → List ℕ → ℕ → Type 0
IsFalseUnder m trues s = (id : ℕ) × (c : List ℕ) × (slot_of m id ≡ Some s) × (active_at m id ≡ Some c)
    × IsTrue (is_falsified trues c)

-- the slot is that of an active clause that is false
abbrev pub IsFalseAt : EngineView → ℕ → Type 0
IsFalseAt e s = IsFalseUnder e.clauses (literals e.trail) s

-- of the clause nothing follows: it isn't false, and its literals aren't all false but for one that is free
pub record IsQuiet (trues c : List ℕ) : Type 0 where
  pub not_false : is_falsified trues c ≡ false
  pub not_unit : (l : ℕ) → IsTrue (is_unit trues c l) → IsFree trues l → ⊥

-- of no active clause anything follows
abbrev pub IsPropagated : EngineView → Type 0
IsPropagated e = (id : ℕ) (c : List ℕ) → active_at e.clauses id ≡ Some c → IsQuiet (literals e.trail) c

-- the engine with one more entry
abbrev pub with_entry : EngineView → ℕ → Option ℕ → EngineView
with_entry e l r = record { clauses = e.clauses; trail = e.trail ++ record { lit = l; reason = r } ∷ []; vars = e.vars }

-- the engine with this trail
abbrev pub with_trail : EngineView → List TrailEntry → EngineView
with_trail e ss = record { clauses = e.clauses; trail = ss; vars = e.vars }

-- the trail has grown at its end by literals with reasons, and nothing else has changed
abbrev pub Grows : EngineView → EngineView → Type 0
Grows old new = (added : List TrailEntry) × (new ≡ with_trail old (old.trail ++ added)) × (level_after added ≡ 0)

-- an entry that begins a level, and what is kept behind it
abbrev pub up_to_next : ℕ → TrailEntry → (ℕ → List TrailEntry) → List TrailEntry
up_to_next zero s rest = []
up_to_next (suc n) s rest = s ∷ rest n

-- the trail with the literals up to this level alone: it ends before the assumption that begins the next
unfoldable pub up_to_level : ℕ → List TrailEntry → List TrailEntry
up_to_level n [] = []
up_to_level n (s ∷ ss) = if is_assumed s then up_to_next n s (λ k. up_to_level k ss) else s ∷ up_to_level n ss

-- the engine with these clauses
abbrev pub with_clauses : EngineView → Clauses → EngineView
with_clauses e m = record { clauses = m; trail = e.trail; vars = e.vars }

-- the engine with this greatest reserved variable
abbrev pub with_vars : EngineView → ℕ → EngineView
with_vars e n = record { clauses = e.clauses; trail = e.trail; vars = n }

-- no clause, no literal, no variable
abbrev pub no_engine : EngineView
no_engine = record { clauses = finmap.empty; trail = []; vars = 0 }

-- an active clause of these literals
abbrev pub added_clause : List ℕ → ℕ → Clause
added_clause ls s = record { literals = set_of ls; slot = Some s }

-- a weakened clause of this set
abbrev pub weakened_clause : List ℕ → Clause
weakened_clause set = record { literals = set; slot = None }

-- the engine with an active clause of these literals at this slot
abbrev pub with_added : EngineView → ℕ → List ℕ → ℕ → EngineView
with_added e id ls s = with_clauses e (finmap.insert e.clauses id (added_clause ls s))

-- the engine without the clause of this id
abbrev pub without_clause : EngineView → ℕ → EngineView
without_clause e id = with_clauses e (finmap.remove e.clauses id)

-- the engine with the clause of this id weakened
abbrev pub with_weakened : EngineView → ℕ → EngineView
with_weakened e id = with_clauses e (finmap.insert e.clauses id (weakened_clause (literals_at e.clauses id)))

-- whether the id is that of a clause, of an active one, of a weakened one
abbrev pub has_clause : EngineView → ℕ → Bool
has_clause e id = finmap.contains_key e.clauses id

abbrev pub has_active : EngineView → ℕ → Bool
has_active e id = is_some (slot_of e.clauses id)

abbrev pub has_weakened : EngineView → ℕ → Bool
has_weakened e id = is_weakened e.clauses id

-- no active clause has the slot
abbrev pub IsFreshSlot : EngineView → ℕ → Type 0
IsFreshSlot e s = (x : ℕ) → slot_of e.clauses x ≢ Some s

-- the literals' variables are reserved
abbrev pub HasRoomFor : EngineView → List ℕ → Type 0
HasRoomFor e ls = (l : ℕ) → Contains ls l → var l ≤ e.vars

-- each of the literals is false
abbrev pub AreFalse : EngineView → List ℕ → Type 0
AreFalse e ls = (l : ℕ) → Contains ls l → IsTrue (has (literals e.trail) (neg l))

-- the negations of these literals came on the trail before that of this one
abbrev pub FellBefore : EngineView → List ℕ → ℕ → Type 0
FellBefore e ls last = (l : ℕ) → Contains ls l → CameBefore (literals e.trail) (neg l) (neg last)

-- the id is that of an active clause of this literal alone
abbrev pub IsUnitClause : EngineView → ℕ → ℕ → Type 0
IsUnitClause e id l = active_at e.clauses id ≡ Some (l ∷ [])

-- the weakened clause is active again, at a slot that no active clause had
pub record IsRestored (old : EngineView) (id : ℕ) (new : EngineView) : Type 0 where
  pub slot : ℕ
  pub fresh : (x : ℕ) → slot_of old.clauses x ≢ Some slot
  pub changed : new ≡ with_clauses old (finmap.insert old.clauses id
      (record { literals = literals_at old.clauses id; slot = Some slot }))

-- the reason of a true literal, or none
abbrev pub reason_in : List TrailEntry → ℕ → Option ℕ
reason_in ss l = option_and_then (λ s. s.reason) (find (λ s. nat_eq s.lit l) ss)

-- the clause is a literal's reason
abbrev pub IsSomeReason : EngineView → ℕ → Type 0
IsSomeReason e id = (s : TrailEntry) × (r : ℕ) × Contains e.trail s × (s.reason ≡ Some r) × (slot_of e.clauses id ≡ Some r)

-- the clause is no literal's reason
abbrev pub IsNoReason : EngineView → ℕ → Type 0
IsNoReason e id = (s : TrailEntry) (r : ℕ) → Contains e.trail s → s.reason ≡ Some r → slot_of e.clauses id ≡ Some r → ⊥

-- the clause is this literal's reason
abbrev pub IsReasonOf : EngineView → ℕ → ℕ → Type 0
IsReasonOf e id l = (r : ℕ) × (slot_of e.clauses id ≡ Some r) × (reason_in e.trail l ≡ Some r)

-- the slot is that of another active clause, which is of this literal alone
abbrev pub IsOtherUnit : EngineView → ℕ → ℕ → ℕ → Type 0
IsOtherUnit e id l s = (x : ℕ) × (x ≢ id) × (slot_of e.clauses x ≡ Some s) × IsUnitClause e x l

-- the level at which the literal or its negation came on the trail, where so many are assumed before
unfoldable pub level_behind : ℕ → List TrailEntry → ℕ → Option ℕ
level_behind n [] l = None
level_behind n (s ∷ ss) l = let m = (if is_assumed s then n + 1 else n) in
    if nat_eq (var s.lit) (var l) then Some m else level_behind m ss l

-- the ids name the reasons of these literals, in their order
abbrev pub reason_named : Clauses → Option ℕ → (List ℕ → Type 0) → List ℕ → Type 0
reason_named m None rest ids = rest ids
reason_named m (Some r) rest ids = (id : ℕ) × (more : List ℕ) × (ids ≡ id ∷ more) × (slot_of m id ≡ Some r) × rest more

-- the ids name the reasons along a trail
abbrev pub ReasonsAre : Clauses → List TrailEntry → List ℕ → Type 0
ReasonsAre m [] ids = ids ≡ []
ReasonsAre m (s ∷ ss) ids = reason_named m s.reason (ReasonsAre m ss) ids

-- the assumed literals of a trail are among these
abbrev pub AssumesFrom : List TrailEntry → List ℕ → Type 0
AssumesFrom ss ls = (before after : List TrailEntry) (s : TrailEntry) → ss ≡ before ++ s ∷ after → s.reason ≡ None
    → IsTrue (has ls s.lit)
