-- What propagation by watches keeps: of each active clause that was looked at a literal is true, or the first two of its
-- list aren't the negations of literals that have been propagated.
use Rattle.std.specs.Prelude.{◌≡◌, ◌≢◌, ℕ, ◌-◌, ◌<◌, ◌≤◌, ◌⊎◌, true, false, List, ◌++◌, length, take, slice_index, Option, None, Some}
use Rattle.lits.specs.Literal.{neg}
use Rattle.session_rules.specs.Logic.{has}
use Rattle.clause_store.specs.Clauses.{Store, slot_at, lits_at}
use Rattle.watch_lists.specs.Watch.{WatchView}
use Rattle.watch_lists.specs.Watched.{Watched, entry_at, watch_at, watch_place}
use Rattle.propagation.specs.declared.TrailEntry.{TrailEntry}
use Rattle.propagation.specs.declared.Consequence.{Consequence}
use Rattle.propagation.specs.declared.Consequence.TheVariants as follows
use Rattle.propagation.specs.Clauses.{clauses_of}
use Rattle.propagation.specs.Engine.{EngineView, literals, level_after, IsFree, IsReason, IsFalseUnder, IsEngine}
use Rattle.propagation.specs.Assigned.{Assigned}

-- the clauses, the trail and the variables as callers see them
abbrev pub engine_of : Store → List TrailEntry → ℕ → EngineView
engine_of m ss n = record { clauses = clauses_of m; trail = ss; vars = n }

abbrev pub engine_in : Watched → Assigned → EngineView
engine_in w a = engine_of w.clauses a.entries a.vars

-- the list of the clause at a slot
abbrev pub AtSlot : Store → ℕ → (List ℕ → Type 0) → Type 0
AtSlot m s P = (id : ℕ) → slot_at m id ≡ Some s → P (lits_at m id)

-- ---- One clause

-- one of its literals is true
abbrev pub IsSatisfied : List ℕ → List ℕ → Type 0
IsSatisfied trues ls = (x : ℕ) × (has ls x ≡ true) × (has trues x ≡ true)

-- it has two literals or more, and the first two aren't false
pub record HasTwo (trues ls : List ℕ) : Type 0 where
  pub long : 2 ≤ length ls
  pub one : has trues (neg (slice_index ls 0)) ≡ false
  pub two : has trues (neg (slice_index ls 1)) ≡ false

-- one of its literals is true, or the first two weren't made false by the first so many true literals
abbrev pub IsCovered : List ℕ → ℕ → List ℕ → Type 0
IsCovered trues h ls = IsSatisfied trues ls ⊎ HasTwo (take h trues) ls

-- the next place from this one on whose literal isn't false
abbrev pub IsNextFree : List ℕ → List ℕ → ℕ → Option ℕ → Type 0
IsNextFree trues ls n None = (k : ℕ) → n ≤ k → k < length ls → has trues (neg (slice_index ls k)) ≡ true
IsNextFree trues ls n (Some j) = (n ≤ j) × (j < length ls) × (has trues (neg (slice_index ls j)) ≡ false)
    × ((k : ℕ) → n ≤ k → k < j → has trues (neg (slice_index ls k)) ≡ true)

-- ---- All clauses

-- each active clause is one of these that are still to be looked at, or is covered
abbrev pub IsReady : Store → List ℕ → ℕ → List ℕ → Type 0
IsReady m trues h ids = (id s : ℕ) → slot_at m id ≡ Some s → (has ids id ≡ true) ⊎ IsCovered trues h (lits_at m id)

-- orders of lists have changed, and each clause that was covered at a beginning of the trail is still covered there
pub record IsMoved (trues : List ℕ) (m n : Store) : Type 0 where
  pub slots : (id : ℕ) → slot_at n id ≡ slot_at m id
  pub seen : clauses_of n ≡ clauses_of m
  pub members : (id x : ℕ) → has (lits_at n id) x ≡ has (lits_at m id) x
  pub kept : (id h : ℕ) (ts : List ℕ) → ((x : ℕ) → has ts x ≡ true → has trues x ≡ true)
      → IsCovered ts h (lits_at m id) → IsCovered ts h (lits_at n id)

-- ---- A change of one clause's order

-- the order of one list has changed, that of an active clause
pub record IsReordered (id : ℕ) (old new : Watched) : Type 0 where
  pub slots : (q : ℕ) → slot_at new.clauses q ≡ slot_at old.clauses q
  pub seen : clauses_of new.clauses ≡ clauses_of old.clauses
  pub members : (q x : ℕ) → has (lits_at new.clauses q) x ≡ has (lits_at old.clauses q) x
  pub others : (q : ℕ) → q ≢ id → lits_at new.clauses q ≡ lits_at old.clauses q
  pub long : (q : ℕ) → length (lits_at new.clauses q) ≡ length (lits_at old.clauses q)
  pub wide : length new.lists ≡ length old.lists

-- the literal at a place is now at one of the first two places, and the others are where they were
pub record IsBrought (id place k : ℕ) (old new : Watched) : Type 0 where
  pub order : IsReordered id old new
  pub here : slice_index (lits_at new.clauses id) place ≡ slice_index (lits_at old.clauses id) k
  pub others : (j : ℕ) → j ≢ place → j ≢ k → slice_index (lits_at new.clauses id) j ≡ slice_index (lits_at old.clauses id) j

-- the first two of a list are these
abbrev pub AreFirst : List ℕ → ℕ → ℕ → Type 0
AreFirst ls a b = (slice_index ls 0 ≡ a) × (slice_index ls 1 ≡ b)

-- the literals at two places are now the first two, in one order or the other
pub record IsPair (id i j : ℕ) (old new : Watched) : Type 0 where
  pub order : IsReordered id old new
  pub first_two : AreFirst (lits_at new.clauses id) (slice_index (lits_at old.clauses id) i) (slice_index (lits_at old.clauses id) j)
      ⊎ AreFirst (lits_at new.clauses id) (slice_index (lits_at old.clauses id) j) (slice_index (lits_at old.clauses id) i)

-- what looking at a clause told
abbrev pub IsConsequence : List ℕ → Watched → Watched → ℕ → Consequence → Type 0
IsConsequence trues old new s (follows.False) = (new ≡ old) × IsFalseUnder (clauses_of old.clauses) trues s
IsConsequence trues old new s (follows.Unit l) = (new ≡ old) × IsReason (clauses_of old.clauses) trues l s × IsFree trues l
    × AtSlot old.clauses s (λ ls. has ls l ≡ true)
IsConsequence trues old new s (follows.Quiet) = AtSlot new.clauses s (λ ls. IsSatisfied trues ls ⊎ HasTwo trues ls)

-- ---- The entries of a list

-- the last entry before this place whose blocker isn't true
abbrev pub IsLastOpen : List ℕ → List WatchView → ℕ → Option ℕ → Type 0
IsLastOpen trues es n None = (k : ℕ) → k < n → has trues (entry_at es k).blocker ≡ true
IsLastOpen trues es n (Some i) = (i < n) × (has trues (entry_at es i).blocker ≡ false)
    × ((k : ℕ) → i < k → k < n → has trues (entry_at es k).blocker ≡ true)

-- the literal at one of the first two places was exchanged for one that isn't false, and the other of the two stays
pub record IsRewatched (trues old new : List ℕ) (place : ℕ) : Type 0 where
  pub long : 2 ≤ length new
  pub free : has trues (neg (slice_index new place)) ≡ false
  pub other : slice_index new (1 - place) ≡ slice_index old (1 - place)

-- a clause whose literal at one of the first two places is false needs no further look: one of its literals is true now, or it
-- watches another in place of the false one
abbrev pub IsPassed : List ℕ → List ℕ → List ℕ → List ℕ → ℕ → Type 0
IsPassed before trues old new place = IsSatisfied trues new ⊎ IsRewatched before old new place

-- the clause of an entry at a place of a literal's list needs no further look
abbrev pub IsVisited : Assigned → Assigned → Watched → Watched → ℕ → ℕ → Type 0
IsVisited before after old new w i = (id : ℕ) → slot_at old.clauses id ≡ Some (watch_at old w i).slot
    → IsPassed (literals before.entries) (literals after.entries) (lits_at old.clauses id) (lits_at new.clauses id) (watch_place (lits_at old.clauses id) w)

-- ---- Steps of a propagation

-- one of its literals is true now, or its first two weren't false before
abbrev pub IsDone : List ℕ → List ℕ → List ℕ → Type 0
IsDone before trues ls = IsSatisfied trues ls ⊎ HasTwo before ls

-- a clause of two literals or more that needs no look
abbrev pub NeedsNoVisit : List ℕ → List ℕ → Type 0
NeedsNoVisit trues ls = (2 ≤ length ls) × (IsSatisfied trues ls ⊎ HasTwo trues ls)

-- orders of lists have changed, and literals that follow have come on the trail
pub record Advances (old new : Watched) (before after : Assigned) : Type 0 where
  pub moved : IsMoved (literals before.entries) old.clauses new.clauses
  pub more : List TrailEntry
  pub grown : after.entries ≡ before.entries ++ more
  pub forced : level_after more ≡ 0
  pub vars : after.vars ≡ before.vars
  pub wide : length new.lists ≡ length old.lists
  pub engine : IsEngine (engine_of new.clauses after.entries after.vars)
