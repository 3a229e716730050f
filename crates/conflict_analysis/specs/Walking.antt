-- An analysis that goes down the trail.
use Rattle.std.specs.Prelude.{◌≡◌, ℕ, ◌-◌, ◌/◌, ◌<◌, ◌≤◌, Bool, true, false, not, ◌&&◌, ◌⊎◌, List, [], ◌∷◌, length, take, drop, filter, map, reverse, Contains, Some, None, IsTrue, is_some}
use Rattle.lits.specs.Literal.{neg}
use Rattle.session_rules.specs.Logic.{has, hints_fail}
use Rattle.propagation.specs.declared.TrailEntry.{TrailEntry}
use Rattle.propagation.specs.Clauses.{slot_of, active_at}
use Rattle.propagation.specs.Engine.{EngineView, IsOnce, literals, level_after, up_to_level, with_trail}
use Rattle.search_laws.specs.Asserting.{CanAssert, IsPicked, level_below}
use Rattle.search_laws.specs.Freshness.{IsFresh}
use Rattle.search_laws.specs.Analysis.{IsAnalysed}
use Rattle.conflict_analysis.specs.declared.marks.Mark.{Mark}
use Rattle.conflict_analysis.specs.Marked.{pending}

-- the slot is that of this active clause
pub record IsClauseAt (e : EngineView) (slot id : ℕ) (c : List ℕ) : Type 0 where
  pub slot_is : slot_of e.clauses id ≡ Some slot
  pub clause_is : active_at e.clauses id ≡ Some c

abbrev pub IsActive : EngineView → ℕ → Type 0
IsActive e slot = (id : ℕ) × (c : List ℕ) × IsClauseAt e slot id c

-- the trail up to the level below the present one
abbrev pub lower_trail : EngineView → List TrailEntry
lower_trail e = up_to_level (level_after e.trail - 1) e.trail

-- whether a literal that is true is of the present level
abbrev pub is_top : EngineView → ℕ → Bool
is_top e l = not (has (literals (lower_trail e)) l)

-- how many pending literals of the present level these have
abbrev pub count_top : EngineView → List Mark → List ℕ → ℕ
count_top e ms ls = length (filter (λ l. is_top e l && pending ms l) ls)

-- the clause's literals are pending or false by the first so many steps
abbrev pub IsOpen : EngineView → List Mark → ℕ → ℕ → Type 0
IsOpen e ms place slot = (id : ℕ) (c : List ℕ) → IsClauseAt e slot id c → (m : ℕ) → Contains c m → (pending ms m ≡ true) ⊎ (has (literals (take place e.trail)) (neg m) ≡ true)

-- each literal of the clause is pending
abbrev pub IsMarked : EngineView → List Mark → ℕ → Type 0
IsMarked e ms slot = (id : ℕ) (c : List ℕ) → IsClauseAt e slot id c → (m : ℕ) → Contains c m → pending ms m ≡ true

-- the variable is one of the clause's
abbrev pub IsOfClause : EngineView → ℕ → ℕ → Type 0
IsOfClause e slot x = (id : ℕ) (c : List ℕ) → IsClauseAt e slot id c → (m : ℕ) × Contains c m × (x / 2 ≡ m / 2)

-- what was pending is pending
abbrev pub IsMore : List Mark → List Mark → Type 0
IsMore old new = (l : ℕ) → pending old l ≡ true → pending new l ≡ true

-- the search for the one pending literal of the present level has come down to this place
pub record IsSearching (e : EngineView) (place : ℕ) (ms : List Mark) (hints : List ℕ) (count : ℕ) : Type 0 where
  pub within : place ≤ length e.trail
  pub room : e.vars ≤ length ms
  pub analysed : IsAnalysed e.clauses (take place e.trail) (pending ms) [] (reverse hints)
  pub count_is : count ≡ count_top e ms (literals (take place e.trail))
  pub some : 0 < count

-- behind that literal
pub record IsWalking (e : EngineView) (place : ℕ) (ms : List Mark) (lemma hints : List ℕ) : Type 0 where
  pub within : place ≤ length e.trail
  pub room : e.vars ≤ length ms
  pub analysed : IsAnalysed e.clauses (take place e.trail) (pending ms) lemma (reverse hints)
  pub picked : IsPicked (take place e.trail) (drop place e.trail) lemma
  pub lower : (l : ℕ) → has (literals (take place e.trail)) l ≡ true → pending ms l ≡ true → has (literals (lower_trail e)) l ≡ true
  pub first : ℕ
  pub rest : List ℕ
  pub lemma_is : lemma ≡ first ∷ rest
  pub first_top : has (literals (lower_trail e)) (neg first) ≡ false
  pub rest_lower : (m : ℕ) → Contains rest m → has (literals (lower_trail e)) (neg m) ≡ true

-- a lemma that may be asserted at the level to go back to, which is lower than the present one, of which no active clause is a
-- part, and hints that close
pub record IsLemma (e : EngineView) (lemma hints : List ℕ) : Type 0 where
  pub goes_back : level_below e.trail lemma < level_after e.trail
  pub asserts : CanAssert (with_trail e (up_to_level (level_below e.trail lemma) e.trail)) lemma
  pub fresh : IsFresh e lemma
  pub closes : hints_fail (active_at e.clauses) (map neg lemma) hints ≡ None
  pub no_id_twice : IsOnce hints
  pub ids_active : (id : ℕ) → IsTrue (has hints id) → IsTrue (is_some (slot_of e.clauses id))
