-- Cores: the assumed literals of which a false clause, or a false assumption, follows.
use Rattle.std.specs.Prelude.{◌≡◌, ⊤, ℕ, ◌≤◌, true, false, ◌⊎◌, List, [], ◌∷◌, length, take, map, reverse, Contains, None, Some, IsTrue, is_some}
use Rattle.lits.specs.Literal.{neg}
use Rattle.session_rules.specs.Logic.{has, hints_fail}
use Rattle.propagation.specs.Clauses.{slot_of, active_at}
use Rattle.propagation.specs.Engine.{EngineView, IsOnce, IsReasonOf, literals, reason_in}
use Rattle.search_laws.specs.Analysis.{IsAnalysed}
use Rattle.conflict_analysis.specs.declared.marks.Mark.{Mark}
use Rattle.conflict_analysis.specs.Marked.{pending}

-- the literal is on the trail and has no reason
abbrev pub IsAssumed : EngineView → ℕ → Type 0
IsAssumed e l = (has (literals e.trail) l ≡ true) × (reason_in e.trail l ≡ None)

-- a clause of these hints has the literal's negation
abbrev pub IsWanted : EngineView → List ℕ → ℕ → Type 0
IsWanted e hints l = (id : ℕ) × (c : List ℕ) × (has hints id ≡ true) × (active_at e.clauses id ≡ Some c) × Contains c (neg l)

-- the clause is the reason of a literal whose negation one of the hints behind it has
abbrev pub IsNeededBy : EngineView → ℕ → List ℕ → Type 0
IsNeededBy e id hints = (l : ℕ) × IsReasonOf e id l × IsWanted e hints l

-- so is each of the hints but the last
abbrev pub AreNeeded : EngineView → List ℕ → Type 0
AreNeeded e [] = ⊤
AreNeeded e (id ∷ []) = ⊤
AreNeeded e (id ∷ next ∷ hints) = IsNeededBy e id (next ∷ hints) × AreNeeded e (next ∷ hints)

-- an analysis that replaces each pending literal that has a reason has come down to this place; the given literals are its core's
-- from the beginning
pub record IsTracing (e : EngineView) (place : ℕ) (ms : List Mark) (given core hints : List ℕ) : Type 0 where
  pub within : place ≤ length e.trail
  pub room : e.vars ≤ length ms
  pub analysed : IsAnalysed e.clauses (take place e.trail) (pending ms) (map neg core) (reverse hints)
  pub assumed : (l : ℕ) → Contains core l → Contains given l ⊎ IsAssumed e l
  pub once : IsOnce core
  pub later : (l : ℕ) → Contains core l → has (literals (take place e.trail)) l ≡ false
  pub wanted : (l : ℕ) → has (literals (take place e.trail)) l ≡ true → pending ms l ≡ true → IsWanted e (reverse hints) l
  pub needed : AreNeeded e (reverse hints)

-- The literals are given or were assumed, each once, and the hints close from each list that has them, name no id twice, active
-- clauses alone, and none but the last that isn't needed.
pub record IsCore (e : EngineView) (given core hints : List ℕ) : Type 0 where
  pub assumed : (l : ℕ) → Contains core l → Contains given l ⊎ IsAssumed e l
  pub once : IsOnce core
  pub closes : (ls : List ℕ) → ((l : ℕ) → Contains core l → Contains ls l) → hints_fail (active_at e.clauses) ls hints ≡ None
  pub no_id_twice : IsOnce hints
  pub needed : AreNeeded e hints
  pub ids_active : (id : ℕ) → IsTrue (has hints id) → IsTrue (is_some (slot_of e.clauses id))
