-- When a side's clauses are those that steps without ids leave. Inputs and lemmas give ids from 1 on. `d` and `w` name the least
-- active id of the clause's set, and `r` the least weakened one.
use Rattle.std.specs.Prelude.{◌≡◌, ◌≢◌, ℕ, zero, suc, ◌+◌, ◌≤◌, Bool, true, false, ◌&&◌, if◌then◌else◌, List, [], ◌∷◌, ◌++◌, length, filter, Contains, Option, None, Some, IsTrue, slice_get, option_map}
use Rattle.std.specs.List.{list_any, position_from}
use Rattle.std.specs.FinMap.{get}
use Rattle.lits.specs.Clause.{same_set, set_of}
use Rattle.session_rules.specs.declared.Event.TheVariants as events
use Rattle.session_rules.specs.declared.Step.{Step}
use Rattle.session_rules.specs.declared.Step.TheVariants as steps
use Rattle.session_rules.specs.declared.Standing.{Standing}
use Rattle.session_rules.specs.declared.Standing.TheVariants.{Active, Weakened, Absent}
use Rattle.session_rules.specs.Own.{is_active, is_weakened}
use Rattle.side_laws.specs.ClauseStates.{ClauseState, Clauses, kept}

-- ---- What steps leave of each id

-- a clause that a step gave, and how its id stands
pub record GivenClause : Type 0 where
  pub clause : List ℕ
  pub standing : Standing

abbrev pub standing_so : Standing → List ℕ → GivenClause
standing_so s c = record { clause = c; standing = s }

-- whether it stands so and has the set of this clause
abbrev pub is_such : (Standing → Bool) → List ℕ → GivenClause → Bool
is_such is_so c g = is_so g.standing && same_set c g.clause

-- the first that stands so and has the set of this clause stands otherwise now
unfoldable pub with_first : (Standing → Bool) → Standing → List ℕ → List GivenClause → List GivenClause
with_first is_so left c [] = []
with_first is_so left c (g ∷ gs) = let more = g ∷ with_first is_so left c gs in
    if is_such is_so c g then standing_so left g.clause ∷ gs else more

-- the clauses that were given, in the order of their ids, behind a further step
abbrev pub behind_step : List GivenClause → Step → List GivenClause
behind_step gs (steps.Event (events.Input c)) = gs ++ standing_so Active c ∷ []
behind_step gs (steps.Lemma c) = gs ++ standing_so Active c ∷ []
behind_step gs (steps.Delete c) = with_first is_active Absent c gs
behind_step gs (steps.Weaken c) = with_first is_active Weakened c gs
behind_step gs (steps.Restore c) = with_first is_weakened Active c gs
behind_step gs _ = gs

unfoldable pub behind_steps : List GivenClause → List Step → List GivenClause
behind_steps gs [] = gs
behind_steps gs (p ∷ ps) = behind_steps (behind_step gs p) ps

-- the clauses that these steps give: the first under id 1, the next under id 2, and so on
abbrev pub given_by : List Step → List GivenClause
given_by ps = behind_steps [] ps

-- the clause of an id
abbrev pub with_id : List GivenClause → ℕ → Option GivenClause
with_id gs zero = None
with_id gs (suc i) = slice_get gs i

abbrev pub standing_or_absent : Option GivenClause → Standing
standing_or_absent None = Absent
standing_or_absent (Some g) = g.standing

-- how an id stands behind these steps
abbrev pub standing_at : List Step → ℕ → Standing
standing_at ps id = standing_or_absent (with_id (given_by ps) id)

-- the clause that they give under an id
abbrev pub clause_at : List Step → ℕ → Option (List ℕ)
clause_at ps id = option_map (λ (g : GivenClause). g.clause) (with_id (given_by ps) id)

-- the id that is given next
abbrev pub next_id : List Step → ℕ
next_id ps = 1 + length (given_by ps)

-- the id that a step names behind these steps: its own, or the least one of the clause's set that is active, or weakened
abbrev pub named_id : List Step → Step → Option ℕ
named_id ps (steps.Event (events.Input c)) = Some (next_id ps)
named_id ps (steps.Lemma c) = Some (next_id ps)
named_id ps (steps.Delete c) = position_from (is_such is_active c) 1 (given_by ps)
named_id ps (steps.Weaken c) = position_from (is_such is_active c) 1 (given_by ps)
named_id ps (steps.Restore c) = position_from (is_such is_weakened c) 1 (given_by ps)
named_id ps _ = None

-- the least id whose clause stands so and has the set of this one
pub record IsLeastSuch (is_so : Standing → Bool) (ps : List Step) (c : List ℕ) (id : ℕ) : Type 0 where
  pub given : GivenClause
  pub there : with_id (given_by ps) id ≡ Some given
  pub such : IsTrue (is_such is_so c given)
  pub least : (x : ℕ) (g : GivenClause) → with_id (given_by ps) x ≡ Some g → IsTrue (is_such is_so c g) → id ≤ x

-- how a step leaves the id that it names
abbrev pub left_by : Step → Standing
left_by (steps.Delete c) = Absent
left_by (steps.Weaken c) = Weakened
left_by _ = Active

-- the step leaves this id so, and all others as they were
pub record LeavesOthers (ps : List Step) (p : Step) (id : ℕ) : Type 0 where
  pub there : standing_at (ps ++ p ∷ []) id ≡ left_by p
  pub others : (x : ℕ) → x ≢ id → with_id (given_by (ps ++ p ∷ [])) x ≡ with_id (given_by ps) x

-- how many ids stand so and have the set of a clause
abbrev pub how_many : (Standing → Bool) → List ℕ → List GivenClause → ℕ
how_many is_so c gs = length (filter (is_such is_so c) gs)

-- the clause that a step gives anew
abbrev pub new_clause : Step → Option (List ℕ)
new_clause (steps.Event (events.Input c)) = Some c
new_clause (steps.Lemma c) = Some c
new_clause _ = None

-- ---- What a side keeps

-- whether a step that takes a clause of this set, or gives one back, finds it
abbrev pub finds : List GivenClause → Step → Bool
finds gs (steps.Delete c) = list_any (is_such is_active c) gs
finds gs (steps.Weaken c) = list_any (is_such is_active c) gs
finds gs (steps.Restore c) = list_any (is_such is_weakened c) gs
finds gs _ = true

unfoldable pub all_find : List GivenClause → List Step → Bool
all_find gs [] = true
all_find gs (p ∷ ps) = let more = all_find (behind_step gs p) ps in finds gs p && more

-- what is kept of a clause that stands so
abbrev pub kept_as : Standing → List ℕ → Option ClauseState
kept_as Active c = Some (kept true (set_of c))
kept_as Weakened c = Some (kept false (set_of c))
kept_as Absent c = None

abbrev pub kept_of_given : Option GivenClause → Option ClauseState
kept_of_given None = None
kept_of_given (Some g) = kept_as g.standing g.clause

-- what is kept of an id behind these steps
abbrev pub kept_at : List Step → ℕ → Option ClauseState
kept_at ps id = kept_of_given (with_id (given_by ps) id)

-- the next id is that of the steps, and of each id is kept what they leave: whether it is active or weakened, and the set of
-- its clause; and each step found what it takes or gives back
pub record HoldsSets (m : Clauses) (next : ℕ) (ps : List Step) : Type 0 where
  pub given : next ≡ next_id ps
  pub clauses : (id : ℕ) → get m id ≡ kept_at ps id
  pub found : IsTrue (all_find [] ps)

-- the least id of which this is kept and whose set is that of the clause
pub record IsLeast (m : Clauses) (active : Bool) (c : List ℕ) (id : ℕ) (ls : List ℕ) : Type 0 where
  pub there : get m id ≡ Some (kept active ls)
  pub same : IsTrue (same_set c ls)
  pub least : (x : ℕ) (xs : List ℕ) → get m x ≡ Some (kept active xs) → IsTrue (same_set c xs) → id ≤ x

-- each clause of the first has the set of one of the second
abbrev pub SetsAmong : List (List ℕ) → List (List ℕ) → Type 0
SetsAmong cs ds = (c : List ℕ) → Contains cs c → (d : List ℕ) × Contains ds d × IsTrue (same_set c d)

-- the clauses are those that are kept as active
pub record AreActive (m : Clauses) (cs : List (List ℕ)) : Type 0 where
  pub sound : (c : List ℕ) → Contains cs c → (id : ℕ) × (get m id ≡ Some (kept true c))
  pub whole : (id : ℕ) (c : List ℕ) → get m id ≡ Some (kept true c) → Contains cs c
