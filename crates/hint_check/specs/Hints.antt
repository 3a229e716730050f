-- What a run of the hint rule sees of the store, and how it ends.
use Rattle.std.specs.Prelude.{◌≡◌, ℕ, ◌<◌, List, Option, Some, None, is_some, option_and_then, if◌then◌else◌, Contains}
use Rattle.std.specs.FinMap as finmap
use Rattle.lits.specs.Literal.{neg}
use Rattle.clause_store.specs.Clauses.{Store, ClauseEntry}
use Rattle.hint_check.specs.declared.HintEnd.{HintEnd}
use Rattle.hint_check.specs.declared.HintEnd.TheVariants as ends
use Rattle.session_rules.specs.declared.Left.{Left}
use Rattle.session_rules.specs.declared.Left.TheVariants as lefts

-- the literal set of a clause if it is active
abbrev pub if_active : ClauseEntry → Option (List ℕ)
if_active h = if is_some h.place then Some h.literals else None

-- the literal set of the active clause of an id
abbrev pub active_at : Store → ℕ → Option (List ℕ)
active_at m id = option_and_then if_active (finmap.get m id)

-- the end that the place of a failure tells
abbrev pub end_of : Option ℕ → HintEnd
end_of None = ends.Closed
end_of (Some p) = ends.Fails p

-- a literal that has been met, if there is one, as what is left
abbrev pub met_seen : Option ℕ → Left
met_seen None = lefts.Falsified
met_seen (Some l) = lefts.UnitLiteral l

-- the literals of the store's clauses have rows in the table
abbrev pub AreWithin : Store → ℕ → Type 0
AreWithin m n = (id l : ℕ) (h : ClauseEntry) → finmap.get m id ≡ Some h → Contains h.literals l → (l < n) × (neg l < n)

-- the one literal that is left is one of these
abbrev pub IsLeftOf : Left → List ℕ → Type 0
IsLeftOf (lefts.Falsified) ls = Unit {0}
IsLeftOf (lefts.UnitLiteral l) ls = Contains ls l
IsLeftOf (lefts.Open) ls = Unit {0}

-- the literal that has been met is one of these
abbrev pub IsMetIn : Option ℕ → List ℕ → Type 0
IsMetIn None ls = Unit {0}
IsMetIn (Some l) ls = Contains ls l
