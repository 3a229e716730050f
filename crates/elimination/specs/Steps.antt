-- Steps that a call tells its log, and what they make of the clauses.
use Rattle.std.specs.Prelude.{◌≡◌, ℕ, ◌+◌, Bool, true, false, nat_eq, if◌then◌else◌, List, [], ◌∷◌, map, Contains, Option, None, Some, is_some, option_map, option_and_then, ⊤}
use Rattle.std.specs.FinMap as finmap
use Rattle.lits.specs.Clause.{set_of}
use Rattle.lits.specs.Literal.{neg}
use Rattle.session_rules.specs.Logic.{hints_fail}
use Rattle.session_rules.specs.declared.Told.{Told}
use Rattle.session_rules.specs.declared.Told.TheVariants as told
use Rattle.session_rules.specs.declared.Step.{Step}
use Rattle.session_rules.specs.Telling.{step_of}
use Rattle.propagation.specs.Clauses.{Clauses, Clause}
use Rattle.propagation.specs.Engine.{IsOnce}

-- each step is taken, one after another, from the first log to the last
abbrev pub TakesEach : {L : Type 0} → (L → Told → L → Type 0) → L → List Told → L → Type 0
TakesEach takes before [] after = before ≡ after
TakesEach {L} takes before (t ∷ ts) after = (mid : L) × takes before t mid × TakesEach takes mid ts after

-- the steps without ids
abbrev pub steps_of : List Told → List Step
steps_of ts = map step_of ts

-- ---- Clauses by id

-- a clause: its literal set, and whether it is active
pub record Standing : Type 0 where
  pub literals : List ℕ
  pub active : Bool

abbrev pub standing_of : Clause → Standing
standing_of c = record { literals = c.literals; active = is_some c.slot }

-- the clauses of an engine
abbrev pub standing : Clauses → ℕ → Option Standing
standing m id = option_map standing_of (finmap.get m id)

-- the set of an active clause
abbrev pub if_active : Standing → Option (List ℕ)
if_active s = if s.active then Some (s.literals) else None

abbrev pub active_in : (ℕ → Option Standing) → ℕ → Option (List ℕ)
active_in f id = option_and_then if_active (f id)

-- the set of a weakened clause
abbrev pub if_weakened : Standing → Option (List ℕ)
if_weakened s = if s.active then None else Some (s.literals)

abbrev pub weakened_in : (ℕ → Option Standing) → ℕ → Option (List ℕ)
weakened_in f id = option_and_then if_weakened (f id)

-- clauses with another one at an id
abbrev pub with_at : (ℕ → Option Standing) → ℕ → Option Standing → ℕ → Option Standing
with_at f id s x = if nat_eq x id then s else f x

-- the clauses after a step
abbrev pub after_step : (ℕ → Option Standing) → Told → ℕ → Option Standing
after_step f (told.Lemma id ls hints) = with_at f id (Some (record { literals = set_of ls; active = true }))
after_step f (told.Delete id ls) = with_at f id None
after_step f (told.Weaken id ls) = with_at f id (Some (record { literals = set_of ls; active = false }))
after_step f (told.Restore id ls) = with_at f id (Some (record { literals = set_of ls; active = true }))

-- the clauses after steps
abbrev pub after_steps : (ℕ → Option Standing) → List Told → ℕ → Option Standing
after_steps f [] = f
after_steps f (t ∷ ts) = after_steps (after_step f t) ts

-- a step may be told of clauses: a lemma has a new id, and hints that name active clauses, none twice, and close it; what is
-- deleted or weakened is active, and what is restored is weakened, with these literals, none twice
abbrev pub IsDue : (ℕ → Option Standing) → Told → Type 0
IsDue f (told.Lemma id ls hints) = (f id ≡ None) × IsOnce ls × IsOnce hints
    × ((h : ℕ) → Contains hints h → (c : List ℕ) × (active_in f h ≡ Some c)) × (hints_fail (active_in f) (map neg ls) hints ≡ None)
IsDue f (told.Delete id ls) = IsOnce ls × (active_in f id ≡ Some (set_of ls))
IsDue f (told.Weaken id ls) = IsOnce ls × (active_in f id ≡ Some (set_of ls))
IsDue f (told.Restore id ls) = IsOnce ls × (weakened_in f id ≡ Some (set_of ls))

abbrev pub AreDue : (ℕ → Option Standing) → List Told → Type 0
AreDue f [] = ⊤
AreDue f (t ∷ ts) = IsDue f t × AreDue (after_step f t) ts

-- ---- Ids of lemmas

-- the next id after a step: a lemma takes it
abbrev pub next_after : ℕ → Told → ℕ
next_after n (told.Lemma id ls hints) = n + 1
next_after n _ = n

-- each lemma takes the next id, and so it rises from the first to the last
abbrev pub NumbersLemmas : ℕ → List Told → ℕ → Type 0
NumbersLemmas n [] m = n ≡ m
NumbersLemmas n (told.Lemma id ls hints ∷ ts) m = (id ≡ n) × NumbersLemmas (n + 1) ts m
NumbersLemmas n (t ∷ ts) m = NumbersLemmas n ts m
