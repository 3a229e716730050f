-- What a proof's steps so far make active, and the rules that a step breaks by itself.
use Rattle.std.specs.Prelude.{ℕ, ◌+◌, ◌-◌, Bool, true, false, nat_eq, nat_lt, if◌then◌else◌, List, [], ◌∷◌, ◌++◌, map, filter, flat_map, count_by, Option, Some, None, filter_map}
use Rattle.session_rules.specs.declared.Event.{Event}
use Rattle.session_rules.specs.declared.Event.TheVariants as events
use Rattle.session_rules.specs.declared.Step.{Step}
use Rattle.session_rules.specs.declared.Step.TheVariants as steps
use Rattle.session_rules.specs.declared.LStep.{LStep}
use Rattle.session_rules.specs.declared.LStep.TheVariants as lsteps
use Rattle.session_rules.specs.declared.Rule.{Rule}
use Rattle.session_rules.specs.declared.Rule.TheVariants as rules
use Rattle.session_rules.specs.declared.Standing.{Standing}
use Rattle.session_rules.specs.declared.Standing.TheVariants.{Active, Weakened, Absent}
use Rattle.lits.specs.Literal.{neg}
use Rattle.session_rules.specs.Logic.{same_set, closes, hints_fail}
use Rattle.session_rules.specs.History.{last, order_faults, model_faults, core_faults, broken_at, broken_unless}

-- ---- Without ids: clauses are counted by their sets

-- the event of a step
abbrev pub event_of : Step → Option Event
event_of (steps.Event e) = Some e
event_of _ = None

-- the clause that a step makes active
abbrev pub added_clause : Step → Option (List ℕ)
added_clause (steps.Event (events.Input c)) = Some c
added_clause (steps.Lemma c) = Some c
added_clause (steps.Restore c) = Some c
added_clause _ = None

-- the clause that a step takes from the active ones
abbrev pub removed_clause : Step → Option (List ℕ)
removed_clause (steps.Delete c) = Some c
removed_clause (steps.Weaken c) = Some c
removed_clause _ = None

abbrev pub weakened_clause : Step → Option (List ℕ)
weakened_clause (steps.Weaken c) = Some c
weakened_clause _ = None

abbrev pub restored_clause : Step → Option (List ℕ)
restored_clause (steps.Restore c) = Some c
restored_clause _ = None

-- how many of the clauses that steps give have this set
abbrev pub copies : (Step → Option (List ℕ)) → List Step → List ℕ → ℕ
copies given ps c = count_by (same_set c) (filter_map given ps)

-- how many copies of a clause are active, and how many are weakened
abbrev pub active_copies : List Step → List ℕ → ℕ
active_copies ps c = copies added_clause ps c - copies removed_clause ps c

abbrev pub weakened_copies : List Step → List ℕ → ℕ
weakened_copies ps c = copies weakened_clause ps c - copies restored_clause ps c

-- the clauses with an active copy
abbrev pub active_clauses : List Step → List (List ℕ)
active_clauses ps = filter (λ c. nat_lt 0 (active_copies ps c)) (filter_map added_clause ps)

-- the events among steps
abbrev pub events_of : List Step → List Event
events_of ps = filter_map event_of ps

-- the rules that an event breaks behind these steps
abbrev pub event_faults : List Step → Event → List Rule
event_faults ps (events.Input c) = order_faults (events_of ps) (events.Input c)
event_faults ps (events.Query c) = order_faults (events_of ps) (events.Query c)
event_faults ps (events.Status s) = order_faults (events_of ps) (events.Status s)
event_faults ps (events.Model m) = order_faults (events_of ps) (events.Model m) ++ model_faults (events_of ps) m
event_faults ps (events.Core u) = order_faults (events_of ps) (events.Core u) ++ core_faults (events_of ps) u
    ++ broken_unless (closes (active_clauses ps) u) rules.CoreOpen
event_faults ps (events.Values c) = order_faults (events_of ps) (events.Values c)
event_faults ps (events.Failed c) = order_faults (events_of ps) (events.Failed c)

-- the rules that a step breaks behind these steps, in the order of their numbers
unfoldable pub own_faults : List Step → Step → List Rule
own_faults ps (steps.Event e) = event_faults ps e
own_faults ps (steps.Lemma c) = broken_unless (closes (active_clauses ps) (map neg c)) rules.Lemma
own_faults ps (steps.Delete c) = broken_unless (nat_lt 0 (active_copies ps c)) (rules.NotActive 1)
own_faults ps (steps.Weaken c) = broken_unless (nat_lt 0 (active_copies ps c)) (rules.NotActive 1)
own_faults ps (steps.Restore c) = broken_unless (nat_lt 0 (weakened_copies ps c)) (rules.NotWeakened 1)

-- ---- With ids: the last place that names an id tells

abbrev pub is_active : Standing → Bool
is_active Active = true
is_active _ = false

abbrev pub is_weakened : Standing → Bool
is_weakened Weakened = true
is_weakened _ = false

abbrev pub is_absent : Standing → Bool
is_absent Absent = true
is_absent _ = false

-- ids that a line leaves so
abbrev pub each_is : Standing → List ℕ → List (ℕ × Standing)
each_is s is = map (λ i. (i, s)) is

-- the places of a step that name an id, and how each leaves it
abbrev pub mentions : LStep → List (ℕ × Standing)
mentions (lsteps.Input id ls) = (id, Active) ∷ []
mentions (lsteps.Lemma id ls hs) = (id, Active) ∷ []
mentions (lsteps.Delete is) = each_is Absent is
mentions (lsteps.Weaken is) = each_is Weakened is
mentions (lsteps.Restore is) = each_is Active is
mentions _ = []

abbrev pub standing_or_absent : Option (ℕ × Standing) → Standing
standing_or_absent None = Absent
standing_or_absent (Some m) = m.1

-- how the last of these places leaves an id
abbrev pub standing : List (ℕ × Standing) → ℕ → Standing
standing ms id = standing_or_absent (last (filter (λ (m : ℕ × Standing). nat_eq m.0 id) ms))

abbrev pub standing_after : List LStep → ℕ → Standing
standing_after ps id = standing (flat_map mentions ps) id

-- the id and the clause that a step gives
abbrev pub given_clause : LStep → Option (ℕ × List ℕ)
given_clause (lsteps.Input id ls) = Some (id, ls)
given_clause (lsteps.Lemma id ls hs) = Some (id, ls)
given_clause _ = None

abbrev pub clause_or_none : Option (ℕ × List ℕ) → Option (List ℕ)
clause_or_none None = None
clause_or_none (Some p) = Some p.1

-- the clause that was given last under an id
abbrev pub clause_of : List LStep → ℕ → Option (List ℕ)
clause_of ps id = clause_or_none (last (filter (λ (p : ℕ × List ℕ). nat_eq p.0 id) (filter_map given_clause ps)))

-- the clause of an id that is active
abbrev pub active_clause : List LStep → ℕ → Option (List ℕ)
active_clause ps id = if is_active (standing_after ps id) then clause_of ps id else None

-- the clauses that are active under the ids that were given
abbrev pub active_id_clauses : List LStep → List (List ℕ)
active_id_clauses ps = filter_map (λ (p : ℕ × List ℕ). active_clause ps p.0) (filter_map given_clause ps)

-- the place, from this one on, of the first id that isn't so when its turn comes, where each is left otherwise
abbrev pub first_not : (Standing → Bool) → Standing → List (ℕ × Standing) → ℕ → List ℕ → Option ℕ
first_not is_so left ms place [] = None
first_not is_so left ms place (i ∷ is) = let more = first_not is_so left (ms ++ (i, left) ∷ []) (place + 1) is in
    if is_so (standing ms i) then more else Some place

-- the events of steps with ids
abbrev pub id_event_of : LStep → Option Event
id_event_of (lsteps.Input id ls) = Some (events.Input ls)
id_event_of (lsteps.Query ls) = Some (events.Query ls)
id_event_of (lsteps.Status s) = Some (events.Status s)
id_event_of (lsteps.Model ls) = Some (events.Model ls)
id_event_of (lsteps.Core ls hs) = Some (events.Core ls)
id_event_of _ = None

abbrev pub id_events_of : List LStep → List Event
id_events_of ps = filter_map id_event_of ps

-- the id isn't taken
abbrev pub id_faults : List LStep → ℕ → List Rule
id_faults ps id = broken_unless (is_absent (standing_after ps id)) rules.IdTaken

-- the hints close from these literals
abbrev pub hint_faults : List LStep → List ℕ → List ℕ → List Rule
hint_faults ps ls hs = broken_at rules.Hint (hints_fail (active_clause ps) ls hs)

-- the rules that a step breaks behind these steps, in the order of their numbers
unfoldable pub own_id_faults : List LStep → LStep → List Rule
own_id_faults ps (lsteps.Input id c) = order_faults (id_events_of ps) (events.Input c) ++ id_faults ps id
own_id_faults ps (lsteps.Lemma id c hs) = id_faults ps id ++ hint_faults ps (map neg c) hs
own_id_faults ps (lsteps.Delete is) = broken_at rules.NotActive (first_not is_active Absent (flat_map mentions ps) 1 is)
own_id_faults ps (lsteps.Weaken is) = broken_at rules.NotActive (first_not is_active Weakened (flat_map mentions ps) 1 is)
own_id_faults ps (lsteps.Restore is) = broken_at rules.NotWeakened (first_not is_weakened Active (flat_map mentions ps) 1 is)
own_id_faults ps (lsteps.Query c) = order_faults (id_events_of ps) (events.Query c)
own_id_faults ps (lsteps.Status s) = order_faults (id_events_of ps) (events.Status s)
own_id_faults ps (lsteps.Model m) = order_faults (id_events_of ps) (events.Model m) ++ model_faults (id_events_of ps) m
own_id_faults ps (lsteps.Core u hs) = order_faults (id_events_of ps) (events.Core u) ++ hint_faults ps u hs ++ core_faults (id_events_of ps) u
