-- Clauses, assignments, closing sequences and hints. A literal is a number, as `lits` has it, and a clause a list of them.
use Rattle.std.specs.Prelude.{ℕ, zero, suc, ◌+◌, Bool, not, ◌&&◌, ◌||◌, nat_eq, if◌then◌else◌, List, [], ◌∷◌, length, map, filter, Contains, Option, Some, None, option_map, IsTrue, ⊤}
use Rattle.std.specs.List.{list_any, list_all}
use Rattle.lits.specs.Literal.{var, positive, neg}
pub use Rattle.lits.specs.Clause.{has, is_part, same_set, is_tautology}
use Rattle.session_rules.specs.declared.Left.{Left}
use Rattle.session_rules.specs.declared.Left.TheVariants.{Falsified, UnitLiteral, Open}

-- ---- Assignments

-- whether an assignment satisfies a literal, a clause, each of some literals, each of some clauses
abbrev pub satisfies : (ℕ → Bool) → ℕ → Bool
satisfies v l = if positive l then v (var l) else not (v (var l))

abbrev pub satisfies_clause : (ℕ → Bool) → List ℕ → Bool
satisfies_clause v c = list_any (satisfies v) c

abbrev pub satisfies_each : (ℕ → Bool) → List ℕ → Bool
satisfies_each v ls = list_all (satisfies v) ls

abbrev pub satisfies_formula : (ℕ → Bool) → List (List ℕ) → Bool
satisfies_formula v cs = list_all (satisfies_clause v) cs

-- no assignment satisfies each clause and each literal
abbrev pub Contradicts : List (List ℕ) → List ℕ → Type 0
Contradicts cs ls = (v : ℕ → Bool) → IsTrue (satisfies_formula v cs) → IsTrue (satisfies_each v ls) → ⊥

-- some assignment satisfies each clause and each literal
abbrev pub IsSatisfiable : List (List ℕ) → List ℕ → Type 0
IsSatisfiable cs ls = (v : ℕ → Bool) × IsTrue (satisfies_formula v cs) × IsTrue (satisfies_each v ls)

-- each assignment that satisfies the clauses satisfies this one
abbrev pub Implies : List (List ℕ) → List ℕ → Type 0
Implies cs c = Contradicts cs (map neg c)

-- ---- Closing sequences. The true literals are a list, and a literal is false where its negation is in it.

-- whether each literal of the clause is false
abbrev pub is_falsified : List ℕ → List ℕ → Bool
is_falsified trues c = list_all (λ m. has trues (neg m)) c

-- whether the clause has this literal, and each other literal of it is false
abbrev pub is_unit : List ℕ → List ℕ → ℕ → Bool
is_unit trues c l = has c l && list_all (λ m. nat_eq l m || has trues (neg m)) c

-- whether two true literals are opposite, or a clause is falsified
abbrev pub is_closed : List (List ℕ) → List ℕ → Bool
is_closed cs trues = is_tautology trues || list_any (is_falsified trues) cs

-- the pairs, a clause and a literal of it each, are a sequence of unit propagations
abbrev pub Propagates : List (List ℕ) → List ℕ → List (List ℕ × ℕ) → Type 0
Propagates cs trues [] = ⊤
Propagates cs trues (p ∷ ps) = Contains cs p.0 × IsTrue (is_unit trues p.0 p.1) × Propagates cs (p.1 ∷ trues) ps

-- the literals that are true after the pairs
abbrev pub trues_after : List ℕ → List (List ℕ × ℕ) → List ℕ
trues_after trues [] = trues
trues_after trues (p ∷ ps) = trues_after (p.1 ∷ trues) ps

-- there is a closing sequence of the clauses from the literals
abbrev pub Closes : List (List ℕ) → List ℕ → Type 0
Closes cs ls = (ps : List (List ℕ × ℕ)) × Propagates cs ls ps × IsTrue (is_closed cs (trues_after ls ps))

-- the clauses propagate this literal from no literal
abbrev pub Forced : List (List ℕ) → ℕ → Type 0
Forced cs l = (ps : List (List ℕ × ℕ)) × Propagates cs [] ps × IsTrue (has (trues_after [] ps) l)

-- ---- The test of closing, by rounds over all clauses

-- of the literals that aren't false
abbrev pub left_of : List ℕ → Left
left_of [] = Falsified
left_of (l ∷ ls) = if list_all (nat_eq l) ls then UnitLiteral l else Open

abbrev pub left : List ℕ → List ℕ → Left
left trues c = left_of (filter (λ m. not (has trues (neg m))) c)

-- the true literals with the unit of a clause
abbrev pub with_unit : Left → List ℕ → List ℕ
with_unit Falsified trues = trues
with_unit (UnitLiteral l) trues = if has trues l then trues else l ∷ trues
with_unit Open trues = trues

-- with the units of all clauses, one after another
unfoldable pub propagated : List (List ℕ) → List ℕ → List ℕ
propagated [] trues = trues
propagated (c ∷ cs) trues = propagated cs (with_unit (left trues c) trues)

-- after as many rounds
unfoldable pub propagated_times : ℕ → List (List ℕ) → List ℕ → List ℕ
propagated_times zero cs trues = trues
propagated_times (suc n) cs trues = propagated_times n cs (propagated cs trues)

-- whether there is a closing sequence: as many rounds as there are clauses find all that follows
unfoldable pub closes : List (List ℕ) → List ℕ → Bool
closes cs ls = is_closed cs (propagated_times (length cs) cs ls)

-- ---- The hint rule

-- what a hint does: it names no active clause, or that of which this is left; next goes on with one more true literal
abbrev pub after_hint : ℕ → Option Left → (ℕ → Option ℕ) → Option ℕ
after_hint place None next = Some place
after_hint place (Some Falsified) next = None
after_hint place (Some (UnitLiteral l)) next = next l
after_hint place (Some Open) next = Some place

-- the place at which the hints fail, from this place on, or none where they close
unfoldable pub hints_fail_from : (ℕ → Option (List ℕ)) → ℕ → List ℕ → List ℕ → Option ℕ
hints_fail_from active place trues [] = Some place
hints_fail_from active place trues (h ∷ hs) =
    after_hint place (option_map (left trues) (active h)) (λ l. hints_fail_from active (place + 1) (l ∷ trues) hs)

-- the place at which the hints fail from the literals, or none where they close
unfoldable pub hints_fail : (ℕ → Option (List ℕ)) → List ℕ → List ℕ → Option ℕ
hints_fail active ls hints = if is_tautology ls then None else hints_fail_from active 1 ls hints
