-- Resolving clauses on a variable. A clause is a list of literals, seen as their codes.
use Rattle.std.specs.Prelude.{◌≡◌, ℕ, Bool, true, not, ◌&&◌, nat_eq, List, ◌++◌, map, filter, flat_map}
use Rattle.std.specs.List.{list_any}
use Rattle.lits.specs.Literal.{var, positive}
use Rattle.session_rules.specs.Logic.{is_tautology, satisfies_clause, satisfies_formula}

-- whether a literal is one of this variable
abbrev pub of_variable : ℕ → ℕ → Bool
of_variable x l = nat_eq (var l) x

-- whether a literal is the variable itself
abbrev pub is_plain : ℕ → ℕ → Bool
is_plain x l = of_variable x l && positive l

-- whether a literal is the negation of the variable
abbrev pub is_negated : ℕ → ℕ → Bool
is_negated x l = of_variable x l && not (positive l)

-- whether a clause holds a variable or its negation
abbrev pub has_variable : ℕ → List ℕ → Bool
has_variable x c = list_any (of_variable x) c

-- whether a clause holds the variable itself
abbrev pub holds : ℕ → List ℕ → Bool
holds x c = list_any (is_plain x) c

-- whether a clause holds the negation of the variable
abbrev pub holds_negated : ℕ → List ℕ → Bool
holds_negated x c = list_any (is_negated x) c

-- a clause without a variable and its negation
abbrev pub without : ℕ → List ℕ → List ℕ
without x c = filter (λ l. not (of_variable x l)) c

-- the resolvent of a clause that holds the variable and one that holds its negation
abbrev pub resolvent : ℕ → List ℕ → List ℕ → List ℕ
resolvent x c d = without x c ++ without x d

-- the resolvents of a clause with those that hold the negation, but no tautologies
abbrev pub resolvents_with : ℕ → List (List ℕ) → List ℕ → List (List ℕ)
resolvents_with x cs c = filter (λ r. not (is_tautology r)) (map (resolvent x c) (filter (holds_negated x) cs))

-- the resolvents of all such pairs that are no tautologies, one for each pair
abbrev pub resolvents : ℕ → List (List ℕ) → List (List ℕ)
resolvents x cs = flat_map (resolvents_with x cs) (filter (holds x) cs)

-- the variables of a clause
abbrev pub variables : List ℕ → List ℕ
variables c = map var c

-- the variables of clauses
abbrev pub all_variables : List (List ℕ) → List ℕ
all_variables cs = flat_map variables cs

-- each assignment that satisfies the clauses satisfies this one
abbrev pub Entails : List (List ℕ) → List ℕ → Type 0
Entails cs c = (v : ℕ → Bool) → satisfies_formula v cs ≡ true → satisfies_clause v c ≡ true
