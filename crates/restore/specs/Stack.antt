-- The stack of eliminated variables with their clauses, and the values that it extends. The first entry was eliminated first.
use Rattle.std.specs.Prelude.{◌≡◌, ℕ, zero, suc, Bool, true, false, not, ◌&&◌, ◌||◌, nat_eq, if◌then◌else◌, List, [], ◌∷◌, ◌++◌, length, map, filter, flat_map, Contains, All, ⊤}
use Rattle.std.specs.List.{list_any, list_all}
use Rattle.lits.specs.Literal.{var}
use Rattle.session_rules.specs.Logic.{has, same_set, is_tautology, satisfies}
use Rattle.restore.specs.Resolution.{has_variable, holds, holds_negated, is_plain, resolvent, resolvents, all_variables, Entails}
use Rattle.restore.specs.declared.lists.Kept.{Kept}
use Rattle.restore.specs.declared.lists.Elim.{Elim}
use Rattle.restore.specs.Values.{IsReserved}

-- the clauses of an entry, without their ids
abbrev pub clauses_of : Elim → List (List ℕ)
clauses_of e = map (λ (k : Kept). k.lits) e.clauses

-- the clauses of all entries
abbrev pub stacked : List Elim → List (List ℕ)
stacked es = flat_map clauses_of es

-- ---- What a stack keeps

-- of an entry, where these clauses are behind it: each of its clauses holds its variable, none of those does, and
-- those imply its resolvents that are no tautologies
pub record IsKeptBy (e : Elim) (behind : List (List ℕ)) : Type 0 where
  pub holding : (c : List ℕ) → Contains (clauses_of e) c → has_variable e.var c ≡ true
  pub apart : (c : List ℕ) → Contains behind c → has_variable e.var c ≡ false
  pub implied : (c d : List ℕ) → Contains (clauses_of e) c → Contains (clauses_of e) d → holds e.var c ≡ true → holds_negated e.var d ≡ true
      → is_tautology (resolvent e.var c d) ≡ false → Entails behind (resolvent e.var c d)

-- the resolvents of each entry are kept by the clauses of the later ones and the irredundant clauses
abbrev pub KeepsResolvents : List Elim → List (List ℕ) → Type 0
KeepsResolvents [] cs = ⊤
KeepsResolvents (e ∷ es) cs = IsKeptBy e (stacked es ++ cs) × KeepsResolvents es cs

-- ---- Extending values

-- values with another one for a variable
abbrev pub with_value : (ℕ → Bool) → ℕ → Bool → ℕ → Bool
with_value v x b y = if nat_eq y x then b else v y

-- whether a clause holds the variable itself and no other true literal
abbrev pub needs : (ℕ → Bool) → ℕ → List ℕ → Bool
needs v x c = holds x c && list_all (λ l. is_plain x l || not (satisfies v l)) c

-- from the last entry to the first, each variable is true where a clause of its entry needs it
abbrev pub extended : List Elim → (ℕ → Bool) → ℕ → Bool
extended [] v = v
extended (e ∷ es) v = let w = extended es v in with_value w e.var (list_any (needs w e.var) (clauses_of e))

-- the new values extend the old ones over the stack
abbrev pub Extends : List Elim → (ℕ → Bool) → (ℕ → Bool) → Type 0
Extends es old new = (x : ℕ) → new x ≡ extended es old x

-- each variable of a clause is reserved
abbrev pub IsCoveredClause : List Bool → List ℕ → Type 0
IsCoveredClause vs c = All (λ l. IsReserved vs (var l)) c

-- the variable of an entry and those of its clauses are reserved
pub record IsCovered (vs : List Bool) (e : Elim) : Type 0 where
  pub variable : IsReserved vs e.var
  pub clauses : All (λ (k : Kept). IsCoveredClause vs k.lits) e.clauses

-- ---- Taking entries out

-- whether a stack has an entry of the variable
abbrev pub has_entry : List Elim → ℕ → Bool
has_entry es x = list_any (λ (e : Elim). nat_eq e.var x) es

-- the entries whose variables are in a set, in their order
abbrev pub taken : (ℕ → Bool) → List Elim → List Elim
taken s es = filter (λ (e : Elim). s e.var) es

-- the other entries, in their order
abbrev pub left_in : (ℕ → Bool) → List Elim → List Elim
left_in s es = filter (λ (e : Elim). not (s e.var)) es

-- whether a clause of the first entry holds the variable of the second
abbrev pub wants : Elim → Elim → Bool
wants e f = list_any (has_variable f.var) (clauses_of e)

-- with an entry the set has each entry whose variable stands in its clauses
abbrev pub IsClosed : List Elim → (ℕ → Bool) → Type 0
IsClosed es s = (e f : Elim) → Contains es e → Contains es f → s e.var ≡ true → wants e f ≡ true → s f.var ≡ true

-- the variables, with those of the clauses of their entries
abbrev pub with_entries : List Elim → List ℕ → List ℕ
with_entries [] xs = xs
with_entries (e ∷ es) xs = if has xs e.var then with_entries es (all_variables (clauses_of e) ++ xs) else with_entries es xs

-- the same after as many rounds
unfoldable pub with_entries_times : ℕ → List Elim → List ℕ → List ℕ
with_entries_times zero es xs = xs
with_entries_times (suc n) es xs = with_entries_times n es (with_entries es xs)

-- whether the variable is in the least closed set that has these: as many rounds as there are entries find all of it
unfoldable pub is_wanted : List Elim → List ℕ → ℕ → Bool
is_wanted es xs x = has (with_entries_times (length es) es xs) x

-- ---- Eliminating a variable

-- the entry has just the clauses that hold its variable
pub record IsEntryOf (e : Elim) (cs : List (List ℕ)) : Type 0 where
  pub holding : (c : List ℕ) → Contains (clauses_of e) c → has_variable e.var c ≡ true
  pub before : (c : List ℕ) → Contains (clauses_of e) c → Contains cs c
  pub whole : (c : List ℕ) → Contains cs c → has_variable e.var c ≡ true → Contains (clauses_of e) c

-- the first irredundant clauses give the second by an elimination with this entry: they have the clauses without its
-- variable, none with it, only variables from before, and they imply its resolvents that are no tautologies
pub record Eliminates (e : Elim) (cs ds : List (List ℕ)) : Type 0 where
  pub entry : IsEntryOf e cs
  pub others : (c : List ℕ) → Contains cs c → has_variable e.var c ≡ false → Contains ds c
  pub gone : (c : List ℕ) → Contains ds c → has_variable e.var c ≡ false
  pub old : (c : List ℕ) (y : ℕ) → Contains ds c → has_variable y c ≡ true → (d : List ℕ) × Contains cs d × (has_variable y d ≡ true)
  pub resolved : (c d : List ℕ) → Contains (clauses_of e) c → Contains (clauses_of e) d → holds e.var c ≡ true → holds_negated e.var d ≡ true
      → is_tautology (resolvent e.var c d) ≡ false → Entails ds (resolvent e.var c d)

-- whether some clause has the same set
abbrev pub has_set : List (List ℕ) → List ℕ → Bool
has_set cs c = list_any (same_set c) cs

-- whether no two of some clauses have the same set
abbrev pub differ : List (List ℕ) → Bool
differ [] = true
differ (c ∷ cs) = not (has_set cs c) && differ cs

-- the resolvents that are due: those whose set no irredundant clause has
abbrev pub due_resolvents : ℕ → List (List ℕ) → List (List ℕ)
due_resolvents x cs = filter (λ r. not (has_set cs r)) (resolvents x cs)

-- whether some clauses are the resolvents that are due, the set of each once
abbrev pub are_due : ℕ → List (List ℕ) → List (List ℕ) → Bool
are_due x cs ls = differ ls && (list_all (has_set (due_resolvents x cs)) ls && list_all (has_set ls) (due_resolvents x cs))

-- the irredundant clauses behind an elimination that wrote these resolvents
abbrev pub behind_elimination : ℕ → List (List ℕ) → List (List ℕ) → List (List ℕ)
behind_elimination x cs ls = filter (λ c. not (has_variable x c)) cs ++ ls
