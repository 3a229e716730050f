-- The resolvents of a variable that are told and added, and those that needn't be.
use Rattle.std.specs.Prelude.{◌≡◌, ℕ, ◌<◌, length, Bool, true, false, List, [], ◌∷◌, Contains, ⊤}
use Rattle.lits.specs.Clause.{has, same_set, is_tautology}
use Rattle.clause_store.specs.Clauses.{IsOnce}
use Rattle.session_rules.specs.declared.Told.{Told}
use Rattle.session_rules.specs.declared.Told.TheVariants as told
use Rattle.propagation.specs.Clauses.{literals_at}
use Rattle.restore.specs.Resolution.{holds, holds_negated, without, resolvent}
use Rattle.restore.specs.Stack.{has_set}
use Rattle.elimination.specs.declared.database.Database.{Database}
use Rattle.elimination.specs.Steps.{TakesEach}
use Rattle.elimination.specs.Databases.{IsDatabase, LeadTo, irredundant_of}

-- a list has the set of a resolvent of two of these clauses, which is no tautology
pub record IsResolventOf (x : ℕ) (cs : List (List ℕ)) (ls : List ℕ) : Type 0 where
  pub first : List ℕ
  pub second : List ℕ
  pub has_first : Contains cs first
  pub has_second : Contains cs second
  pub holding : holds x first ≡ true
  pub holding_negation : holds_negated x second ≡ true
  pub clean : is_tautology (resolvent x first second) ≡ false
  pub same : same_set ls (resolvent x first second) ≡ true

-- the steps are lemmas, each a resolvent of these clauses with a set that neither the known clauses nor an earlier lemma has
abbrev pub AreWritten : ℕ → List (List ℕ) → List (List ℕ) → List Told → Type 0
AreWritten x cs known [] = ⊤
AreWritten x cs known (told.Lemma id ls hints ∷ ts) = IsResolventOf x cs ls × (has_set known ls ≡ false) × AreWritten x cs (ls ∷ known) ts
AreWritten x cs known (t ∷ ts) = ⊥

-- the resolvent of two clauses is a tautology or known
abbrev pub IsRecalled : ℕ → List (List ℕ) → List ℕ → List ℕ → Type 0
IsRecalled x known c d = is_tautology (resolvent x c d) ≡ false → has_set known (resolvent x c d) ≡ true

-- a list has the set of the resolvent of two clauses, which is neither a tautology nor known, each literal once
pub record IsNew (x : ℕ) (known : List (List ℕ)) (c d ls : List ℕ) : Type 0 where
  pub clean : is_tautology (resolvent x c d) ≡ false
  pub same : same_set ls (resolvent x c d) ≡ true
  pub once : IsOnce ls
  pub unknown : has_set known ls ≡ false

-- whether a resolvent is to be told
abbrev pub IsJudged : Bool → ℕ → List (List ℕ) → List ℕ → List ℕ → List ℕ → Type 0
IsJudged true x known c d ls = IsNew x known c d ls
IsJudged false x known c d ls = IsRecalled x known c d

-- lemmas were told and added, each a new resolvent of a first and a second clause; all such resolvents that are no tautologies
-- are known now
pub record ResolvesEach {L : Type 0} (takes : L → Told → L → Type 0) (x : ℕ) (before : L) (old : Database) (firsts seconds : List ℕ) (new : Database) (after : L) : Type 0 where
  pub steps : List Told
  pub taken : TakesEach takes before steps after
  pub leads : LeadTo old steps new
  pub sound : IsDatabase new
  pub written : (cs : List (List ℕ)) → ((i : ℕ) → Contains firsts i → Contains cs (literals_at old.engine.clauses i)) → ((j : ℕ) → Contains seconds j → Contains cs (literals_at old.engine.clauses j))
      → AreWritten x cs (irredundant_of old) steps
  pub recalled : (i j : ℕ) → Contains firsts i → Contains seconds j → IsRecalled x (irredundant_of new) (literals_at old.engine.clauses i) (literals_at old.engine.clauses j)
  pub kept : (id : ℕ) → Contains old.irredundant id → Contains new.irredundant id × (literals_at new.engine.clauses id ≡ literals_at old.engine.clauses id)

-- ---- One pair

-- an irredundant clause may be the first of a pair: it holds the variable, and a literal of another one
pub record IsFirst (x : ℕ) (d : Database) (i : ℕ) : Type 0 where
  pub irredundant : Contains d.irredundant i
  pub holding : holds x (literals_at d.engine.clauses i) ≡ true
  pub wider : 0 < length (without x (literals_at d.engine.clauses i))

-- an irredundant clause may be the second of a pair: it holds the variable's negation
pub record IsSecond (x : ℕ) (d : Database) (j : ℕ) : Type 0 where
  pub irredundant : Contains d.irredundant j
  pub holding : holds_negated x (literals_at d.engine.clauses j) ≡ true

-- a list has the literals of a clause, each once
pub record IsHeld (d : Database) (i : ℕ) (c : List ℕ) : Type 0 where
  pub once : IsOnce c
  pub same : (l : ℕ) → has c l ≡ has (literals_at d.engine.clauses i) l
