-- Lemmas with a variable that are deleted one after another.
use Rattle.std.specs.Prelude.{◌≡◌, ℕ, ◌≤◌, ◌<◌, true, false, List, [], ◌∷◌, Contains, Some, ⊤}
use Rattle.lits.specs.Clause.{is_tautology}
use Rattle.session_rules.specs.declared.Told.{Told}
use Rattle.session_rules.specs.declared.Told.TheVariants as told
use Rattle.propagation.specs.Clauses.{active_at}
use Rattle.restore.specs.Resolution.{has_variable}
use Rattle.elimination.specs.declared.database.Database.{Database}
use Rattle.elimination.specs.Steps.{TakesEach, standing}
use Rattle.elimination.specs.Databases.{IsDatabase, LeadTo}

-- an active clause has the variable, isn't irredundant, and is no tautology
pub record IsLemmaWith (x : ℕ) (d : Database) (id : ℕ) : Type 0 where
  pub literals : List ℕ
  pub active : active_at d.engine.clauses id ≡ Some literals
  pub holding : has_variable x literals ≡ true
  pub clean : is_tautology literals ≡ false
  pub redundant : Contains d.irredundant id → ⊥

-- the steps are deletions of clauses with the variable, none of which is a tautology
abbrev pub AreDeletions : ℕ → List Told → Type 0
AreDeletions x [] = ⊤
AreDeletions x (told.Delete id ls ∷ ts) = (has_variable x ls ≡ true) × (is_tautology ls ≡ false) × AreDeletions x ts
AreDeletions x (t ∷ ts) = ⊥

-- lemmas with the variable were told to be deleted; from the first id on to the last there is none any more, and the
-- irredundant clauses stay
pub record DeletesLemmas {L : Type 0} (takes : L → Told → L → Type 0) (x : ℕ) (before : L) (old : Database) (first last : ℕ) (new : Database) (after : L) : Type 0 where
  pub steps : List Told
  pub taken : TakesEach takes before steps after
  pub leads : LeadTo old steps new
  pub sound : IsDatabase new
  pub only : AreDeletions x steps
  pub same : new.irredundant ≡ old.irredundant
  pub stays : (id : ℕ) → Contains old.irredundant id → standing new.engine.clauses id ≡ standing old.engine.clauses id
  pub fewer : (id : ℕ) (c : List ℕ) → active_at new.engine.clauses id ≡ Some c → active_at old.engine.clauses id ≡ Some c
  pub gone : (id : ℕ) → first ≤ id → id < last → IsLemmaWith x new id → ⊥
