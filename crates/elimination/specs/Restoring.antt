-- Weakened clauses that are restored one after another.
use Rattle.std.specs.Prelude.{◌≡◌, ℕ, false, nat_eq, List, map, flat_map, Contains, Option, Some}
use Rattle.std.specs.List.{IsDistinct}
use Rattle.lits.specs.Clause.{is_tautology, set_of}
use Rattle.session_rules.specs.declared.Told.{Told}
use Rattle.session_rules.specs.declared.Told.TheVariants as told
use Rattle.propagation.specs.Engine.{IsOnce}
use Rattle.restore.specs.declared.lists.Kept.{Kept}
use Rattle.restore.specs.declared.lists.Elim.{Elim}
use Rattle.elimination.specs.declared.database.Database.{Database}
use Rattle.elimination.specs.Steps.{TakesEach, Standing, weakened_in}
use Rattle.elimination.specs.Databases.{IsDatabase, LeadTo}

-- the ids of clauses
abbrev pub ids_of : List Kept → List ℕ
ids_of ks = map (λ (k : Kept). k.id) ks

-- the clauses of entries, in their order
abbrev pub kept_of : List Elim → List Kept
kept_of es = flat_map (λ (e : Elim). e.clauses) es

-- the step that restores a clause, and those that restore clauses one after another
abbrev pub restoring : Kept → Told
restoring k = told.Restore k.id k.lits

abbrev pub restorings : List Kept → List Told
restorings ks = map restoring ks

-- the clauses are copies of weakened ones, with different ids
pub record AreCopies (f : ℕ → Option Standing) (ks : List Kept) : Type 0 where
  pub weakened : (k : Kept) → Contains ks k → weakened_in f k.id ≡ Some (set_of k.lits)
  pub once : (k : Kept) → Contains ks k → IsOnce k.lits
  pub clean : (k : Kept) → Contains ks k → is_tautology k.lits ≡ false
  pub apart : IsDistinct nat_eq (ids_of ks)

-- the clauses were told to be restored, and each is irredundant again
pub record Restores {L : Type 0} (takes : L → Told → L → Type 0) (before : L) (old : Database) (ks : List Kept) (new : Database) (after : L) : Type 0 where
  pub taken : TakesEach takes before (restorings ks) after
  pub leads : LeadTo old (restorings ks) new
  pub sound : IsDatabase new
