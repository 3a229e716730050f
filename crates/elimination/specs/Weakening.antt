-- Irredundant clauses that are weakened one after another.
use Rattle.std.specs.Prelude.{◌≡◌, ℕ, List, map, Contains}
use Rattle.session_rules.specs.declared.Told.{Told}
use Rattle.session_rules.specs.declared.Told.TheVariants as told
use Rattle.restore.specs.declared.lists.Kept.{Kept}
use Rattle.elimination.specs.declared.database.Database.{Database}
use Rattle.elimination.specs.Steps.{TakesEach}
use Rattle.elimination.specs.Databases.{IsDatabase, LeadTo}
use Rattle.elimination.specs.Restoring.{ids_of}
use Rattle.elimination.specs.Resolving.{ResolvesEach}
use Rattle.elimination.specs.Deleting.{DeletesLemmas}

-- the step that weakens a clause, and those that weaken clauses one after another
abbrev pub weakening : Kept → Told
weakening k = told.Weaken k.id k.lits

abbrev pub weakenings : List Kept → List Told
weakenings ks = map weakening ks

-- the clauses of these ids were told to be weakened, and were kept; the other irredundant clauses stay
pub record WeakensEach {L : Type 0} (takes : L → Told → L → Type 0) (before : L) (old : Database) (ids : List ℕ) (kept : List Kept) (new : Database) (after : L) : Type 0 where
  pub taken : TakesEach takes before (weakenings kept) after
  pub leads : LeadTo old (weakenings kept) new
  pub sound : IsDatabase new
  pub named : ids_of kept ≡ ids
  pub left : (id : ℕ) → Contains new.irredundant id → Contains old.irredundant id × (Contains ids id → ⊥)
  pub stays : (id : ℕ) → Contains old.irredundant id → (Contains ids id → ⊥) → Contains new.irredundant id

-- a variable was taken out: resolvents of the first clauses with the second ones were told, then lemmas with the variable were
-- deleted, and then all these clauses were weakened and kept
pub record TakesOut {L : Type 0} (takes : L → Told → L → Type 0) (x : ℕ) (before : L) (old : Database) (firsts seconds ids : List ℕ) (kept : List Kept) (new : Database) (after : L) : Type 0 where
  pub resolved : Database
  pub behind_resolvents : L
  pub resolves : ResolvesEach takes x before old firsts seconds resolved behind_resolvents
  pub deleted : Database
  pub behind_deletions : L
  pub deletes : DeletesLemmas takes x behind_resolvents resolved 0 resolved.next_id deleted behind_deletions
  pub weakens : WeakensEach takes behind_deletions deleted ids kept new after
