-- Whether a clause's set is known: asked of stored lists, and of lists of which each set stands as often.
use Rattle.std.proofs.Common.{◌≡◌, ℕ, ◌*◌, ◌≤◌, Bool, true, List, length, map, Contains, Option, Some, refl, sym, ap, ◌∙◌, subst, arith}
use Rattle.lits.specs.Clause.{has, same_set}
use Rattle.lits.proofs.Members.{any_at, any_from}
use Rattle.lits.proofs.Sets.{same_set-chain}
use Rattle.clause_store.specs.Clauses.{Store, IsStore, lits_at}
use Rattle.propagation.specs.Clauses.{active_at, literals_at}
use Rattle.propagation.specs.Engine.{IsEngine}
use Rattle.resolvents.specs.Held.{AreReserved}
use Rattle.resolvents.proofs.Clashing.{same_tests}
use Rattle.restore.specs.Stack.{has_set}
use Rattle.elimination_laws.specs.Eligible.{OftenAs}
use Rattle.elimination_laws.proofs.Counting.{often_at}
use Rattle.occurrence_lists.specs.Occurring.{row, AreListed, StandsFor}
use Rattle.elimination.specs.declared.database.Database.{Database}
use Rattle.elimination.specs.Pairs.{clauses_at}
use Rattle.elimination.specs.Known.{AreComparable, numbered}
use Rattle.elimination.specs.Databases.{IsDatabase, irredundant_of}
use Rattle.elimination.proofs.Listed.{once_stored}
use Rattle.elimination.proofs.Seen.{stands_stored, same_sets, usable_stored}

pub known_often : (cs ds : List (List ℕ)) (c : List ℕ) → OftenAs cs ds → has_set cs c ≡ has_set ds c
known_often cs ds c o = same_tests _ _ (turned cs ds o) (turned ds cs (λ b. sym (o b)))
  where
    turned : (xs ys : List (List ℕ)) → OftenAs xs ys → has_set xs c ≡ true → has_set ys c ≡ true
    turned xs ys o h =
        let a = any_at (same_set c) xs h in
        let b = often_at xs ys a.0 o a.1 in
        any_from (same_set c) ys b.0 b.1 (same_set-chain c a.0 b.0 a.2 b.2)

module _ (d : Database) (h : IsDatabase d) (st : Store) (stored : IsStore st) (en : IsEngine d.engine) (shown : (id : ℕ) (c : List ℕ) → active_at d.engine.clauses id ≡ Some c → (l : ℕ) → has (lits_at st id) l ≡ has c l) where
  pub listed_held : (c : List ℕ) → AreReserved d.engine.vars c → AreListed d.occurrences c
  listed_held c r l k = let v = r l k in let w = h.wide in omega (arith, v, w)

  pub comparable_rows : (vars l : ℕ) → d.engine.vars ≤ vars → AreComparable st vars (row d.occurrences l)
  comparable_rows vars l le id m = record {
    reserved = (usable_stored d.engine.clauses st d.occurrences d.irredundant shown h.listed d.engine vars l refl en le id m).reserved;
    once = once_stored st id stored;
  }

  pub recalled : (b : Bool) (c : List ℕ) → ((ids : List ℕ) → StandsFor d.occurrences (numbered st ids) → b ≡ has_set (clauses_at st ids) c) → b ≡ has_set (irredundant_of d) c
  recalled b c k = k d.irredundant (stands_stored d.engine.clauses st d.occurrences d.irredundant shown h.listed)
      ∙ known_often (clauses_at st d.irredundant) (irredundant_of d) c (same_sets d.engine.clauses st d.occurrences d.irredundant shown h.listed d.irredundant (λ id m. m))
