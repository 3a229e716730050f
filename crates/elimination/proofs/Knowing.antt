-- A clause's set stands among clauses exactly where it stands among those that hold one of its literals.
use Rattle.std.proofs.Common.{◌≡◌, ℕ, true, List, Contains, sym, ap, ◌∙◌, subst}
use Rattle.std.specs.List.{list_any}
use Rattle.std.proofs.lemmas.Bool.{and_parts}
use Rattle.lits.specs.Clause.{has, same_set}
use Rattle.lits.proofs.Members.{any_at, any_from, all_at, has_at}
use Rattle.clause_store.specs.Clauses.{Store, lits_at}
use Rattle.resolvents.proofs.Clashing.{same_tests}
use Rattle.restore.specs.Stack.{has_set}
use Rattle.restore.proofs.Joined.{map_at, map_from}
use Rattle.occurrence_lists.specs.Occurring.{row, StandsFor, Numbered}
use Rattle.occurrence_lists.proofs.Standing.{held_is_listed, listed_is_held, contained}
use Rattle.elimination.specs.Pairs.{clauses_at}
use Rattle.elimination.specs.Known.{numbered}

module _ (m : Store) (rows : List (List ℕ)) (ids c : List ℕ) (l : ℕ) (s : StandsFor rows (numbered m ids)) (h : has c l ≡ true) where
  into_row : list_any (same_set c) (clauses_at m ids) ≡ true → list_any (same_set c) (clauses_at m (row rows l)) ≡ true
  into_row a =
      let r = any_at (same_set c) (clauses_at m ids) a in
      let w = map_at (lits_at m) ids r.0 r.1 in
      let same : same_set c (lits_at m w.0) ≡ true = subst (λ z. same_set c z ≡ true) (sym w.2) r.2 in
      let has_it : has (lits_at m w.0) l ≡ true = all_at (has (lits_at m w.0)) c l (and_parts _ _ same).0 (has_at c l h) in
      let n : Contains (numbered m ids) (w.0, lits_at m w.0) = map_from (λ id. (id, lits_at m id)) ids w.0 w.1 in
      let k : Contains (row rows l) w.0 = contained w.0 (row rows l) (held_is_listed rows (numbered m ids) (w.0, lits_at m w.0) l s n has_it) in
      any_from (same_set c) (clauses_at m (row rows l)) (lits_at m w.0) (map_from (lits_at m) (row rows l) w.0 k) same

  from_row : list_any (same_set c) (clauses_at m (row rows l)) ≡ true → list_any (same_set c) (clauses_at m ids) ≡ true
  from_row a =
      let r = any_at (same_set c) (clauses_at m (row rows l)) a in
      let w = map_at (lits_at m) (row rows l) r.0 r.1 in
      let n = listed_is_held rows (numbered m ids) w.0 l s w.1 in
      let k = map_at (λ id. (id, lits_at m id)) ids n.0 n.1 in
      let e : k.0 ≡ w.0 = ap (λ (z : Numbered). z.0) k.2 ∙ n.2 in
      let inside : Contains ids w.0 = subst (λ z. Contains ids z) e k.1 in
      any_from (same_set c) (clauses_at m ids) r.0 (subst (λ z. Contains (clauses_at m ids) z) w.2 (map_from (lits_at m) ids w.0 inside)) r.2

  pub known_is : list_any (same_set c) (clauses_at m (row rows l)) ≡ has_set (clauses_at m ids) c
  known_is = same_tests _ _ from_row into_row
