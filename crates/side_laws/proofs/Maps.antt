-- The clauses of a map, and what one insertion or removal changes.
use Rattle.std.proofs.Common.{◌≡◌, ◌≢◌, ℕ, ◌⊎◌, List, [], ◌∷◌, map, Some, None, true, false, refl, sym, ap, ◌∙◌, inl, inr, arith}
use Rattle.std.specs.Prelude.{option_map}
use Rattle.std.proofs.lemmas.Bool.{cases_Bool}
use Rattle.std.proofs.lemmas.Bool.Decides.{nat_tests}
use Rattle.std.specs.Ordering.{nat_cmp, eq_by_cmp}
use Rattle.std.specs.Cmp.{nat_cmp_total}
use Rattle.std.specs.FinMap.{FinMap, get, entries, find, empty, insert, remove, get-entries, get-from_entries, get-insert, get-remove, get-empty}
use Rattle.side_laws.specs.ClauseStates.{ClauseState, kept_by, ChangesAt}

pub same_id : (q : ℕ) → eq_by_cmp nat_cmp q q ≡ true
same_id q = grind (arith, nat_tests)

pub other_id : (q k : ℕ) → q ≢ k → eq_by_cmp nat_cmp q k ≡ false
other_id q k ne = grind (arith, nat_tests)

pub same_or_other : (q i : ℕ) → (q ≡ i) ⊎ (q ≢ i)
same_or_other q i = grind arith

module _ {X : Type 0} (view : X → ClauseState) where
  find-map : (es : List (ℕ × X)) (q : ℕ) → find nat_cmp q (map (λ e. (e.0, view e.1)) es) ≡ option_map view (find nat_cmp q es)
  find-map [] q = refl
  find-map (e ∷ es) q = elim (cases_Bool (eq_by_cmp nat_cmp q e.0)) [
    | inl y ↦ rw y refl
    | inr n ↦ rw n (find-map es q)
  ]

  pub get-kept_by : (m : FinMap nat_cmp X) (q : ℕ) → get (kept_by view m) q ≡ option_map view (get m q)
  unfolding kept_by
  get-kept_by m q = get-from_entries nat_cmp_total _ q ∙ find-map (entries m) q ∙ ap (option_map view) (sym (get-entries m q))

  pub empty-kept_by : (q : ℕ) → get (kept_by view empty) q ≡ None
  empty-kept_by q = get-kept_by empty q ∙ ap (option_map view) (get-empty nat_cmp q)

  pub changes-insert : (m n : FinMap nat_cmp X) (id : ℕ) (x : X) → n ≡ insert m id x → ChangesAt (kept_by view m) (kept_by view n) id (Some (view x))
  changes-insert m n id x e = record {
    there = get-kept_by n id ∙ ap (λ z. option_map view (get z id)) e ∙ rw (get-insert nat_cmp_total, same_id id) refl;
    others = λ q ne. get-kept_by n q ∙ ap (λ z. option_map view (get z q)) e ∙ rw (get-insert nat_cmp_total, other_id q id ne) (sym (get-kept_by m q));
  }

  pub changes-remove : (m n : FinMap nat_cmp X) (id : ℕ) → n ≡ remove m id → ChangesAt (kept_by view m) (kept_by view n) id None
  changes-remove m n id e = record {
    there = get-kept_by n id ∙ ap (λ z. option_map view (get z id)) e ∙ rw (get-remove nat_cmp_total, same_id id) refl;
    others = λ q ne. get-kept_by n q ∙ ap (λ z. option_map view (get z q)) e ∙ rw (get-remove nat_cmp_total, other_id q id ne) (sym (get-kept_by m q));
  }
