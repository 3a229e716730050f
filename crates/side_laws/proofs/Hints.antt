-- Hints look at the sets of clauses alone.
use Rattle.std.proofs.Common.{◌≡◌, ℕ, ◌+◌, true, not, nat_eq, List, [], ◌∷◌, filter, Contains, Option, Some, None, option_map, refl, sym, ◌∙◌, ap, subst, inl, inr, eqb-true, eq-eqb}
use Rattle.std.specs.List.{list_all}
use Rattle.std.proofs.lemmas.Bool.{and_from, cases_Bool, both_ways}
use Rattle.lits.specs.Literal.{neg}
use Rattle.lits.specs.Clause.{has, same_set}
use Rattle.lits.proofs.Members.{here, there, not_in_nil, all_at, all_from, filter_from, filter_at, has_at, has_from}
use Rattle.lits.proofs.Sets.{same_at}
use Rattle.session_rules.specs.declared.Left.{Left}
use Rattle.session_rules.specs.declared.Left.TheVariants.{Falsified, UnitLiteral, Open}
use Rattle.session_rules.specs.Logic.{left_of, left, after_hint, hints_fail_from, hints_fail, is_tautology}
use Rattle.side_laws.specs.Ids.{same_clause, SameClauses}

-- all of a list are one literal where all of a list with its members are
all_one : (l : ℕ) (ls ms : List ℕ) → ((x : ℕ) → Contains ms x → Contains ls x) → list_all (nat_eq l) ls ≡ true → list_all (nat_eq l) ms ≡ true
all_one l ls ms within h = all_from (nat_eq l) ms (λ x m. all_at (nat_eq l) ls x h (within x m))

all_same : (l m : ℕ) (ls ms : List ℕ) → ((x : ℕ) → Contains (m ∷ ms) x → Contains (l ∷ ls) x) → list_all (nat_eq l) ls ≡ true → (l ≡ m) × (list_all (nat_eq m) ms ≡ true)
all_same l m ls ms within h =
    let whole : list_all (nat_eq l) (l ∷ ls) ≡ true = and_from _ _ (eq-eqb l l refl) h in
    let e : l ≡ m = eqb-true l m (all_at (nat_eq l) (l ∷ ls) m whole (within m (here m ms))) in
    (e, all_from (nat_eq m) ms (λ x n. subst (λ z. nat_eq z x ≡ true) e (all_at (nat_eq l) (l ∷ ls) x whole (within x (there m x ms n)))))

-- what is left goes by the members
left_of-same : (ls ms : List ℕ) → ((x : ℕ) → Contains ls x → Contains ms x) → ((x : ℕ) → Contains ms x → Contains ls x) → left_of ls ≡ left_of ms
left_of-same [] [] f g = refl
left_of-same [] (m ∷ ms) f g = absurd (not_in_nil m (g m (here m ms)))
left_of-same (l ∷ ls) [] f g = absurd (not_in_nil l (f l (here l ls)))
left_of-same (l ∷ ls) (m ∷ ms) f g = elim (cases_Bool (list_all (nat_eq l) ls)) [
  | inl y ↦ let r = all_same l m ls ms g y in rw (y, r.1) (ap UnitLiteral r.0)
  | inr n ↦ elim (cases_Bool (list_all (nat_eq m) ms)) [
    | inl y ↦ let r = all_same m l ms ls f y in absurd (both_ways _ n r.1)
    | inr k ↦ rw (n, k) refl
  ]
]

pub left-same : (trues c d : List ℕ) → same_set c d ≡ true → left trues c ≡ left trues d
left-same trues c d h = left_of-same _ _ (λ x m. within c d x (λ y n. has_at d y (sym (same_at c d h y) ∙ has_from c y n)) m)
    (λ x m. within d c x (λ y n. has_at c y (same_at c d h y ∙ has_from d y n)) m)
  where
    within : (c d : List ℕ) (x : ℕ) → ((y : ℕ) → Contains c y → Contains d y) → Contains (filter (λ m. not (has trues (neg m))) c) x → Contains (filter (λ m. not (has trues (neg m))) d) x
    within c d x part m = let r = filter_at (λ m. not (has trues (neg m))) c x m in filter_from (λ m. not (has trues (neg m))) d x (part x r.0) r.1

lefts-same : (trues : List ℕ) (o p : Option (List ℕ)) → same_clause o p ≡ true → option_map (left trues) o ≡ option_map (left trues) p
lefts-same trues None None h = refl
lefts-same trues None (Some d) h = cc
lefts-same trues (Some c) None h = cc
lefts-same trues (Some c) (Some d) h = ap Some (left-same trues c d h)

module _ (f g : ℕ → Option (List ℕ)) (same : SameClauses f g) where
  from-same : (hs : List ℕ) (place : ℕ) (trues : List ℕ) → hints_fail_from f place trues hs ≡ hints_fail_from g place trues hs
  unfolding hints_fail_from
  from-same [] place trues = refl
  from-same (h ∷ hs) place trues = ap (λ o. after_hint place o (λ l. hints_fail_from f (place + 1) (l ∷ trues) hs)) (lefts-same trues (f h) (g h) (same h))
      ∙ next_same (option_map (left trues) (g h)) (λ l. from-same hs (place + 1) (l ∷ trues))
    where
      next_same : (o : Option Left) → ((l : ℕ) → hints_fail_from f (place + 1) (l ∷ trues) hs ≡ hints_fail_from g (place + 1) (l ∷ trues) hs)
          → after_hint place o (λ l. hints_fail_from f (place + 1) (l ∷ trues) hs) ≡ after_hint place o (λ l. hints_fail_from g (place + 1) (l ∷ trues) hs)
      next_same None e = refl
      next_same (Some Falsified) e = refl
      next_same (Some (UnitLiteral l)) e = e l
      next_same (Some Open) e = refl

  pub hints-same : (ls hs : List ℕ) → hints_fail f ls hs ≡ hints_fail g ls hs
  unfolding hints_fail
  hints-same ls hs = elim (cases_Bool (is_tautology ls)) [
    | inl y ↦ rw y refl
    | inr n ↦ rw n (from-same hs 1 ls)
  ]
