-- Hints over translated clauses fail where those over the clauses fail, and literals without a number are of no use to them.
use Rattle.std.proofs.Common.{◌≡◌, ℕ, ◌+◌, Bool, true, false, not, ◌||◌, nat_eq, if◌then◌else◌, List, [], ◌∷◌, filter, Option, Some, None, option_map, refl, ap, ◌∙◌, inl, inr}
use Rattle.std.specs.Cmp.{both_ways}
use Rattle.std.proofs.lemmas.Bool.{cases_Bool, and_parts, and_from, or_cases, or_left, or_right, not_from_false}
use Rattle.lits.specs.Literal.{neg}
use Rattle.lits.specs.Clause.{has, is_tautology}
use Rattle.lits.specs.Numbering.{is_known, are_known, dense_lit, dense_lits}
use Rattle.lits.proofs.Members.{has_at, has_from, filter_at, filter_from}
use Rattle.lits.proofs.Sets.{tautology_at, tautology_from}
use Rattle.lits.proofs.Translated.{known-neg, tautology-dense}
use Rattle.session_rules.specs.declared.Left.{Left}
use Rattle.session_rules.specs.declared.Left.TheVariants.{Falsified, UnitLiteral, Open}
use Rattle.session_rules.specs.Logic.{left_of, left, after_hint, hints_fail_from, hints_fail}
use Rattle.numbering_laws.specs.Dense.{known_of, unknown_of, KnownById}
use Rattle.numbering_laws.proofs.Propagated.{dense_left, left-dense, left-known}

module _ (vars : List ℕ) where
  -- ---- Translated hints

  module _ (place : ℕ) (next next2 : ℕ → Option ℕ) (same : (l : ℕ) → is_known vars l ≡ true → next2 (dense_lit vars l) ≡ next l) where
    at-left : (o : Left) → ((l : ℕ) → o ≡ UnitLiteral l → is_known vars l ≡ true) → after_hint place (Some (dense_left vars o)) next2 ≡ after_hint place (Some o) next
    at-left Falsified k = refl
    at-left (UnitLiteral l) k = same l (k l refl)
    at-left Open k = refl

    at-clause : (trues : List ℕ) → are_known vars trues ≡ true → (o : Option (List ℕ)) → ((c : List ℕ) → o ≡ Some c → are_known vars c ≡ true)
        → after_hint place (option_map (left (dense_lits vars trues)) (option_map (dense_lits vars) o)) next2 ≡ after_hint place (option_map (left trues) o) next
    at-clause trues k None kc = refl
    at-clause trues k (Some c) kc = ap (λ z. after_hint place (Some z) next2) (left-dense vars trues c k (kc c refl))
        ∙ at-left (left trues c) (λ l e. left-known vars trues c l (kc c refl) e)

  module _ (active active2 : ℕ → Option (List ℕ)) (k : KnownById vars active) (same : (id : ℕ) → active2 id ≡ option_map (dense_lits vars) (active id)) where
    fail_from-dense : (hs : List ℕ) (place : ℕ) (trues : List ℕ) → are_known vars trues ≡ true → hints_fail_from active2 place (dense_lits vars trues) hs ≡ hints_fail_from active place trues hs
    unfolding hints_fail_from
    fail_from-dense [] place trues kt = refl
    fail_from-dense (h ∷ hs) place trues kt =
        ap (λ o. after_hint place (option_map (left (dense_lits vars trues)) o) (λ l. hints_fail_from active2 (place + 1) (l ∷ dense_lits vars trues) hs)) (same h)
        ∙ at-clause place (λ l. hints_fail_from active (place + 1) (l ∷ trues) hs) (λ l. hints_fail_from active2 (place + 1) (l ∷ dense_lits vars trues) hs)
        (λ l kl. fail_from-dense hs (place + 1) (l ∷ trues) (and_from _ _ kl kt)) trues kt (active h) (k h)

    pub fail-dense : (ls hs : List ℕ) → are_known vars ls ≡ true → hints_fail active2 (dense_lits vars ls) hs ≡ hints_fail active ls hs
    unfolding hints_fail
    fail-dense ls hs kl = ap (λ b. if b then None else hints_fail_from active2 1 (dense_lits vars ls) hs) (tautology-dense vars ls kl)
        ∙ ap (λ o. if is_tautology ls then None else o) (fail_from-dense hs 1 ls kl)

  -- ---- Literals without a number

  -- both have the same known literals
  abbrev Alike : List ℕ → List ℕ → Type 0
  Alike ks bs = (l : ℕ) → is_known vars l ≡ true → has ks l ≡ has bs l

  alike-left : (ks bs c : List ℕ) → Alike ks bs → are_known vars c ≡ true → left ks c ≡ left bs c
  alike-left ks bs c a k = ap left_of (filters c k)
    where
      filters : (c : List ℕ) → are_known vars c ≡ true → filter (λ m. not (has ks (neg m))) c ≡ filter (λ m. not (has bs (neg m))) c
      filters [] k = refl
      filters (m ∷ ms) k = let parts = and_parts (is_known vars m) (are_known vars ms) k in
          let e : has ks (neg m) ≡ has bs (neg m) = a (neg m) (known-neg vars m ∙ parts.0) in
          let next = filters ms parts.1 in elim (cases_Bool (has bs (neg m))) [
            | inl q ↦ rw (e, q) next
            | inr q ↦ rw (e, q) (ap (λ xs. m ∷ xs) next)
          ]

  module _ (active : ℕ → Option (List ℕ)) (k : KnownById vars active) where
    fail-alike : (hs : List ℕ) (place : ℕ) (ks bs : List ℕ) → Alike ks bs → hints_fail_from active place ks hs ≡ hints_fail_from active place bs hs
    unfolding hints_fail_from
    fail-alike [] place ks bs a = refl
    fail-alike (h ∷ hs) place ks bs a =
        at-clause2 (λ l. fail-alike hs (place + 1) (l ∷ ks) (l ∷ bs) (λ m q. ap (λ b. nat_eq m l || b) (a m q))) (active h) (k h)
      where
        at-left2 : ((l : ℕ) → hints_fail_from active (place + 1) (l ∷ ks) hs ≡ hints_fail_from active (place + 1) (l ∷ bs) hs)
            → (o : Left) → after_hint place (Some o) (λ l. hints_fail_from active (place + 1) (l ∷ ks) hs) ≡ after_hint place (Some o) (λ l. hints_fail_from active (place + 1) (l ∷ bs) hs)
        at-left2 next Falsified = refl
        at-left2 next (UnitLiteral l) = next l
        at-left2 next Open = refl

        at-clause2 : ((l : ℕ) → hints_fail_from active (place + 1) (l ∷ ks) hs ≡ hints_fail_from active (place + 1) (l ∷ bs) hs)
            → (o : Option (List ℕ)) → ((c : List ℕ) → o ≡ Some c → are_known vars c ≡ true)
            → after_hint place (option_map (left ks) o) (λ l. hints_fail_from active (place + 1) (l ∷ ks) hs)
            ≡ after_hint place (option_map (left bs) o) (λ l. hints_fail_from active (place + 1) (l ∷ bs) hs)
        at-clause2 next None kc = refl
        at-clause2 next (Some c) kc = ap (λ z. after_hint place (Some z) (λ l. hints_fail_from active (place + 1) (l ∷ ks) hs)) (alike-left ks bs c a (kc c refl)) ∙ at-left2 next (left bs c)

    known_of-alike : (ls : List ℕ) → Alike ls (known_of vars ls)
    known_of-alike ls = λ l q. both_ways (has ls l) (has (known_of vars ls) l)
        (λ h. has_from (known_of vars ls) l (filter_from (is_known vars) ls l (has_at ls l h) q))
        (λ h. has_from ls l (filter_at (is_known vars) ls l (has_at (known_of vars ls) l h)).0)

    tautology-parted : (ls : List ℕ) → is_tautology ls ≡ (is_tautology (unknown_of vars ls) || is_tautology (known_of vars ls))
    tautology-parted ls = both_ways (is_tautology ls) (is_tautology (unknown_of vars ls) || is_tautology (known_of vars ls))
        (λ h. let t = tautology_at ls h in elim (cases_Bool (is_known vars t.0)) [
          | inl q ↦ or_right _ _ (tautology_from (known_of vars ls) t.0 (filter_from (is_known vars) ls t.0 t.1 q) (filter_from (is_known vars) ls (neg t.0) t.2 (known-neg vars t.0 ∙ q)))
          | inr q ↦ or_left _ _ (tautology_from (unknown_of vars ls) t.0 (filter_from (λ l. not (is_known vars l)) ls t.0 t.1 (not_from_false _ q))
              (filter_from (λ l. not (is_known vars l)) ls (neg t.0) t.2 (not_from_false _ (known-neg vars t.0 ∙ q))))
        ])
        (λ h. elim (or_cases _ _ h) [
          | inl g ↦ let t = tautology_at (unknown_of vars ls) g in tautology_from ls t.0 (filter_at (λ l. not (is_known vars l)) ls t.0 t.1).0 (filter_at (λ l. not (is_known vars l)) ls (neg t.0) t.2).0
          | inr g ↦ let t = tautology_at (known_of vars ls) g in tautology_from ls t.0 (filter_at (is_known vars) ls t.0 t.1).0 (filter_at (is_known vars) ls (neg t.0) t.2).0
        ])

    -- hints close where two literals without a number are opposite, and else fail ks from the literals with one
    pub fail-parted : (ls hs : List ℕ) → hints_fail active ls hs ≡ (if is_tautology (unknown_of vars ls) then None else hints_fail active (known_of vars ls) hs)
    unfolding hints_fail
    fail-parted ls hs =
        ap (λ b. if b then None else hints_fail_from active 1 ls hs) (tautology-parted ls)
        ∙ ap (λ o. if is_tautology (unknown_of vars ls) || is_tautology (known_of vars ls) then None else o) (fail-alike hs 1 ls (known_of vars ls) (known_of-alike ls))
        ∙ either_way (is_tautology (unknown_of vars ls)) (is_tautology (known_of vars ls)) (hints_fail_from active 1 (known_of vars ls) hs)
      where
        either_way : (a b : Bool) (o : Option ℕ) → (if a || b then None else o) ≡ (if a then None else if b then None else o)
        either_way true b o = refl
        either_way false b o = refl
