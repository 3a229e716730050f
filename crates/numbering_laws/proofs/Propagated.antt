-- Rounds over translated clauses find the translations of what the clauses find: each test along the way answers the same.
use Rattle.std.proofs.Common.{◌≡◌, ℕ, zero, suc, true, not, ◌||◌, nat_eq, List, [], ◌∷◌, length, map, filter, refl, sym, ap, ◌∙◌, inl, inr, eqb-true, eq-eqb}
use Rattle.std.specs.List.{list_any, list_all}
use Rattle.std.specs.Cmp.{both_ways}
use Rattle.std.proofs.lemmas.Bool.{cases_Bool, and_parts, and_from}
use Rattle.std.proofs.lemmas.List.{length-map}
use Rattle.lits.specs.Literal.{neg}
use Rattle.lits.specs.Clause.{has, is_tautology}
use Rattle.lits.specs.Numbering.{is_known, are_known, dense_lit, dense_lits}
use Rattle.lits.proofs.Members.{has_from}
use Rattle.lits.proofs.Translated.{dense_lit-neg, dense_lit-injective, has-dense, tautology-dense, known_at, known-neg}
use Rattle.session_rules.specs.declared.Left.{Left}
use Rattle.session_rules.specs.declared.Left.TheVariants.{Falsified, UnitLiteral, Open}
use Rattle.session_rules.specs.Logic.{is_falsified, is_closed, left_of, left, with_unit, propagated, propagated_times, closes}
use Rattle.session_rules.proofs.Closing.{only_member}
use Rattle.numbering_laws.specs.Dense.{dense_clauses, are_known_clauses}
use Rattle.numbering_laws.proofs.Mapped.{any-mapped, all-mapped, filter-mapped, all-filtered}

-- what is left, with its literal translated
abbrev pub dense_left : List ℕ → Left → Left
dense_left vars Falsified = Falsified
dense_left vars (UnitLiteral l) = UnitLiteral (dense_lit vars l)
dense_left vars Open = Open

module _ (vars : List ℕ) where
  -- ---- One clause

  false-dense : (trues : List ℕ) (m : ℕ) → are_known vars trues ≡ true → has (dense_lits vars trues) (neg (dense_lit vars m)) ≡ has trues (neg m)
  false-dense trues m k = ap (has (dense_lits vars trues)) (sym (dense_lit-neg vars m)) ∙ has-dense vars trues (neg m) k

  pub falsified-dense : (trues c : List ℕ) → are_known vars trues ≡ true → is_falsified (dense_lits vars trues) (dense_lits vars c) ≡ is_falsified trues c
  falsified-dense trues c k = all-mapped (dense_lit vars) (λ m. has (dense_lits vars trues) (neg m)) (λ m. has trues (neg m)) c (λ m n. false-dense trues m k)

  eq-dense : (l m : ℕ) → is_known vars l ≡ true → nat_eq (dense_lit vars l) (dense_lit vars m) ≡ nat_eq l m
  eq-dense l m k = both_ways (nat_eq (dense_lit vars l) (dense_lit vars m)) (nat_eq l m)
      (λ h. eq-eqb l m (dense_lit-injective vars l m k (eqb-true _ _ h)))
      (λ h. eq-eqb _ _ (ap (dense_lit vars) (eqb-true l m h)))

  left_of-dense : (ls : List ℕ) → are_known vars ls ≡ true → left_of (dense_lits vars ls) ≡ dense_left vars (left_of ls)
  left_of-dense [] k = refl
  left_of-dense (l ∷ ls) k =
      let e : list_all (nat_eq (dense_lit vars l)) (dense_lits vars ls) ≡ list_all (nat_eq l) ls =
      all-mapped (dense_lit vars) (nat_eq (dense_lit vars l)) (nat_eq l) ls (λ m n. eq-dense l m (and_parts _ _ k).0) in
      elim (cases_Bool (list_all (nat_eq l) ls)) [
        | inl q ↦ rw (e, q) refl
        | inr q ↦ rw (e, q) refl
      ]

  pub left-dense : (trues c : List ℕ) → are_known vars trues ≡ true → are_known vars c ≡ true → left (dense_lits vars trues) (dense_lits vars c) ≡ dense_left vars (left trues c)
  left-dense trues c k kc =
      ap left_of (filter-mapped (dense_lit vars) (λ m. not (has (dense_lits vars trues) (neg m))) (λ m. not (has trues (neg m))) c (λ m n. ap not (false-dense trues m k)))
      ∙ left_of-dense (filter (λ m. not (has trues (neg m))) c) (all-filtered (λ m. not (has trues (neg m))) (is_known vars) c kc)

  -- the unit that is left is known
  pub left-known : (trues c : List ℕ) (l : ℕ) → are_known vars c ≡ true → left trues c ≡ UnitLiteral l → is_known vars l ≡ true
  left-known trues c l kc e = let ls : List ℕ = filter (λ m. not (has trues (neg m))) c in
      known_at vars ls l (all-filtered (λ m. not (has trues (neg m))) (is_known vars) c kc) (has_from ls l (only_member ls l e).0)

  -- ---- Rounds

  with_unit-dense : (o : Left) (trues : List ℕ) → are_known vars trues ≡ true → with_unit (dense_left vars o) (dense_lits vars trues) ≡ dense_lits vars (with_unit o trues)
  with_unit-dense Falsified trues k = refl
  with_unit-dense (UnitLiteral l) trues k = let e = has-dense vars trues l k in elim (cases_Bool (has trues l)) [
    | inl q ↦ rw (e, q) refl
    | inr q ↦ rw (e, q) refl
  ]
  with_unit-dense Open trues k = refl

  with_unit-known : (o : Left) (trues : List ℕ) → ((l : ℕ) → o ≡ UnitLiteral l → is_known vars l ≡ true) → are_known vars trues ≡ true → are_known vars (with_unit o trues) ≡ true
  with_unit-known Falsified trues u k = k
  with_unit-known (UnitLiteral l) trues u k = elim (cases_Bool (has trues l)) [
    | inl q ↦ rw q k
    | inr q ↦ rw q (and_from _ _ (u l refl) k)
  ]
  with_unit-known Open trues u k = k

  one-known : (c trues : List ℕ) → are_known vars c ≡ true → are_known vars trues ≡ true → are_known vars (with_unit (left trues c) trues) ≡ true
  one-known c trues kc k = with_unit-known (left trues c) trues (λ l e. left-known trues c l kc e) k

  propagated-known : (cs : List (List ℕ)) (trues : List ℕ) → are_known_clauses vars cs ≡ true → are_known vars trues ≡ true → are_known vars (propagated cs trues) ≡ true
  unfolding propagated
  propagated-known [] trues kc k = k
  propagated-known (c ∷ cs) trues kc k = let parts = and_parts (are_known vars c) (are_known_clauses vars cs) kc in
      propagated-known cs (with_unit (left trues c) trues) parts.1 (one-known c trues parts.0 k)

  propagated-dense : (cs : List (List ℕ)) (trues : List ℕ) → are_known_clauses vars cs ≡ true → are_known vars trues ≡ true
      → propagated (dense_clauses vars cs) (dense_lits vars trues) ≡ dense_lits vars (propagated cs trues)
  unfolding propagated
  propagated-dense [] trues kc k = refl
  propagated-dense (c ∷ cs) trues kc k = let parts = and_parts (are_known vars c) (are_known_clauses vars cs) kc in
      ap (λ o. propagated (dense_clauses vars cs) (with_unit o (dense_lits vars trues))) (left-dense trues c k parts.0)
      ∙ ap (propagated (dense_clauses vars cs)) (with_unit-dense (left trues c) trues k)
      ∙ propagated-dense cs (with_unit (left trues c) trues) parts.1 (one-known c trues parts.0 k)

  times-known : (n : ℕ) (cs : List (List ℕ)) (trues : List ℕ) → are_known_clauses vars cs ≡ true → are_known vars trues ≡ true → are_known vars (propagated_times n cs trues) ≡ true
  unfolding propagated_times
  times-known zero cs trues kc k = k
  times-known (suc n) cs trues kc k = times-known n cs (propagated cs trues) kc (propagated-known cs trues kc k)

  times-dense : (n : ℕ) (cs : List (List ℕ)) (trues : List ℕ) → are_known_clauses vars cs ≡ true → are_known vars trues ≡ true
      → propagated_times n (dense_clauses vars cs) (dense_lits vars trues) ≡ dense_lits vars (propagated_times n cs trues)
  unfolding propagated_times
  times-dense zero cs trues kc k = refl
  times-dense (suc n) cs trues kc k = ap (propagated_times n (dense_clauses vars cs)) (propagated-dense cs trues kc k) ∙ times-dense n cs (propagated cs trues) kc (propagated-known cs trues kc k)

  closed-dense : (cs : List (List ℕ)) (trues : List ℕ) → are_known vars trues ≡ true → is_closed (dense_clauses vars cs) (dense_lits vars trues) ≡ is_closed cs trues
  closed-dense cs trues k =
      ap (λ b. b || list_any (is_falsified (dense_lits vars trues)) (dense_clauses vars cs)) (tautology-dense vars trues k)
      ∙ ap (λ b. is_tautology trues || b) (any-mapped (dense_lits vars) (is_falsified (dense_lits vars trues)) (is_falsified trues) cs (λ c m. falsified-dense trues c k))

  -- translated clauses close from translated literals where the clauses close from the literals
  pub closes-dense : (cs : List (List ℕ)) (ls : List ℕ) → are_known_clauses vars cs ≡ true → are_known vars ls ≡ true → closes (dense_clauses vars cs) (dense_lits vars ls) ≡ closes cs ls
  unfolding closes
  closes-dense cs ls kc k =
      ap (λ n. is_closed (dense_clauses vars cs) (propagated_times n (dense_clauses vars cs) (dense_lits vars ls))) (length-map cs (dense_lits vars))
      ∙ ap (is_closed (dense_clauses vars cs)) (times-dense (length cs) cs ls kc k)
      ∙ closed-dense cs (propagated_times (length cs) cs ls) (times-known (length cs) cs ls kc k)

  -- ---- Negations

  pub negs-dense : (ls : List ℕ) → map neg (dense_lits vars ls) ≡ dense_lits vars (map neg ls)
  negs-dense [] = refl
  negs-dense (l ∷ ls) = ap (λ m. m ∷ map neg (dense_lits vars ls)) (sym (dense_lit-neg vars l)) ∙ ap (λ ms. dense_lit vars (neg l) ∷ ms) (negs-dense ls)

  pub negs-known : (ls : List ℕ) → are_known vars ls ≡ true → are_known vars (map neg ls) ≡ true
  negs-known [] k = refl
  negs-known (l ∷ ls) k = let parts = and_parts (is_known vars l) (are_known vars ls) k in and_from _ _ (known-neg vars l ∙ parts.0) (negs-known ls parts.1)
