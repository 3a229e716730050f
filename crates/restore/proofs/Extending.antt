-- The values that a stack extends satisfy the clauses of its entries.
use Rattle.std.proofs.Common.{◌≡◌, ℕ, ◌⊎◌, Bool, true, false, not, ◌&&◌, ◌||◌, nat_eq, List, [], ◌∷◌, ◌++◌, map, filter, flat_map, Contains, refl, sym, ◌∙◌, subst, inl, inr, arith, append_assoc, ne_eqb, eqb-true, eq-eqb, if◌then◌else◌}
use Rattle.std.specs.List.{list_any, list_all}
use Rattle.std.proofs.lemmas.Bool.{and_parts, and_from, or_cases, or_parts, or_left, or_right, cases_Bool, both_ways, not-true, not_from_true, not_from_false, eqb-false}
use Rattle.std.proofs.lemmas.List.Folds.{list_all-append, list_any-append}
use Rattle.lits.specs.Literal.{var, positive, neg}
use Rattle.session_rules.specs.Logic.{has, is_tautology, satisfies, satisfies_clause, satisfies_formula}
use Rattle.lits.proofs.Members.{here, there, not_in_nil, here_or_there, all_at, all_from, any_at, any_from, filter_from, filter_at, has_at, has_from}
use Rattle.lits.proofs.Literal.{var-neg}
use Rattle.restore.specs.Resolution.{of_variable, is_plain, is_negated, has_variable, holds, holds_negated, without, resolvent, Entails}
use Rattle.restore.specs.declared.lists.Elim.{Elim}
use Rattle.restore.specs.Stack.{clauses_of, stacked, IsKeptBy, KeepsResolvents, with_value, needs, extended, has_entry}

-- ---- Tests of lists

-- a test that not all pass fails for one
pub not_all_at : {X : Type 0} (p : X → Bool) (xs : List X) → list_all p xs ≡ false → (y : X) × Contains xs y × (p y ≡ false)
not_all_at p [] h = cc
not_all_at p (x ∷ xs) h = elim (cases_Bool (p x)) [
  | inl e ↦ let f : list_all p xs ≡ false = rw e at h in let r = not_all_at p xs f in (r.0, there x r.0 xs r.1, r.2)
  | inr e ↦ (x, here x xs, e)
]

-- a test that none passes fails for each
pub none_at : {X : Type 0} (p : X → Bool) (xs : List X) (y : X) → list_any p xs ≡ false → Contains xs y → p y ≡ false
none_at p xs y h m = elim (cases_Bool (p y)) [
  | inl e ↦ absurd (both_ways _ h (any_from p xs y m e))
  | inr e ↦ e
]

pub none_from : {X : Type 0} (p : X → Bool) (xs : List X) → ((y : X) → Contains xs y → p y ≡ false) → list_any p xs ≡ false
none_from p xs h = elim (cases_Bool (list_any p xs)) [
  | inl e ↦ let r = any_at p xs e in absurd (both_ways _ (h r.0 r.1) r.2)
  | inr e ↦ e
]

-- ---- Literals of a variable

-- a clause with the variable holds it or its negation
pub negated_unless_held : (x : ℕ) (c : List ℕ) → has_variable x c ≡ true → holds x c ≡ false → holds_negated x c ≡ true
negated_unless_held x c m h = let l = any_at (of_variable x) c m in
    let p : positive l.0 ≡ false = elim (cases_Bool (positive l.0)) [
      | inl q ↦ absurd (both_ways _ (none_at (is_plain x) c l.0 h l.1) (and_from _ _ l.2 q))
      | inr q ↦ q
    ] in
    any_from (is_negated x) c l.0 l.1 (and_from _ _ l.2 (not_from_false _ p))

-- a literal of another variable keeps its value
pub other_kept : (v : ℕ → Bool) (x : ℕ) (b : Bool) (l : ℕ) → of_variable x l ≡ false → satisfies (with_value v x b) l ≡ satisfies v l
other_kept v x b l h = rw h refl

-- a clause without the variable too
pub unmentioned_kept : (v : ℕ → Bool) (x : ℕ) (b : Bool) (c : List ℕ) → has_variable x c ≡ false → satisfies_clause v c ≡ true → satisfies_clause (with_value v x b) c ≡ true
unmentioned_kept v x b c h s = let l = any_at (satisfies v) c s in
    any_from (satisfies (with_value v x b)) c l.0 l.1 (other_kept v x b l.0 (none_at (of_variable x) c l.0 h l.1) ∙ l.2)

plain_satisfied : (v : ℕ → Bool) (x l : ℕ) → is_plain x l ≡ true → satisfies (with_value v x true) l ≡ true
plain_satisfied v x l h = let p : (of_variable x l ≡ true) × (positive l ≡ true) = and_parts _ _ h in let a = p.0 in let b = p.1 in rw (b, a) refl

negated_satisfied : (v : ℕ → Bool) (x l : ℕ) → is_negated x l ≡ true → satisfies (with_value v x false) l ≡ true
negated_satisfied v x l h = let p : (of_variable x l ≡ true) × (not (positive l) ≡ true) = and_parts _ _ h in let a = p.0 in let b : positive l ≡ false = not-true (positive l) p.1 in rw (b, a) refl

-- a negation has the other value
satisfies-neg : (v : ℕ → Bool) (l : ℕ) → satisfies v (neg l) ≡ not (satisfies v l)
satisfies-neg v l = rw (var-neg l) (by_sign (positive l) (positive (neg l)) (v (var l)) (positive-neg l))
  where
    positive-neg : (l : ℕ) → positive (neg l) ≡ not (positive l)
    positive-neg l = elim (cases_Bool (positive l)) [
      | inl e ↦ let z = eqb-true _ _ e in rw e (ne_eqb _ _ (λ k. omega arith))
      | inr e ↦ let z = eqb-false _ _ e in rw e (eq-eqb _ _ (omega arith))
    ]

    twice : (c : Bool) → not (not c) ≡ c
    twice true = refl
    twice false = refl

    by_sign : (a b c : Bool) → b ≡ not a → (if b then c else not c) ≡ not (if a then c else not c)
    by_sign true b c e = rw e refl
    by_sign false b c e = rw e (sym (twice c))

-- an assignment satisfies a tautology
pub tautology_satisfied : (v : ℕ → Bool) (c : List ℕ) → is_tautology c ≡ true → satisfies_clause v c ≡ true
tautology_satisfied v c t = let l = any_at (λ x. has c (neg x)) c t in elim (cases_Bool (satisfies v l.0)) [
  | inl q ↦ any_from (satisfies v) c l.0 l.1 q
  | inr q ↦ any_from (satisfies v) c (neg l.0) (has_at c (neg l.0) l.2) (satisfies-neg v l.0 ∙ not_from_false _ q)
]

-- a clause that needs the variable has no other true literal
needs_false : (v : ℕ → Bool) (x : ℕ) (c : List ℕ) → needs v x c ≡ true → satisfies_clause v (without x c) ≡ false
needs_false v x c h = none_from (satisfies v) (without x c) (λ l m.
    let r = filter_at (λ l. not (of_variable x l)) c l m in
    elim (or_cases _ _ (all_at (λ l. is_plain x l || not (satisfies v l)) c l (and_parts _ _ h).1 r.0)) [
      | inl q ↦ absurd (both_ways _ (not-true _ r.1) (and_parts _ _ q).0)
      | inr q ↦ not-true _ q
    ])

-- ---- One entry

module _ (e : Elim) (behind : List (List ℕ)) (k : IsKeptBy e behind) (v : ℕ → Bool) (f : satisfies_formula v behind ≡ true) where
  -- where a clause needs the variable, a clause with its negation has another true literal
  other_true : (c d : List ℕ) → Contains (clauses_of e) c → Contains (clauses_of e) d → needs v e.var c ≡ true → holds_negated e.var d ≡ true
      → satisfies_clause v (without e.var d) ≡ true
  other_true c d m n h g = let s : satisfies_clause v (resolvent e.var c d) ≡ true = elim (cases_Bool (is_tautology (resolvent e.var c d))) [
    | inl q ↦ tautology_satisfied v (resolvent e.var c d) q
    | inr q ↦ k.implied c d m n (and_parts _ _ h).0 g q v f
  ] in
      let t = sym (list_any-append (satisfies v) (without e.var c) (without e.var d)) ∙ s in
      elim (or_cases _ _ t) [
        | inl q ↦ absurd (both_ways _ (needs_false v e.var c h) q)
        | inr q ↦ q
      ]

  entry_true : (c d : List ℕ) → Contains (clauses_of e) c → needs v e.var c ≡ true → Contains (clauses_of e) d → satisfies_clause (with_value v e.var true) d ≡ true
  entry_true c d m h n = elim (cases_Bool (holds e.var d)) [
    | inl q ↦ let l = any_at (is_plain e.var) d q in any_from (satisfies (with_value v e.var true)) d l.0 l.1 (plain_satisfied v e.var l.0 l.2)
    | inr q ↦ let s = other_true c d m n h (negated_unless_held e.var d (k.holding d n) q) in
        let l = any_at (satisfies v) (without e.var d) s in
        let r = filter_at (λ l. not (of_variable e.var l)) d l.0 l.1 in
        any_from (satisfies (with_value v e.var true)) d l.0 r.0 (other_kept v e.var true l.0 (not-true _ r.1) ∙ l.2)
  ]

  entry_false : (d : List ℕ) → Contains (clauses_of e) d → needs v e.var d ≡ false → satisfies_clause (with_value v e.var false) d ≡ true
  entry_false d n h = elim (cases_Bool (holds_negated e.var d)) [
    | inl q ↦ let l = any_at (is_negated e.var) d q in any_from (satisfies (with_value v e.var false)) d l.0 l.1 (negated_satisfied v e.var l.0 l.2)
    | inr q ↦ let p : holds e.var d ≡ true = elim (cases_Bool (holds e.var d)) [
      | inl p ↦ p
      | inr p ↦ absurd (both_ways _ q (negated_unless_held e.var d (k.holding d n) p))
    ] in
        let g : list_all (λ l. is_plain e.var l || not (satisfies v l)) d ≡ false = rw p at h in
        let l = not_all_at (λ l. is_plain e.var l || not (satisfies v l)) d g in
        let o = or_parts _ _ l.2 in
        let a : satisfies v l.0 ≡ true = not-false _ o.1 in
        let b : of_variable e.var l.0 ≡ false = elim (cases_Bool (of_variable e.var l.0)) [
          | inl y ↦ absurd (not_both e.var l.0 y o.0 (none_at (is_negated e.var) d l.0 q l.1))
          | inr y ↦ y
        ] in
        any_from (satisfies (with_value v e.var false)) d l.0 l.1 (other_kept v e.var false l.0 b ∙ a)
  ]
    where
      not-false : (b : Bool) → not b ≡ false → b ≡ true
      not-false true h = refl
      not-false false h = cc

      not_both : (x l : ℕ) → of_variable x l ≡ true → is_plain x l ≡ false → is_negated x l ≡ false → ⊥
      not_both x l y p q = elim (cases_Bool (positive l)) [
        | inl t ↦ both_ways _ p (and_from _ _ y t)
        | inr t ↦ both_ways _ q (and_from _ _ y (not_from_false _ t))
      ]

  entry_satisfied : (b : Bool) → list_any (needs v e.var) (clauses_of e) ≡ b → (d : List ℕ) → Contains (clauses_of e) d → satisfies_clause (with_value v e.var b) d ≡ true
  entry_satisfied true h d n = let c = any_at (needs v e.var) (clauses_of e) h in entry_true c.0 d c.1 c.2 n
  entry_satisfied false h d n = entry_false d n (none_at (needs v e.var) (clauses_of e) d h n)

-- ---- The stack

pub extended_satisfies : (es : List Elim) (cs : List (List ℕ)) → KeepsResolvents es cs → (v : ℕ → Bool) → satisfies_formula v cs ≡ true
    → satisfies_formula (extended es v) (stacked es ++ cs) ≡ true
extended_satisfies [] cs k v f = f
extended_satisfies (e ∷ es) cs k v f = let w = extended es v in let g = extended_satisfies es cs k.1 v f in
    let b = list_any (needs w e.var) (clauses_of e) in
    let a : satisfies_formula (with_value w e.var b) (clauses_of e) ≡ true =
    all_from (satisfies_clause (with_value w e.var b)) (clauses_of e) (λ d n. entry_satisfied e (stacked es ++ cs) k.0 w g b refl d n) in
    let r : satisfies_formula (with_value w e.var b) (stacked es ++ cs) ≡ true =
    all_from (satisfies_clause (with_value w e.var b)) (stacked es ++ cs)
    (λ c m. unmentioned_kept w e.var b c (k.0.apart c m) (all_at (satisfies_clause w) (stacked es ++ cs) c g m)) in
    rw (append_assoc) (list_all-append (satisfies_clause (with_value w e.var b)) (clauses_of e) (stacked es ++ cs) ∙ and_from _ _ a r)

-- a variable that has no entry keeps its value
pub extended_outside : (es : List Elim) (v : ℕ → Bool) (x : ℕ) → has_entry es x ≡ false → extended es v x ≡ v x
extended_outside [] v x h = refl
extended_outside (e ∷ es) v x h = let p = or_parts _ _ h in let q : nat_eq x e.var ≡ false = nat_eq-other e.var x p.0 in
    rw q (extended_outside es v x p.1)
  where
    nat_eq-other : (a b : ℕ) → nat_eq a b ≡ false → nat_eq b a ≡ false
    nat_eq-other a b h = ne_eqb _ _ (λ e. eqb-false _ _ h (sym e))
