-- Hints that close give a closing sequence, the rounds find one, and a closing sequence is sound.
use Rattle.std.proofs.Common.{◌≡◌, ℕ, zero, suc, ◌+◌, ◌%◌, Bool, true, false, not, cond, ◌||◌, nat_eq, List, [], ◌∷◌, length, filter, Contains, Option, Some, None, option_map, refl, sym, ◌∙◌, subst, inl, inr, arith, eqb-true, eq-eqb, ne_eqb}
use Rattle.std.specs.List.{list_all}
use Rattle.std.proofs.lemmas.Bool.{and_parts, and_from, or_cases, or_left, or_right, cases_Bool, both_ways, not-true, not_from_false, eqb-false}
use Rattle.lits.specs.Literal.{neg, var, positive}
use Rattle.lits.proofs.Literal.{var-neg}
use Rattle.session_rules.specs.declared.Left.{Left}
use Rattle.session_rules.specs.declared.Left.TheVariants.{Falsified, UnitLiteral, Open}
use Rattle.session_rules.specs.Logic.{has, is_tautology, satisfies, satisfies_clause, satisfies_each, satisfies_formula, Contradicts, is_falsified, is_unit, is_closed, Propagates, trues_after, Closes, left_of, left, with_unit, propagated, propagated_times, closes, after_hint, hints_fail_from, hints_fail}
use Rattle.lits.proofs.Members.{here, there, not_in_nil, here_or_there, all_at, all_from, any_at, any_from, filter_from, filter_at, has_at, has_from}

-- ---- What is left of a clause

-- a unit is the only member of what is left
pub only_member : (ls : List ℕ) (l : ℕ) → left_of ls ≡ UnitLiteral l → Contains ls l × ((m : ℕ) → Contains ls m → l ≡ m)
only_member [] l e = cc
only_member (x ∷ xs) l e = elim (cases_Bool (list_all (nat_eq x) xs)) [
  | inl q ↦ let f : UnitLiteral x ≡ UnitLiteral l = rw q at e in let g : x ≡ l = cc f in (
    subst (λ z. Contains (x ∷ xs) z) g (here x xs),
    λ m n. elim (here_or_there x m xs n) [ inl h ↦ sym g ∙ h | inr h ↦ sym g ∙ eqb-true x m (all_at (nat_eq x) xs m q h) ],
  )
  | inr q ↦ let f : Open ≡ UnitLiteral l = rw q at e in cc f
]

pub no_member : (ls : List ℕ) → left_of ls ≡ Falsified → ls ≡ []
no_member [] e = refl
no_member (x ∷ xs) e = elim (cases_Bool (list_all (nat_eq x) xs)) [
  | inl q ↦ let f : UnitLiteral x ≡ Falsified = rw q at e in cc f
  | inr q ↦ let f : Open ≡ Falsified = rw q at e in cc f
]

-- a literal that isn't left is false
false_unless_left : (trues : List ℕ) (c : List ℕ) (m : ℕ) → Contains c m → (Contains (filter (λ x. not (has trues (neg x))) c) m → ⊥) → has trues (neg m) ≡ true
false_unless_left trues c m n h = elim (cases_Bool (has trues (neg m))) [
  | inl q ↦ q
  | inr q ↦ absurd (h (filter_from (λ x. not (has trues (neg x))) c m n (not_from_false _ q)))
]

pub is_unit_from_left : (trues c : List ℕ) (l : ℕ) → left trues c ≡ UnitLiteral l → is_unit trues c l ≡ true
is_unit_from_left trues c l e = let only = only_member _ l e in
    and_from _ _ (has_from c l (filter_at (λ x. not (has trues (neg x))) c l only.0).0)
    (all_from (λ m. nat_eq l m || has trues (neg m)) c (λ m n. elim (cases_Bool (nat_eq l m)) [
      | inl q ↦ or_left _ _ q
      | inr q ↦ or_right _ _ (false_unless_left trues c m n (λ k. both_ways _ q (eq-eqb l m (only.1 m k))))
    ]))

pub is_falsified_from_left : (trues c : List ℕ) → left trues c ≡ Falsified → is_falsified trues c ≡ true
is_falsified_from_left trues c e = let none = no_member _ e in
    all_from (λ m. has trues (neg m)) c (λ m n. false_unless_left trues c m n (λ k. not_in_nil m (subst (λ z. Contains z m) none k)))

-- ---- Hints

-- one more unit propagation in front of a closing sequence
pub Closes-cons : (cs : List (List ℕ)) (trues c : List ℕ) (l : ℕ) → Contains cs c → is_unit trues c l ≡ true → Closes cs (l ∷ trues) → Closes cs trues
Closes-cons cs trues c l m u r = ((c, l) ∷ r.0, (m, u, r.1), r.2)

-- at a clause that a hint names
at_clause : (cs : List (List ℕ)) (trues c : List ℕ) (place : ℕ) (next : ℕ → Option ℕ) → Contains cs c
    → ((l : ℕ) → next l ≡ None → Closes cs (l ∷ trues)) → (o : Left) → left trues c ≡ o → after_hint place (Some o) next ≡ None → Closes cs trues
at_clause cs trues c place next m more Falsified o f = ([], tt, or_right _ _ (any_from (is_falsified trues) cs c m (is_falsified_from_left trues c o)))
at_clause cs trues c place next m more (UnitLiteral l) o f = Closes-cons cs trues c l m (is_unit_from_left trues c l o) (more l f)
at_clause cs trues c place next m more Open o f = cc

-- at a hint
at_hint : (cs : List (List ℕ)) (trues : List ℕ) (place : ℕ) (next : ℕ → Option ℕ) (o : Option (List ℕ)) → ((c : List ℕ) → o ≡ Some c → Contains cs c)
    → ((l : ℕ) → next l ≡ None → Closes cs (l ∷ trues)) → after_hint place (option_map (left trues) o) next ≡ None → Closes cs trues
at_hint cs trues place next None m more f = cc
at_hint cs trues place next (Some c) m more f = at_clause cs trues c place next (m c refl) more (left trues c) refl f

hints_close_from : (cs : List (List ℕ)) (active : ℕ → Option (List ℕ)) → ((h : ℕ) (c : List ℕ) → active h ≡ Some c → Contains cs c)
    → (hs : List ℕ) (place : ℕ) (trues : List ℕ) → hints_fail_from active place trues hs ≡ None → Closes cs trues
unfolding hints_fail_from
hints_close_from cs active member [] place trues e = cc
hints_close_from cs active member (h ∷ hs) place trues e =
    at_hint cs trues place (λ l. hints_fail_from active (place + 1) (l ∷ trues) hs) (active h) (member h)
    (λ l f. hints_close_from cs active member hs (place + 1) (l ∷ trues) f) e

-- hints that close give a closing sequence of clauses that have each active one
pub hints_close : (cs : List (List ℕ)) (active : ℕ → Option (List ℕ)) → ((h : ℕ) (c : List ℕ) → active h ≡ Some c → Contains cs c)
    → (ls hs : List ℕ) → hints_fail active ls hs ≡ None → Closes cs ls
unfolding hints_fail
hints_close cs active member ls hs e = elim (cases_Bool (is_tautology ls)) [
  | inl q ↦ ([], tt, or_left _ _ q)
  | inr q ↦ let f : hints_fail_from active 1 ls hs ≡ None = rw q at e in hints_close_from cs active member hs 1 ls f
]

-- ---- The rounds find a sequence

-- what one clause adds
closes_with_unit : (cs : List (List ℕ)) (trues c : List ℕ) → Contains cs c → (o : Left) → left trues c ≡ o → Closes cs (with_unit o trues) → Closes cs trues
closes_with_unit cs trues c m Falsified e r = r
closes_with_unit cs trues c m (UnitLiteral l) e r = elim (cases_Bool (has trues l)) [
  | inl q ↦ let f : Closes cs trues = rw q at r in f
  | inr q ↦ let f : Closes cs (l ∷ trues) = rw q at r in Closes-cons cs trues c l m (is_unit_from_left trues c l e) f
]
closes_with_unit cs trues c m Open e r = r

closes_propagated : (cs ds : List (List ℕ)) (trues : List ℕ) → ((c : List ℕ) → Contains ds c → Contains cs c) → Closes cs (propagated ds trues) → Closes cs trues
unfolding propagated
closes_propagated cs [] trues member r = r
closes_propagated cs (d ∷ ds) trues member r = closes_with_unit cs trues d (member d (here d ds)) (left trues d) refl
    (closes_propagated cs ds (with_unit (left trues d) trues) (λ c m. member c (there d c ds m)) r)

closes_propagated_times : (n : ℕ) (cs : List (List ℕ)) (trues : List ℕ) → Closes cs (propagated_times n cs trues) → Closes cs trues
unfolding propagated_times
closes_propagated_times zero cs trues r = r
closes_propagated_times (suc n) cs trues r = closes_propagated cs cs trues (λ c m. m) (closes_propagated_times n cs (propagated cs trues) r)

-- where the rounds close there is a closing sequence
pub Closes-from_closes : (cs : List (List ℕ)) (ls : List ℕ) → closes cs ls ≡ true → Closes cs ls
unfolding closes
Closes-from_closes cs ls e = closes_propagated_times (length cs) cs ls ([], tt, e)

-- ---- A closing sequence is sound

positive-neg : (l : ℕ) → positive (neg l) ≡ not (positive l)
positive-neg l = elim (cases_Bool (nat_eq (l % 2) 0)) [
  | inl q ↦ let e : l % 2 ≡ 0 = eqb-true _ _ q in let f : (neg l % 2 ≡ 0) → ⊥ = omega arith in rw q (ne_eqb _ _ f)
  | inr q ↦ let e : (l % 2 ≡ 0) → ⊥ = eqb-false _ _ q in let f : neg l % 2 ≡ 0 = omega arith in rw q (eq-eqb _ _ f)
]

cond_not : (b x : Bool) → cond (not b) x (not x) ≡ not (cond b x (not x))
cond_not true x = refl
cond_not false true = refl
cond_not false false = refl

-- an assignment satisfies a literal or its negation
pub satisfies-neg_is : (v : ℕ → Bool) (l : ℕ) → satisfies v (neg l) ≡ not (satisfies v l)
satisfies-neg_is v l = rw (positive-neg l, var-neg l) (cond_not (positive l) (v (var l)))

pub satisfies-neg : (v : ℕ → Bool) (l : ℕ) → satisfies v l ≡ true → satisfies v (neg l) ≡ true → ⊥
satisfies-neg v l h k = both_ways _ (not-true _ (sym (satisfies-neg_is v l) ∙ k)) h

-- an assignment that satisfies a clause and the true literals satisfies its unit
satisfies_unit : (v : ℕ → Bool) (trues c : List ℕ) (l : ℕ) → satisfies_each v trues ≡ true → satisfies_clause v c ≡ true → is_unit trues c l ≡ true → satisfies v l ≡ true
satisfies_unit v trues c l t s u = let m = any_at (satisfies v) c s in
    elim (or_cases _ _ (all_at (λ x. nat_eq l x || has trues (neg x)) c m.0 (and_parts _ _ u).1 m.1)) [
      | inl q ↦ subst (λ z. satisfies v z ≡ true) (sym (eqb-true l m.0 q)) m.2
      | inr q ↦ absurd (satisfies-neg v m.0 m.2 (all_at (satisfies v) trues (neg m.0) t (has_at trues (neg m.0) q)))
    ]

-- none satisfies closed literals
not_closed : (cs : List (List ℕ)) (trues : List ℕ) (v : ℕ → Bool) → satisfies_formula v cs ≡ true → satisfies_each v trues ≡ true → is_closed cs trues ≡ true → ⊥
not_closed cs trues v f t h = elim (or_cases _ _ h) [
  | inl q ↦ let m = any_at (λ l. has trues (neg l)) trues q in
      satisfies-neg v m.0 (all_at (satisfies v) trues m.0 t m.1) (all_at (satisfies v) trues (neg m.0) t (has_at trues (neg m.0) m.2))
  | inr q ↦ let c = any_at (is_falsified trues) cs q in let m = any_at (satisfies v) c.0 (all_at (satisfies_clause v) cs c.0 f c.1) in
      satisfies-neg v m.0 m.2 (all_at (satisfies v) trues (neg m.0) t (has_at trues (neg m.0) (all_at (λ x. has trues (neg x)) c.0 m.0 c.2 m.1)))
]

not_after : (cs : List (List ℕ)) (v : ℕ → Bool) → satisfies_formula v cs ≡ true → (ps : List (List ℕ × ℕ)) (trues : List ℕ) → satisfies_each v trues ≡ true
    → Propagates cs trues ps → is_closed cs (trues_after trues ps) ≡ true → ⊥
not_after cs v f [] trues t h e = not_closed cs trues v f t e
not_after cs v f (p ∷ ps) trues t h e =
    not_after cs v f ps (p.1 ∷ trues) (and_from _ _ (satisfies_unit v trues p.0 p.1 t (all_at (satisfies_clause v) cs p.0 f h.0) h.1) t) h.2 e

-- clauses that close from literals contradict them
pub Contradicts-from_Closes : (cs : List (List ℕ)) (ls : List ℕ) → Closes cs ls → Contradicts cs ls
Contradicts-from_Closes cs ls r = λ v f t. not_after cs v f r.0 ls t r.1 r.2
