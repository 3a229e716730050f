-- The resolvent of two lists without repeats, each literal at its first place.
use Rattle.std.proofs.Common.{◌≡◌, ℕ, Bool, true, false, not, ◌&&◌, ◌||◌, nat_eq, List, [], ◌∷◌, ◌++◌, append_assoc, filter, get_or, Contains, refl, sym, ap, ◌∙◌, subst, inl, inr, eqb-true}
use Rattle.std.proofs.lemmas.Bool.{cases_Bool, both_ways, false_from_ne_true}
use Rattle.lits.specs.Clause.{has}
use Rattle.lits.proofs.Members.{here, there, has_from}
use Rattle.clause_store.specs.Clauses.{IsOnce, firsts, firsts_behind, with_new}
use Rattle.clause_store.proofs.Lists.{firsts-once, has-push}
use Rattle.restore.specs.Resolution.{of_variable, without, resolvent}
use Rattle.resolvents.specs.Held.{unmarked}

-- two tests that agree on a list pick the same of it
filter-same : (f g : ℕ → Bool) (ls : List ℕ) → ((l : ℕ) → Contains ls l → f l ≡ g l) → filter f ls ≡ filter g ls
filter-same f g [] h = refl
filter-same f g (x ∷ ls) h = let r = filter-same f g ls (λ l m. h l (there x l ls m)) in elim (cases_Bool (g x)) [
  | inl y ↦ let fx = h x (here x ls) ∙ y in rw (fx, y) (ap (λ z. x ∷ z) r)
  | inr y ↦ let fx = h x (here x ls) ∙ y in rw (fx, y) r
]

-- a test of what another test picked
filter-filter : (f g : ℕ → Bool) (ls : List ℕ) → filter f (filter g ls) ≡ filter (λ l. g l && f l) ls
filter-filter f g [] = refl
filter-filter f g (x ∷ ls) = let r = filter-filter f g ls in elim (cases_Bool (g x)) [
  | inl y ↦ elim (cases_Bool (f x)) [ inl z ↦ rw (y, z) (ap (λ w. x ∷ w) r) | inr z ↦ rw (y, z) r ]
  | inr y ↦ rw y r
]

has-filter : (p : ℕ → Bool) (ls : List ℕ) (q : ℕ) → p q ≡ true → has (filter p ls) q ≡ has ls q
has-filter p [] q h = refl
has-filter p (x ∷ ls) q h = let r = has-filter p ls q h in elim (cases_Bool (p x)) [
  | inl y ↦ rw y (ap (λ b. nat_eq q x || b) r)
  | inr y ↦ let n : nat_eq q x ≡ false = false_from_ne_true _ (λ e. both_ways _ y (subst (λ z. p z ≡ true) (eqb-true q x e) h)) in rw (y, n) r
]

once-filter : (p : ℕ → Bool) (ls : List ℕ) → IsOnce ls → IsOnce (filter p ls)
once-filter p [] o = tt
once-filter p (x ∷ ls) o = elim (cases_Bool (p x)) [
  | inl y ↦ rw y (has-filter p ls x y ∙ o.0, once-filter p ls o.1)
  | inr y ↦ rw y (once-filter p ls o.1)
]

firsts-append : (ks cs bs : List ℕ) → firsts_behind ks (cs ++ bs) ≡ firsts_behind (firsts_behind ks cs) bs
unfolding firsts_behind
firsts-append ks [] bs = refl
firsts-append ks (a ∷ cs) bs = firsts-append (with_new ks a) cs bs

append-nil : (ks : List ℕ) → ks ++ [] ≡ ks
append-nil [] = refl
append-nil (k ∷ ks) = ap (λ z. k ∷ z) (append-nil ks)

-- behind a list come those of a list without repeats that it lacks
firsts-lacking : (ks ds : List ℕ) → IsOnce ds → firsts_behind ks ds ≡ ks ++ filter (λ l. not (has ks l)) ds
unfolding firsts_behind
firsts-lacking ks [] o = sym (append-nil ks)
firsts-lacking ks (d ∷ ds) o = elim (cases_Bool (has ks d)) [
  | inl y ↦ rw y (firsts-lacking ks ds o.1)
  | inr n ↦ rw n (firsts-lacking (ks ++ d ∷ []) ds o.1 ∙ append_assoc ks (d ∷ []) (filter (λ l. not (has (ks ++ d ∷ []) l)) ds)
      ∙ ap (λ z. ks ++ (d ∷ z)) (filter-same (λ l. not (has (ks ++ d ∷ []) l)) (λ l. not (has ks l)) ds (λ l m. ap not (has-push ks d l ∙ lacks l m))))
]
  where
    or_false : (b : Bool) → (b || false) ≡ b
    or_false true = refl
    or_false false = refl

    lacks : (l : ℕ) → Contains ds l → (has ks l || nat_eq l d) ≡ has ks l
    lacks l m =
        let n : nat_eq l d ≡ false = false_from_ne_true _ (λ e. both_ways _ o.0 (subst (λ z. has ds z ≡ true) (eqb-true l d e) (has_from ds l m))) in
        rw n (or_false (has ks l))

pub resolvent_is : (x : ℕ) (c d : List ℕ) (marks : List Bool) → ((l : ℕ) → get_or marks l false ≡ has c l) → IsOnce c → IsOnce d
    → without x c ++ filter (unmarked marks x) d ≡ firsts (resolvent x c d)
resolvent_is x c d marks is oc od =
    let first : without x c ≡ firsts (without x c) = firsts-once (without x c) (once-filter (λ l. not (of_variable x l)) c oc) in
    let lacking = firsts-lacking (without x c) (without x d) (once-filter (λ l. not (of_variable x l)) d od) in
    let picked = filter-filter (λ l. not (has (without x c) l)) (λ l. not (of_variable x l)) d in
    let same = filter-same (λ l. not (of_variable x l) && not (has (without x c) l)) (unmarked marks x) d (λ l m. test l) in
    sym (firsts-append [] (without x c) (without x d) ∙ ap (λ z. firsts_behind z (without x d)) (sym first) ∙ lacking ∙ ap (λ z. without x c ++ z) (picked ∙ same))
  where
    test : (l : ℕ) → (not (of_variable x l) && not (has (without x c) l)) ≡ unmarked marks x l
    test l = elim (cases_Bool (not (of_variable x l))) [
      | inl y ↦ let e : has (without x c) l ≡ get_or marks l false = has-filter (λ z. not (of_variable x z)) c l y ∙ sym (is l) in rw (y, e) refl
      | inr y ↦ rw y refl
    ]
