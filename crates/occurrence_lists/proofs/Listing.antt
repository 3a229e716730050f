-- The lists of a clause's literals, as they change one by one.
use Rattle.std.proofs.Common.{◌≡◌, ℕ, zero, suc, ◌+◌, ◌<◌, Bool, true, false, ◌&&◌, ◌||◌, nat_eq, if◌then◌else◌, List, [], ◌∷◌, ◌++◌, length, get_or, set, take, drop, refl, sym, ap, ◌∙◌, subst, inl, inr, arith}
use Rattle.std.proofs.lemmas.Bool.{cases_eq, eq-eqb, ne_eqb, both_ways, false_from_ne_true, or_cases, or_left, or_right}
use Rattle.std.proofs.lemmas.List.{drop_more, take_more, get_or-set_same, get_or-set_other, length-set}
use Rattle.std.proofs.lemmas.Grind.{get_or_default_zero}
use Rattle.clause_store.proofs.Lists.{has-push}
use Rattle.lits.specs.Clause.{has}
use Rattle.lits.proofs.Members.{has_from}
use Rattle.clause_store.specs.Clauses.{IsOnce}
use Rattle.occurrence_lists.specs.Occurring.{row, times, one_if, AreListed, IsAdded}

-- the literal at a place of the clause, as code has it
pub record IsAt (c : List ℕ) (k l code : ℕ) : Type 0 where
  pub within : k < length c
  pub is : l ≡ get_or c k l
  pub code_is : code ≡ l

pub rest_at : (c : List ℕ) (k l code : ℕ) → IsAt c k l code → drop k c ≡ code ∷ drop (k + 1) c
rest_at c k l code at = drop_more c k l at.within ∙ ap (λ z. z ∷ drop (k + 1) c) (sym at.is ∙ sym at.code_is)

pub at-has : (c : List ℕ) (k l code : ℕ) → IsAt c k l code → has c code ≡ true
at-has c k l code at = subst (λ z. has c z ≡ true) (sym at.code_is) (has_from c l (k, at.within, sym at.is))

once-drop : (c : List ℕ) (k : ℕ) → IsOnce c → IsOnce (drop k c)
once-drop [] zero o = tt
once-drop [] (suc k) o = tt
once-drop (x ∷ c) zero o = o
once-drop (x ∷ c) (suc k) o = once-drop c k o.1

-- it comes no more
pub at-once : (c : List ℕ) (k l code : ℕ) → IsOnce c → IsAt c k l code → has (drop (k + 1) c) code ≡ false
at-once c k l code o at = let h : IsOnce (code ∷ drop (k + 1) c) = subst IsOnce (rest_at c k l code at) (once-drop c k o) in h.0

-- one list is read and written
pub row-read : (rows : List (List ℕ)) (code : ℕ) (read : List ℕ) → code < length rows → read ≡ get_or rows code read → read ≡ row rows code
row-read [] code read lt e = absurd (omega arith)
row-read (r ∷ rs) zero read lt e = e
row-read (r ∷ rs) (suc code) read lt e = row-read rs code read (omega arith) e

pub row-here : (rows : List (List ℕ)) (code : ℕ) (new : List ℕ) → code < length rows → row (set rows code new) code ≡ new
row-here rows code new lt = get_or-set_same rows code new [] lt

pub row-other : (rows : List (List ℕ)) (code q : ℕ) (new : List ℕ) → (q ≡ code → ⊥) → row (set rows code new) q ≡ row rows q
row-other rows code q new ne = get_or-set_other rows code q new [] ne

once-before : (c : List ℕ) (k : ℕ) → IsOnce c → k < length c → has (take k c) (get_or c k 0) ≡ false
once-before [] k o lt = absurd (omega arith)
once-before (a ∷ c) zero o lt = refl
once-before (a ∷ c) (suc k) o lt =
    let n : nat_eq (get_or c k 0) a ≡ false = ne_eqb (get_or c k 0) a (λ e. both_ways _ o.0 (subst (λ z. has c z ≡ true) e (has_from c (get_or c k 0) (k, omega arith, get_or_default c k 0 (omega arith))))) in
    ap (λ b. b || has (take k c) (get_or c k 0)) n ∙ once-before c k o.1 (omega arith)
  where
    get_or_default : (xs : List ℕ) (i d : ℕ) → i < length xs → get_or xs i (get_or xs i d) ≡ get_or xs i d
    get_or_default [] i d lt = absurd (omega arith)
    get_or_default (x ∷ xs) zero d lt = refl
    get_or_default (x ∷ xs) (suc i) d lt = get_or_default xs i d (omega arith)

pub in_take : (c : List ℕ) (k q : ℕ) → has (take k c) q ≡ true → has c q ≡ true
in_take [] zero q h = h
in_take [] (suc k) q h = h
in_take (y ∷ c) zero q h = cc h
in_take (y ∷ c) (suc k) q h = elim (or_cases (nat_eq q y) (has (take k c) q) h) [ inl e ↦ or_left (nat_eq q y) (has c q) e | inr e ↦ or_right (nat_eq q y) (has c q) (in_take c k q e) ]

pub once-take : (c : List ℕ) (k : ℕ) → IsOnce c → IsOnce (take k c)
once-take [] zero o = tt
once-take [] (suc k) o = tt
once-take (x ∷ c) zero o = tt
once-take (x ∷ c) (suc k) o = (false_from_ne_true _ (λ h. both_ways _ o.0 (in_take c k x h)), once-take c k o.1)

item_is : (c : List ℕ) (k l code : ℕ) → IsAt c k l code → get_or c k 0 ≡ code
item_is c k l code at = sym (get_or_default_zero c k l at.within) ∙ sym at.is ∙ sym at.code_is

-- one literal more has the id in its list
pub added-step : (old rows : List (List ℕ)) (c : List ℕ) (id k l code : ℕ) (new : List ℕ) → IsOnce c → IsAt c k l code → code < length rows → new ≡ row rows code ++ id ∷ []
    → IsAdded old id (take k c) rows → IsAdded old id (take (k + 1) c) (set rows code new)
added-step old rows c id k l code new o at lt e a = record {
  sized = length-set rows code new ∙ a.sized;
  rows = λ q. rw more (elim (cases_eq q code) [
    | inl y ↦
        let t = eq-eqb q code y in
        let gone : has (take k c) code ≡ false = ap (has (take k c)) (sym (item_is c k l code at)) ∙ once-before c k o at.within in
        let here : row rows code ≡ row old code = a.rows code ∙ ap (λ b. if b then row old code ++ id ∷ [] else row old code) gone in
        let both : (has (take k c) q || nat_eq q code) ≡ true = or_right _ _ t in
        rw (has-push (take k c) code q, both) (ap (row (set rows code new)) y ∙ row-here rows code new lt ∙ e ∙ ap (λ z. z ++ id ∷ []) here ∙ ap (λ z. row old z ++ id ∷ []) (sym y))
    | inr n ↦
        let t = ne_eqb q code n in
        let same : (has (take k c) q || nat_eq q code) ≡ has (take k c) q = ap (λ b. has (take k c) q || b) t ∙ or_false (has (take k c) q) in
        rw (has-push (take k c) code q, same) (row-other rows code q new n ∙ a.rows q)
  ]);
}
  where
    or_false : (b : Bool) → (b || false) ≡ b
    or_false true = refl
    or_false false = refl

    more : take (k + 1) c ≡ take k c ++ code ∷ []
    more = take_more c k 0 at.within ∙ ap (λ z. take k c ++ z ∷ []) (item_is c k l code at)

-- a list that is written as it was
pub added-same : (old rows : List (List ℕ)) (c : List ℕ) (id code : ℕ) (new : List ℕ) → code < length rows → new ≡ row rows code → IsAdded old id c rows → IsAdded old id c (set rows code new)
added-same old rows c id code new lt e a = record {
  sized = length-set rows code new ∙ a.sized;
  rows = λ q. elim (cases_eq q code) [
    | inl y ↦ ap (row (set rows code new)) y ∙ row-here rows code new lt ∙ e ∙ ap (row rows) (sym y) ∙ a.rows q
    | inr n ↦ row-other rows code q new n ∙ a.rows q
  ];
}

pub taken-step : (rows : List (List ℕ)) (c : List ℕ) (id k l code p q before after : ℕ) (new : List ℕ) → IsOnce c → IsAt c k l code → code < length rows
    → ((z : ℕ) → times z (row rows code) ≡ times z new + one_if (nat_eq z id))
    → before + one_if (has (drop k c) p && nat_eq q id) ≡ times q (row rows p) + after
    → before + one_if (has (drop (k + 1) c) p && nat_eq q id) ≡ times q (row (set rows code new) p) + after
taken-step rows c id k l code p q before after new o at lt e h =
    let d = rest_at c k l code at in
    let g : before + one_if ((nat_eq p code || has (drop (k + 1) c) p) && nat_eq q id) ≡ times q (row rows p) + after = ap (λ z. before + one_if (has z p && nat_eq q id)) (sym d) ∙ h in
    elim (cases_eq p code) [ inl y ↦ same y g | inr n ↦ other n g ]
  where
    same : p ≡ code → before + one_if ((nat_eq p code || has (drop (k + 1) c) p) && nat_eq q id) ≡ times q (row rows p) + after → before + one_if (has (drop (k + 1) c) p && nat_eq q id) ≡ times q (row (set rows code new) p) + after
    same y g =
        let gone : has (drop (k + 1) c) p ≡ false = ap (has (drop (k + 1) c)) y ∙ at-once c k l code o at in
        let t = eq-eqb p code y in
        let g2 : before + one_if (nat_eq q id) ≡ times q (row rows p) + after = ap (λ b. before + one_if ((b || has (drop (k + 1) c) p) && nat_eq q id)) (sym t) ∙ g in
        let f : times q (row rows p) ≡ times q new + one_if (nat_eq q id) = ap (λ z. times q (row rows z)) y ∙ e q in
        let w : times q (row (set rows code new) p) ≡ times q new = ap (λ z. times q (row (set rows code new) z)) y ∙ ap (times q) (row-here rows code new lt) in
        rw gone (omega (arith, g2, f, w))

    other : (p ≡ code → ⊥) → before + one_if ((nat_eq p code || has (drop (k + 1) c) p) && nat_eq q id) ≡ times q (row rows p) + after → before + one_if (has (drop (k + 1) c) p && nat_eq q id) ≡ times q (row (set rows code new) p) + after
    other n g =
        let t = ne_eqb p code n in
        let g2 : before + one_if (has (drop (k + 1) c) p && nat_eq q id) ≡ times q (row rows p) + after = ap (λ b. before + one_if ((b || has (drop (k + 1) c) p) && nat_eq q id)) (sym t) ∙ g in
        g2 ∙ ap (λ z. times q z + after) (sym (row-other rows code p new n))

-- at its literal the id is still there
pub still-there : (rows old : List (List ℕ)) (c : List ℕ) (id k l code : ℕ) → IsAt c k l code
    → times id (row old code) + one_if (has (drop k c) code && nat_eq id id) ≡ times id (row rows code) + one_if (has c code && nat_eq id id)
    → 0 < times id (row old code) → 0 < times id (row rows code)
still-there rows old c id k l code at h up =
    let a : has (drop k c) code ≡ true = ap (λ z. has z code) (rest_at c k l code at) ∙ ap (λ b. b || has (drop (k + 1) c) code) (eq-eqb code code refl) in
    let b = at-has c k l code at in
    let g : times id (row old code) + one_if (true && nat_eq id id) ≡ times id (row rows code) + one_if (true && nat_eq id id)
    = ap (λ z. times id (row old code) + one_if (z && nat_eq id id)) (sym a) ∙ h ∙ ap (λ z. times id (row rows code) + one_if (z && nat_eq id id)) b in
    omega (arith, g, up)

-- the index is that of a list
pub at-below : (c : List ℕ) (k l code : ℕ) (rows : List (List ℕ)) (long : ℕ) → IsAt c k l code → AreListed rows c → long ≡ length rows → code < long
at-below c k l code rows long at h e = subst (λ z. code < z) (sym e) (h code (at-has c k l code at))

pub length-written : (rows old : List (List ℕ)) (code : ℕ) (new : List ℕ) → length rows ≡ length old → length (set rows code new) ≡ length old
length-written rows old code new e = length-set rows code new ∙ e
