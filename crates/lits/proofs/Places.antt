-- Laws of numberings: places of variables, and the numbering after a variable came.
use Rattle.std.proofs.Common.{◌≡◌, ℕ, suc, zero, ◌+◌, ◌<◌, ◌≤◌, Bool, true, false, nat_eq, ◌||◌, cond, List, [], ◌∷◌, ◌++◌, length, length-append, get_or, Option, Some, None, IfSome, refl, sym, ap, ◌∙◌, subst, inl, inr, arith, eqb-true, eq-eqb, suc-le-suc, zero-lt-suc}
use Rattle.std.proofs.lemmas.Bool.{cases_Bool, false_from_ne_true, or_cases, or_from, or_left, or_right, ne_eqb, eqb-false}
use Rattle.std.proofs.lemmas.Map.Keys.{IsDistinct-tail, IsDistinct-push, apart_from_distinct, IsDistinct-cons}
use Rattle.std.proofs.lemmas.Map.Steps.{length-le_from_distinct_below}
use Rattle.std.specs.Cmp.{nat_eq_equiv}
use Rattle.std.specs.List.{IsDistinct, list_any, AllByRecursion}
use Rattle.lits.specs.Literal.{max_var}
use Rattle.lits.specs.Clause.{has}
use Rattle.lits.specs.Numbering.{IsVariable, IsNumbering, place, number_of, find_number, with_var}
use Rattle.lits.proofs.Members.{has_at, has_from}

-- ---- Places

-- a known variable stands within the list
pub place-known : (xs : List ℕ) (v : ℕ) → has xs v ≡ true → place xs v < length xs
unfolding place
place-known [] v h = cc
place-known (x ∷ xs) v h = elim (cases_Bool (nat_eq v x)) [
  | inl y ↦ rw y (zero-lt-suc (length xs))
  | inr n ↦ let g : has xs v ≡ true = rw n at h in rw n (suc-le-suc (place-known xs v g))
]

pub place-missing : (xs : List ℕ) (v : ℕ) → has xs v ≡ false → place xs v ≡ length xs
unfolding place
place-missing [] v h = refl
place-missing (x ∷ xs) v h = elim (cases_Bool (nat_eq v x)) [
  | inl y ↦ let g : true ≡ false = rw y at h in cc
  | inr n ↦ let g : has xs v ≡ false = rw n at h in rw n (ap suc (place-missing xs v g))
]

-- only a known variable does
pub known-place : (xs : List ℕ) (v : ℕ) → place xs v < length xs → has xs v ≡ true
known-place xs v lt = elim (cases_Bool (has xs v)) [ inl y ↦ y | inr n ↦ absurd (omega (arith, place-missing xs v n)) ]

-- the variable of a known variable's number is that variable
pub get-place : (xs : List ℕ) (v : ℕ) → has xs v ≡ true → get_or xs (place xs v) 0 ≡ v
unfolding place
get-place [] v h = cc
get-place (x ∷ xs) v h = elim (cases_Bool (nat_eq v x)) [
  | inl y ↦ rw y (sym (eqb-true v x y))
  | inr n ↦ let g : has xs v ≡ true = rw n at h in rw n (get-place xs v g)
]

pub has-get : (xs : List ℕ) (k : ℕ) → k < length xs → has xs (get_or xs k 0) ≡ true
has-get [] k lt = absurd (omega arith)
has-get (x ∷ xs) zero lt = or_left _ _ (eq-eqb x x refl)
has-get (x ∷ xs) (suc k) lt = or_right _ _ (has-get xs k (omega arith))

-- the number of a number's variable is that number
pub place-get : (xs : List ℕ) (k : ℕ) → IsDistinct nat_eq xs → k < length xs → place xs (get_or xs k 0) ≡ k
unfolding place
place-get [] k o lt = absurd (omega arith)
place-get (x ∷ xs) zero o lt = let e : nat_eq x x ≡ true = eq-eqb x x refl in rw e refl
place-get (x ∷ xs) (suc k) o lt =
    let a : nat_eq x (get_or xs k 0) ≡ false = apart_from_distinct nat_eq (x ∷ xs) 0 (suc k) 0 o (omega arith) lt in
    let b : nat_eq (get_or xs k 0) x ≡ false = ne_eqb (get_or xs k 0) x (λ e. eqb-false x (get_or xs k 0) a (sym e)) in
    rw b (ap suc (place-get xs k (IsDistinct-tail nat_eq x xs o) (omega arith)))

-- different variables have different places, if one is known
pub place-injective : (xs : List ℕ) (v w : ℕ) → has xs v ≡ true → place xs v ≡ place xs w → v ≡ w
place-injective xs v w h e =
    let g : has xs w ≡ true = known-place xs w (subst (λ k. k < length xs) e (place-known xs v h)) in
    sym (get-place xs v h) ∙ ap (λ k. get_or xs k 0) e ∙ get-place xs w g

-- ---- Longer numberings

pub has-append : (xs ys : List ℕ) (v : ℕ) → has (xs ++ ys) v ≡ (has xs v || has ys v)
has-append [] ys v = refl
has-append (x ∷ xs) ys v = ap (λ b. nat_eq v x || b) (has-append xs ys v) ∙ grouped (nat_eq v x) (has xs v) (has ys v)
  where
    grouped : (a b c : Bool) → (a || (b || c)) ≡ ((a || b) || c)
    grouped true b c = refl
    grouped false b c = refl

pub place-append : (xs ys : List ℕ) (v : ℕ) → has xs v ≡ true → place (xs ++ ys) v ≡ place xs v
unfolding place
place-append [] ys v h = cc
place-append (x ∷ xs) ys v h = elim (cases_Bool (nat_eq v x)) [
  | inl y ↦ rw y refl
  | inr n ↦ let g : has xs v ≡ true = rw n at h in rw n (ap suc (place-append xs ys v g))
]

pub has-push : (xs : List ℕ) (v w : ℕ) → has (xs ++ v ∷ []) w ≡ (has xs w || nat_eq w v)
has-push xs v w = has-append xs (v ∷ []) w ∙ ap (λ b. has xs w || b) (or_none (nat_eq w v))
  where
    or_none : (b : Bool) → (b || false) ≡ b
    or_none true = refl
    or_none false = refl

-- a missing variable that is put at the end has the number that it was to get
pub place-push : (xs : List ℕ) (v : ℕ) → has xs v ≡ false → place (xs ++ v ∷ []) v ≡ place xs v
unfolding place
place-push [] v h = let e : nat_eq v v ≡ true = eq-eqb v v refl in rw e refl
place-push (x ∷ xs) v h = elim (cases_Bool (nat_eq v x)) [
  | inl y ↦ rw y refl
  | inr n ↦ let g : has xs v ≡ false = rw n at h in rw n (ap suc (place-push xs v g))
]

pub has-with_var : (xs : List ℕ) (v w : ℕ) → has (with_var xs v) w ≡ (has xs w || nat_eq w v)
has-with_var xs v w = elim (cases_Bool (has xs v)) [
  | inl y ↦ rw y (held w y)
  | inr n ↦ rw n (has-push xs v w)
]
  where
    held : (w : ℕ) → has xs v ≡ true → has xs w ≡ (has xs w || nat_eq w v)
    held w y = elim (cases_Bool (nat_eq w v)) [
      | inl e ↦ let g : has xs w ≡ true = subst (λ z. has xs z ≡ true) (sym (eqb-true w v e)) y in rw g refl
      | inr n ↦ rw n (or_none (has xs w))
    ]
      where
        or_none : (b : Bool) → b ≡ (b || false)
        or_none true = refl
        or_none false = refl

-- the variable that came is known
pub known-with_var : (xs : List ℕ) (v : ℕ) → has (with_var xs v) v ≡ true
known-with_var xs v = has-with_var xs v v ∙ or_right (has xs v) (nat_eq v v) (eq-eqb v v refl)

-- known variables stay known
pub kept-with_var : (xs : List ℕ) (v w : ℕ) → has xs w ≡ true → has (with_var xs v) w ≡ true
kept-with_var xs v w h = has-with_var xs v w ∙ or_left (has xs w) (nat_eq w v) h

pub place-with_var : (xs : List ℕ) (v : ℕ) → place (with_var xs v) v ≡ place xs v
place-with_var xs v = elim (cases_Bool (has xs v)) [ inl y ↦ rw y refl | inr n ↦ rw n (place-push xs v n) ]

pub place-with_var_other : (xs : List ℕ) (v w : ℕ) → has xs w ≡ true → place (with_var xs v) w ≡ place xs w
place-with_var_other xs v w h = elim (cases_Bool (has xs v)) [ inl y ↦ rw y refl | inr n ↦ rw n (place-append xs (v ∷ []) w h) ]

-- what is behind the variables that were there
pub with_var-extends : (xs : List ℕ) (v : ℕ) → (ys : List ℕ) × (with_var xs v ≡ xs ++ ys)
with_var-extends xs v = elim (cases_Bool (has xs v)) [
  | inl y ↦ ([], rw y (sym (append-nil xs)))
  | inr n ↦ (v ∷ [], rw n refl)
]
  where
    append-nil : (xs : List ℕ) → xs ++ [] ≡ xs
    append-nil [] = refl
    append-nil (x ∷ xs) = ap (λ z. x ∷ z) (append-nil xs)

-- ---- What holds of every numbering

pub numbering-nil : IsNumbering []
unfolding IsDistinct
numbering-nil = record { once = tt; variables = λ v m. absurd (omega (arith, m.1)) }

pub numbering-push : (xs : List ℕ) (v : ℕ) → IsNumbering xs → IsVariable v → has xs v ≡ false → IsNumbering (xs ++ v ∷ [])
numbering-push xs v o k n = record {
  once = IsDistinct-push nat_eq_equiv xs v o.once n;
  variables = λ w m. elim (or_cases (has xs w) (nat_eq w v) (sym (has-push xs v w) ∙ has_from (xs ++ v ∷ []) w m)) [
    | inl y ↦ o.variables w (has_at xs w y)
    | inr e ↦ subst IsVariable (sym (eqb-true w v e)) k
  ];
}

pub numbering-with_var : (xs : List ℕ) (v : ℕ) → IsNumbering xs → IsVariable v → IsNumbering (with_var xs v)
numbering-with_var xs v o k = elim (cases_Bool (has xs v)) [ inl y ↦ rw y o | inr n ↦ rw n (numbering-push xs v o k n) ]

-- there are no more numbers than variables
pub numbering_limit : (xs : List ℕ) → IsNumbering xs → length xs ≤ max_var
numbering_limit xs o = omega (arith, length-le_from_distinct_below (0 ∷ xs) (max_var + 1) once below)
  where
    positive : (q : ℕ) → has xs q ≡ true → IsVariable q
    positive q h = o.variables q (has_at xs q h)

    once : IsDistinct nat_eq (0 ∷ xs)
    once = zero_once xs (λ h. omega (arith, (positive 0 h).0)) o.once
      where
        apart : (ys : List ℕ) → (has ys 0 ≡ true → ⊥) → AllByRecursion (λ y. nat_eq 0 y ≡ false) ys
        apart [] h = tt
        apart (y ∷ ys) h = (false_from_ne_true (nat_eq 0 y) (λ e. h (or_left _ _ e)), apart ys (λ e. h (or_right _ _ e)))

        zero_once : (ys : List ℕ) → (has ys 0 ≡ true → ⊥) → IsDistinct nat_eq ys → IsDistinct nat_eq (0 ∷ ys)
        zero_once ys h o = IsDistinct-cons nat_eq 0 ys (apart ys h) o

    below : (q : ℕ) → list_any (nat_eq q) (0 ∷ xs) ≡ true → q < max_var + 1
    below q h = elim (or_cases (nat_eq q 0) (has xs q) h) [
      | inl e ↦ let z : q ≡ 0 = eqb-true q 0 e in omega arith
      | inr y ↦ omega (arith, (positive q y).1)
    ]

pub number-limit : (xs : List ℕ) (v : ℕ) → IsNumbering xs → IsVariable v → number_of xs v ≤ max_var
number-limit xs v o k = elim (cases_Bool (has xs v)) [
  | inl y ↦ omega (arith, place-known xs v y, numbering_limit xs o)
  | inr n ↦ let h : length (xs ++ v ∷ []) ≤ max_var = numbering_limit (xs ++ v ∷ []) (numbering-push xs v o k n) in
      omega (arith, h, length-append xs (v ∷ []), place-missing xs v n)
]

pub var-limit : (xs : List ℕ) (k : ℕ) → IsNumbering xs → k < length xs → IsVariable (get_or xs k 0)
var-limit xs k o lt = o.variables (get_or xs k 0) (has_at xs (get_or xs k 0) (has-get xs k lt))

-- a number that is found is that of a known variable
pub found-known : (xs : List ℕ) (v n : ℕ) → find_number xs v ≡ Some n → has xs v ≡ true
found-known xs v n e = elim (cases_Bool (has xs v)) [ inl y ↦ y | inr f ↦ let g : None ≡ Some n = rw f at e in cc ]

pub found-number : (xs : List ℕ) (v n : ℕ) → find_number xs v ≡ Some n → n ≡ number_of xs v
found-number xs v n e = let y : has xs v ≡ true = found-known xs v n e in let g : Some (number_of xs v) ≡ Some n = rw y at e in grind arith

pub found-limit : (xs : List ℕ) (v n : ℕ) → IsNumbering xs → find_number xs v ≡ Some n → IsVariable n
found-limit xs v n o e =
    let k = found-known xs v n e in
    let m : n ≡ number_of xs v = found-number xs v n e in (omega arith, omega (arith, place-known xs v k, numbering_limit xs o))

-- what is found after a missing variable was put at the end
pub find-push : (xs : List ℕ) (v q : ℕ) → has xs v ≡ false → find_number (xs ++ v ∷ []) q ≡ cond (nat_eq v q) (Some (length xs + 1)) (find_number xs q)
find-push xs v q n = elim (cases_Bool (nat_eq v q)) [
  | inl y ↦ rw y (found_here q (sym (eqb-true v q y)))
  | inr f ↦ rw f (elim (cases_Bool (has xs q)) [
    | inl y ↦ let g : has (xs ++ v ∷ []) q ≡ true = has-push xs v q ∙ or_left _ _ y in rw (g, y) (ap (λ k. Some (k + 1)) (place-append xs (v ∷ []) q y))
    | inr m ↦ let g : has (xs ++ v ∷ []) q ≡ false = has-push xs v q ∙ or_from (has xs q) (nat_eq q v) m (ne_eqb q v (λ e. eqb-false v q f (sym e))) in rw (g, m) refl
  ])
]
  where
    found_here : (q : ℕ) → q ≡ v → find_number (xs ++ v ∷ []) q ≡ Some (length xs + 1)
    found_here q e =
        let g : has (xs ++ v ∷ []) v ≡ true = has-push xs v v ∙ or_right (has xs v) (nat_eq v v) (eq-eqb v v refl) in
        rw (e, g) (ap (λ k. Some (k + 1)) (place-push xs v n ∙ place-missing xs v n))

pub find-limit : (xs : List ℕ) (v : ℕ) (r : Option ℕ) → IsNumbering xs → r ≡ find_number xs v → IfSome r IsVariable
find-limit xs v None o e = tt
find-limit xs v (Some n) o e = found-limit xs v n o (sym e)

-- the number that a variable has or is to get is one of the numbering after it came
pub number-within : (xs : List ℕ) (v : ℕ) → number_of xs v ≤ length (with_var xs v)
number-within xs v = omega (arith, place-with_var xs v, place-known (with_var xs v) v (known-with_var xs v))

pub number-within_known : (xs : List ℕ) (v : ℕ) → has xs v ≡ true → number_of xs v ≤ length xs
number-within_known xs v h = omega (arith, place-known xs v h)

pub find-within : (xs : List ℕ) (v : ℕ) (r : Option ℕ) → r ≡ find_number xs v → IfSome r (λ n. n ≤ length xs)
find-within xs v None e = tt
find-within xs v (Some n) e = omega (arith, found-number xs v n (sym e), place-known xs v (found-known xs v n (sym e)))
