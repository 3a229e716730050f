-- Ascending lists of literals: each set has one, and `set_of` computes it.
use Rattle.std.proofs.Common.{◌≡◌, ℕ, zero, suc, ◌<◌, ◌⊎◌, true, false, nat_eq, nat_lt, List, [], ◌∷◌, get_or, drop, Contains, refl, sym, ◌∙◌, ap, subst, inl, inr, arith, eqb-true, ltb-true, add-one, suc-le-suc, zero-lt-suc}
use Rattle.std.specs.List.{AllPairs}
use Rattle.std.specs.List.Sorted.{IsStrictlyIncreasing}
use Rattle.std.specs.Ordering.{nat_cmp, is_eq}
use Rattle.std.specs.declared.cmp.Ordering.TheVariants as Ordering
use Rattle.std.specs.Cmp.{nat_cmp_total, unsigned_ties, unsigned_Decides, tied_itself}
use Rattle.std.specs.Cmp.Lexicographic.{slice_cmp, pointwise_decides, lists_total, lists_ties}
use Rattle.std.proofs.lemmas.List.Kept.{AllPairs-from_increasing}
use Rattle.std.proofs.lemmas.List.Elements.{Contains-get_or}
use Rattle.std.proofs.lemmas.Bool.{cases_Bool, false_from_ne_true, eqb-false, ltb-false}
use Rattle.lits.specs.Clause.{has, same_set, with_literal, set_of}
use Rattle.lits.proofs.Members.{here, there, not_in_nil, here_or_there, has_at, has_from}
use Rattle.lits.proofs.Sets.{has-same, same_at, same_from}

-- each literal is below all later ones
abbrev pub Ascends : List ℕ → Type 0
Ascends [] = Unit {0}
Ascends (l ∷ ls) = ((m : ℕ) → Contains ls m → l < m) × Ascends ls

pub ascends_from_pairs : (ls : List ℕ) → AllPairs (λ x y. x < y) ls → Ascends ls
ascends_from_pairs [] h = tt
ascends_from_pairs (l ∷ ls) h =
    (λ m c. subst (λ n. l < n) c.2 (h 0 (suc c.0) m (zero-lt-suc _) (suc-le-suc c.1)), ascends_from_pairs ls (λ i j d a b. h (suc i) (suc j) d (suc-le-suc a) (suc-le-suc b)))

pub ascends_from : (ls : List ℕ) → IsStrictlyIncreasing ls → Ascends ls
ascends_from ls h = ascends_from_pairs ls (AllPairs-from_increasing ls h)

pub increasing_from : (ls : List ℕ) → Ascends ls → IsStrictlyIncreasing ls
increasing_from [] h k lt = absurd (omega arith)
increasing_from (l ∷ ls) h zero lt = h.0 (get_or ls 0 0) (Contains-get_or ls 0 0 (omega arith))
increasing_from (l ∷ ls) h (suc k) lt = let r = increasing_from ls h.1 k (omega arith) in let r2 : get_or ls k 0 < get_or ls (suc k) 0 = rw add-one at r in rw add-one r2

-- what stands behind in an ascending list
pub ascends_drop : (i : ℕ) (ls : List ℕ) → Ascends ls → Ascends (drop i ls)
ascends_drop zero ls h = h
ascends_drop (suc i) [] h = h
ascends_drop (suc i) (l ∷ ls) h = ascends_drop i ls h.1

-- a literal below all is none of them
pub absent_below : (l m : ℕ) (ms : List ℕ) → Ascends (m ∷ ms) → l < m → has (m ∷ ms) l ≡ false
absent_below l m ms h lt = false_from_ne_true _ (λ e. elim (here_or_there m l ms (has_at (m ∷ ms) l e)) [
  | inl same ↦ omega arith
  | inr later ↦ omega (arith, h.0 l later)
])

-- ---- One ascending list for each set

has-head : (l : ℕ) (ls : List ℕ) → has (l ∷ ls) l ≡ true
has-head l ls = has_from (l ∷ ls) l (here l ls)

not_in : (l : ℕ) → has [] l ≡ true → ⊥
not_in l e = cc

-- the first of two ascending lists of one set
first_same : (l m : ℕ) (ls ms : List ℕ) → Ascends (l ∷ ls) → Ascends (m ∷ ms) → ((n : ℕ) → has (l ∷ ls) n ≡ has (m ∷ ms) n) → l ≡ m
first_same l m ls ms a b h = elim (here_or_there m l ms (has_at (m ∷ ms) l (sym (h l) ∙ has-head l ls))) [
  | inl e ↦ sym e
  | inr later ↦ elim (here_or_there l m ls (has_at (l ∷ ls) m (h m ∙ has-head m ms))) [
    | inl e ↦ e
    | inr after ↦ absurd (omega (arith, b.0 l later, a.0 m after))
  ]
]

-- and what is behind the first
rest_within : (l : ℕ) (ls ms : List ℕ) → Ascends (l ∷ ls) → ((n : ℕ) → has (l ∷ ls) n ≡ has (l ∷ ms) n) → (n : ℕ) → Contains ls n → Contains ms n
rest_within l ls ms a h n m = elim (here_or_there l n ms (has_at (l ∷ ms) n (sym (h n) ∙ has_from (l ∷ ls) n (there l n ls m)))) [
  | inl e ↦ absurd (omega (arith, a.0 n m))
  | inr later ↦ later
]

pub unique : (ls ms : List ℕ) → Ascends ls → Ascends ms → ((n : ℕ) → has ls n ≡ has ms n) → ls ≡ ms
unique [] [] a b h = refl
unique [] (m ∷ ms) a b h = absurd (not_in m (h m ∙ has-head m ms))
unique (l ∷ ls) [] a b h = absurd (not_in l (sym (h l) ∙ has-head l ls))
unique (l ∷ ls) (m ∷ ms) a b h =
    let e : l ≡ m = first_same l m ls ms a b h in
    let b2 : Ascends (l ∷ ms) = subst (λ x. Ascends (x ∷ ms)) (sym e) b in
    let h2 : (n : ℕ) → has (l ∷ ls) n ≡ has (l ∷ ms) n = subst (λ x. (n : ℕ) → has (l ∷ ls) n ≡ has (x ∷ ms) n) (sym e) h in
    let rest = unique ls ms a.1 b.1 (has-same ls ms (rest_within l ls ms a h2) (rest_within l ms ls b2 (λ n. sym (h2 n)))) in
    ap (λ x. x ∷ ls) e ∙ ap (λ xs. m ∷ xs) rest

-- ---- The set of a clause

with_literal_at : (l : ℕ) (ms : List ℕ) (n : ℕ) → Contains (with_literal l ms) n → (l ≡ n) ⊎ Contains ms n
unfolding with_literal
with_literal_at l [] n m = here_or_there l n [] m
with_literal_at l (m ∷ ms) n h = elim (cases_Bool (nat_lt l m)) [
  | inl q ↦ let f : Contains (l ∷ m ∷ ms) n = rw q at h in here_or_there l n (m ∷ ms) f
  | inr q ↦ elim (cases_Bool (nat_eq l m)) [
    | inl e ↦ let f : Contains (m ∷ ms) n = rw (q, e) at h in inr f
    | inr e ↦ let f : Contains (m ∷ with_literal l ms) n = rw (q, e) at h in elim (here_or_there m n (with_literal l ms) f) [
      | inl same ↦ inr (subst (λ x. Contains (m ∷ ms) x) same (here m ms))
      | inr later ↦ elim (with_literal_at l ms n later) [ inl g ↦ inl g | inr g ↦ inr (there m n ms g) ]
    ]
  ]
]

with_literal_from : (l : ℕ) (ms : List ℕ) (n : ℕ) → (l ≡ n) ⊎ Contains ms n → Contains (with_literal l ms) n
unfolding with_literal
with_literal_from l [] n (inl e) = subst (λ x. Contains (l ∷ []) x) e (here l [])
with_literal_from l [] n (inr m) = absurd (not_in_nil n m)
with_literal_from l (m ∷ ms) n h = elim (cases_Bool (nat_lt l m)) [
  | inl q ↦ rw q (elim h [ inl e ↦ subst (λ x. Contains (l ∷ m ∷ ms) x) e (here l (m ∷ ms)) | inr g ↦ there l n (m ∷ ms) g ])
  | inr q ↦ elim (cases_Bool (nat_eq l m)) [
    | inl e ↦ rw (q, e) (elim h [ inl f ↦ subst (λ x. Contains (m ∷ ms) x) (sym (eqb-true l m e) ∙ f) (here m ms) | inr g ↦ g ])
    | inr e ↦ rw (q, e) (elim h [
      | inl f ↦ there m n (with_literal l ms) (with_literal_from l ms n (inl f))
      | inr g ↦ elim (here_or_there m n ms g) [
        | inl f ↦ subst (λ x. Contains (m ∷ with_literal l ms) x) f (here m (with_literal l ms))
        | inr f ↦ there m n (with_literal l ms) (with_literal_from l ms n (inr f))
      ]
    ])
  ]
]

ascends_with_literal : (l : ℕ) (ms : List ℕ) → Ascends ms → Ascends (with_literal l ms)
unfolding with_literal
ascends_with_literal l [] h = (λ m c. absurd (not_in_nil m c), tt)
ascends_with_literal l (m ∷ ms) h = elim (cases_Bool (nat_lt l m)) [
  | inl q ↦ rw q (λ n c. elim (here_or_there m n ms c) [ inl e ↦ omega (arith, ltb-true l m q) | inr g ↦ omega (arith, ltb-true l m q, h.0 n g) ], h)
  | inr q ↦ elim (cases_Bool (nat_eq l m)) [
    | inl e ↦ rw (q, e) h
    | inr e ↦ rw (q, e) (λ n c. elim (with_literal_at l ms n c) [ inl f ↦ omega (arith, ltb-false l m q, eqb-false l m e) | inr g ↦ h.0 n g ], ascends_with_literal l ms h.1)
  ]
]

pub set_of_at : (c : List ℕ) (l : ℕ) → Contains (set_of c) l → Contains c l
unfolding set_of
set_of_at [] l h = h
set_of_at (m ∷ c) l h = elim (with_literal_at m (set_of c) l h) [
  | inl e ↦ subst (λ x. Contains (m ∷ c) x) e (here m c)
  | inr g ↦ there m l c (set_of_at c l g)
]

pub set_of_from : (c : List ℕ) (l : ℕ) → Contains c l → Contains (set_of c) l
unfolding set_of
set_of_from [] l h = h
set_of_from (m ∷ c) l h = elim (here_or_there m l c h) [
  | inl e ↦ with_literal_from m (set_of c) l (inl e)
  | inr g ↦ with_literal_from m (set_of c) l (inr (set_of_from c l g))
]

pub has-set_of : (c : List ℕ) (l : ℕ) → has (set_of c) l ≡ has c l
has-set_of c = has-same (set_of c) c (set_of_at c) (set_of_from c)

pub same_set-set_of : (c : List ℕ) → same_set (set_of c) c ≡ true
same_set-set_of c = same_from (set_of c) c (has-set_of c)

pub ascends_set_of : (c : List ℕ) → Ascends (set_of c)
unfolding set_of
ascends_set_of [] = tt
ascends_set_of (l ∷ c) = ascends_with_literal l (set_of c) (ascends_set_of c)

-- an ascending list with the members of a clause is its set
pub set_of-unique : (ls c : List ℕ) → Ascends ls → ((l : ℕ) → has ls l ≡ has c l) → ls ≡ set_of c
set_of-unique ls c a h = unique ls (set_of c) a (ascends_set_of c) (λ l. h l ∙ sym (has-set_of c l))

pub set_of-same : (c d : List ℕ) → same_set c d ≡ true → set_of c ≡ set_of d
set_of-same c d h = set_of-unique (set_of c) d (ascends_set_of c) (λ l. has-set_of c l ∙ same_at c d h l)

pub same_set-from_set_of : (c d : List ℕ) → set_of c ≡ set_of d → same_set c d ≡ true
same_set-from_set_of c d e = same_from c d (λ l. sym (has-set_of c l) ∙ ap (λ s. has s l) e ∙ has-set_of d l)

-- ---- The order of sets

pub same_from_Equal : (s t : List ℕ) → slice_cmp nat_cmp s t ≡ Ordering.Equal → s ≡ t
same_from_Equal s t e = (pointwise_decides unsigned_Decides s t).0 (lists_ties nat_cmp unsigned_ties s t ∙ ap is_eq e)

pub Equal_from_same : (s t : List ℕ) → s ≡ t → slice_cmp nat_cmp s t ≡ Ordering.Equal
Equal_from_same s t e = subst (λ u. slice_cmp nat_cmp s u ≡ Ordering.Equal) e (tied_itself (lists_total nat_cmp_total) s)
