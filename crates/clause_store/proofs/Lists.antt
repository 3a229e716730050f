-- Lists that have each literal once, and first places.
use Rattle.std.proofs.Common.{◌≡◌, ◌≢◌, ℕ, suc, zero, ◌+◌, ◌<◌, ◌≤◌, List, [], ◌∷◌, ◌++◌, length, length-append, append_assoc, get_or, Contains, refl, sym, ap, ◌∙◌, subst, inl, inr, arith, cond, true, false, Bool, nat_eq, ◌||◌, drop, eqb-true}
use Rattle.std.proofs.lemmas.Bool.{cases_Bool, both_ways, false_from_ne_true}
use Rattle.std.proofs.lemmas.Bool.Decides.{nat_tests}
use Rattle.std.specs.List.{list_all}
use Rattle.std.specs.List.Sorted.{IsStrictlyIncreasing}
use Rattle.lits.specs.Clause.{has, set_of}
use Rattle.lits.proofs.Members.{here, there, here_or_there, has_at, has_from, all_at, all_from}
use Rattle.lits.proofs.Sets.{has-same}
use Rattle.lits.proofs.Ascending.{Ascends, ascends_from, ascends_set_of, has-set_of, set_of-unique}
use Rattle.clause_store.specs.Clauses.{firsts, firsts_behind, with_new, IsOnce}

or_false_right : (b : Bool) → (b || false) ≡ b
or_false_right true = refl
or_false_right false = refl

or_assoc' : (a b c : Bool) → (a || (b || c)) ≡ ((a || b) || c)
or_assoc' true b c = refl
or_assoc' false b c = refl

one_more : (a b c : Bool) → (b ≡ true → a ≡ true) → (a || c) ≡ (a || (b || c))
one_more true b c h = refl
one_more false true c h = absurd (both_ways _ refl (h refl))
one_more false false c h = refl

regroup : (a b c : Bool) → ((a || b) || c) ≡ (a || (b || c))
regroup true b c = refl
regroup false b c = refl

or_none : (a b : Bool) → a ≡ false → b ≡ false → (a || b) ≡ false
or_none a b e f = rw (e, f) refl

left_none : (a b : Bool) → (a || b) ≡ false → a ≡ false
left_none true b h = h
left_none false b h = refl

right_none : (a b : Bool) → (a || b) ≡ false → b ≡ false
right_none true b h = cc
right_none false b h = h

apart : (q m : ℕ) → nat_eq q m ≡ false → nat_eq m q ≡ false
apart q m h = grind (arith, nat_tests)

differs : (q m : ℕ) → q ≢ m → nat_eq q m ≡ false
differs q m h = grind (arith, nat_tests)

-- ---- First places

pub firsts-step : (ks ls : List ℕ) (i : ℕ) → i < length ls → firsts_behind ks (drop i ls) ≡ firsts_behind (with_new ks (get_or ls i 0)) (drop (suc i) ls)
unfolding firsts_behind
firsts-step ks [] i lt = absurd (omega arith)
firsts-step ks (l ∷ ls) zero lt = refl
firsts-step ks (l ∷ ls) (suc i) lt = firsts-step ks ls i (omega arith)

pub firsts-end : (ks ls : List ℕ) (i : ℕ) → length ls ≤ i → ks ≡ firsts_behind ks (drop i ls)
unfolding firsts_behind
firsts-end ks [] zero lt = refl
firsts-end ks [] (suc i) lt = refl
firsts-end ks (l ∷ ls) zero lt = absurd (omega arith)
firsts-end ks (l ∷ ls) (suc i) lt = firsts-end ks ls i (omega arith)

pub with_new-has : (ks : List ℕ) (l : ℕ) → has ks l ≡ true → with_new ks l ≡ ks
with_new-has ks l h = rw h refl

pub with_new-lacks : (ks : List ℕ) (l : ℕ) → has ks l ≡ false → with_new ks l ≡ ks ++ l ∷ []
with_new-lacks ks l h = rw h refl

pub has-push : (ks : List ℕ) (m q : ℕ) → has (ks ++ m ∷ []) q ≡ (has ks q || nat_eq q m)
has-push [] m q = or_false_right (nat_eq q m)
has-push (k ∷ ks) m q = ap (λ b. nat_eq q k || b) (has-push ks m q) ∙ or_assoc' (nat_eq q k) (has ks q) (nat_eq q m)

-- the members of these with those
pub firsts-has : (ms ks : List ℕ) (q : ℕ) → has (firsts_behind ks ms) q ≡ (has ks q || has ms q)
unfolding firsts_behind
firsts-has [] ks q = sym (or_false_right (has ks q))
firsts-has (m ∷ ms) ks q = firsts-has ms (with_new ks m) q ∙ elim (cases_Bool (has ks m)) [
  | inl y ↦ rw y (one_more (has ks q) (nat_eq q m) (has ms q) (λ e. subst (λ z. has ks z ≡ true) (sym (eqb-true q m e)) y))
  | inr n ↦ rw (n, has-push) (regroup (has ks q) (nat_eq q m) (has ms q))
]

pub set_of-firsts : (ls : List ℕ) → set_of (firsts ls) ≡ set_of ls
set_of-firsts ls = set_of-unique (set_of (firsts ls)) ls (ascends_set_of (firsts ls)) (λ q. has-set_of (firsts ls) q ∙ firsts-has ls [] q)

once-push : (ks : List ℕ) (l : ℕ) → IsOnce ks → has ks l ≡ false → IsOnce (ks ++ l ∷ [])
once-push [] l h n = (refl, tt)
once-push (k ∷ ks) l h n = (has-push ks l k ∙ or_none _ _ h.0 (apart l k (left_none _ _ n)), once-push ks l h.1 (right_none _ _ n))

pub once-firsts : (ms ks : List ℕ) → IsOnce ks → IsOnce (firsts_behind ks ms)
unfolding firsts_behind
once-firsts [] ks h = h
once-firsts (m ∷ ms) ks h = once-firsts ms (with_new ks m) (elim (cases_Bool (has ks m)) [
  | inl y ↦ rw y h
  | inr n ↦ rw n (once-push ks m h n)
])

length-firsts : (ms ks : List ℕ) → length (firsts_behind ks ms) ≤ length ks + length ms
unfolding firsts_behind
length-firsts [] ks = omega arith
length-firsts (m ∷ ms) ks = elim (cases_Bool (has ks m)) [
  | inl y ↦ rw y (omega (arith, length-firsts ms ks))
  | inr n ↦ rw n (let h = length-firsts ms (ks ++ m ∷ []) in let e = length-append ks (m ∷ []) in omega (arith, h, e))
]

firsts-all : (ms ks : List ℕ) → length (firsts_behind ks ms) ≡ length ks + length ms → firsts_behind ks ms ≡ ks ++ ms
unfolding firsts_behind
firsts-all [] ks e = sym (append-nil ks)
  where
    append-nil : (ks : List ℕ) → ks ++ [] ≡ ks
    append-nil [] = refl
    append-nil (k ∷ ks) = ap (λ z. k ∷ z) (append-nil ks)
firsts-all (m ∷ ms) ks e = elim (cases_Bool (has ks m)) [
  | inl y ↦ let f : length (firsts_behind ks ms) ≡ length ks + suc (length ms) = rw y at e in absurd (omega (arith, f, length-firsts ms ks))
  | inr n ↦ let f : length (firsts_behind (ks ++ m ∷ []) ms) ≡ length ks + suc (length ms) = rw n at e in
      rw n (firsts-all ms (ks ++ m ∷ []) (omega (arith, f, length-append ks (m ∷ []))) ∙ append_assoc ks (m ∷ []) ms)
]

-- ---- Sizes

without : ℕ → List ℕ → List ℕ
without x [] = []
without x (y ∷ ys) = cond (nat_eq x y) ys (y ∷ without x ys)

length-without : (x : ℕ) (ys : List ℕ) → has ys x ≡ true → suc (length (without x ys)) ≡ length ys
unfolding without
length-without x [] h = cc
length-without x (y ∷ ys) h = elim (cases_Bool (nat_eq x y)) [
  | inl e ↦ rw e refl
  | inr n ↦ let g : has ys x ≡ true = rw n at h in rw n (ap suc (length-without x ys g))
]

has-without : (x : ℕ) (ys : List ℕ) (q : ℕ) → nat_eq q x ≡ false → has ys q ≡ true → has (without x ys) q ≡ true
unfolding without
has-without x [] q n h = h
has-without x (y ∷ ys) q n h = elim (cases_Bool (nat_eq x y)) [
  | inl e ↦ rw e (has_rest e)
  | inr d ↦ rw d (elim (cases_Bool (nat_eq q y)) [
    | inl e ↦ rw e refl
    | inr f ↦ let g : has ys q ≡ true = rw f at h in rw f (has-without x ys q n g)
  ])
]
  where
    has_rest : nat_eq x y ≡ true → has ys q ≡ true
    has_rest e =
        let m : nat_eq q y ≡ false = subst (λ z. nat_eq q z ≡ false) (eqb-true x y e) n in
        rw m at h

-- a list without repeats is no longer than one with its members
pub once-le : (xs ys : List ℕ) → IsOnce xs → ((q : ℕ) → has xs q ≡ true → has ys q ≡ true) → length xs ≤ length ys
once-le [] ys o h = omega arith
once-le (x ∷ xs) ys o h =
    let in_ys : has ys x ≡ true = h x (has_from (x ∷ xs) x (here x xs)) in
    let shorter : length xs ≤ length (without x ys) = once-le xs (without x ys) o.1 (λ q m. has-without x ys q (other q m) (h q (has_from (x ∷ xs) q (there x q xs (has_at xs q m))))) in
    omega (arith, shorter, length-without x ys in_ys)
  where
    other : (q : ℕ) → has xs q ≡ true → nat_eq q x ≡ false
    other q m = false_from_ne_true _ (λ e. both_ways _ o.0 (subst (λ z. has xs z ≡ true) (eqb-true q x e) m))

-- and as long only where it has all of them
pub once-all : (xs ys : List ℕ) → IsOnce xs → ((q : ℕ) → has xs q ≡ true → has ys q ≡ true) → length xs ≡ length ys → (q : ℕ) → has ys q ≡ has xs q
once-all xs ys o h e = has-same ys xs (λ q m. back q (has_from ys q m)) (λ q m. has_at ys q (h q (has_from xs q m)))
  where
    longer : (q : ℕ) → has ys q ≡ true → has xs q ≡ false → ⊥
    longer q m n = let le : suc (length xs) ≤ length ys = once-le (q ∷ xs) ys (n, o) (λ p g. elim (here_or_there q p xs (has_at (q ∷ xs) p g)) [
      | inl same ↦ subst (λ z. has ys z ≡ true) same m
      | inr later ↦ h p (has_from xs p later)
    ]) in omega (arith, le, e)

    back : (q : ℕ) → has ys q ≡ true → Contains xs q
    back q m = elim (cases_Bool (has xs q)) [ inl y ↦ has_at xs q y | inr n ↦ absurd (longer q m n) ]

ascends-once : (ls : List ℕ) → Ascends ls → IsOnce ls
ascends-once [] h = tt
ascends-once (l ∷ ls) h = (false_from_ne_true _ (λ e. omega (arith, h.0 l (has_at ls l e))), ascends-once ls h.1)

once-set_of : (ls : List ℕ) → IsOnce (set_of ls)
once-set_of ls = ascends-once (set_of ls) (ascends_set_of ls)

pub size-once : (ls : List ℕ) → IsOnce ls → length (set_of ls) ≡ length ls
size-once ls o =
    let a = once-le (set_of ls) ls (once-set_of ls) (λ q m. sym (has-set_of ls q) ∙ m) in
    let b = once-le ls (set_of ls) o (λ q m. has-set_of ls q ∙ m) in omega (arith, a, b)

-- where the set is as long as the list, no literal stands twice
pub firsts-whole : (ls : List ℕ) → length (set_of ls) ≡ length ls → ls ≡ firsts ls
firsts-whole ls e =
    let once : IsOnce (firsts ls) = once-firsts ls [] tt in
    let size : length (set_of (firsts ls)) ≡ length (firsts ls) = size-once (firsts ls) once in
    sym (firsts-all ls [] (omega (arith, size, ap length (set_of-firsts ls), e)))

-- ---- A list without repeats against an ascending list

pub is_set-from : (ls set : List ℕ) → IsOnce ls → IsStrictlyIncreasing set → length set ≡ length ls → list_all (λ l. has set l) ls ≡ true → set_of ls ≡ set
is_set-from ls set o a e h =
    let same = once-all ls set o (λ q m. all_at (λ l. has set l) ls q h (has_at ls q m)) (sym e) in
    sym (set_of-unique set ls (ascends_from set a) same)

pub is_set-size : (ls set : List ℕ) → IsOnce ls → set_of ls ≡ set → length set ≡ length ls
is_set-size ls set o e = ap length (sym e) ∙ size-once ls o

pub is_set-all : (ls set : List ℕ) → set_of ls ≡ set → list_all (λ l. has set l) ls ≡ true
is_set-all ls set e = all_from (λ l. has set l) ls (λ q m. subst (λ z. has z q ≡ true) e (has-set_of ls q ∙ has_from ls q m))

-- a list with each literal once is put as it is
pub firsts-once : (ls : List ℕ) → IsOnce ls → ls ≡ firsts ls
firsts-once ls o = firsts-whole ls (size-once ls o)
