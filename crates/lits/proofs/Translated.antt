-- Laws of literals and lists that are translated through a numbering.
use Rattle.std.proofs.Common.{◌≡◌, ℕ, ◌⊎◌, ◌+◌, ◌-◌, ◌*◌, ◌/◌, ◌%◌, ◌<◌, ◌≤◌, true, ◌&&◌, nat_eq, List, [], ◌∷◌, ◌++◌, length, get_or, Contains, refl, sym, ap, ◌∙◌, subst, inl, inr, arith, eqb-true}
use Rattle.std.specs.Cmp.{both_ways}
use Rattle.std.proofs.lemmas.List.{map-append}
use Rattle.std.proofs.lemmas.Bool.{and_parts, and_from, or_cases}
use Rattle.lits.specs.Literal.{max_var, var, neg, positive, of_var, IsLiteral}
use Rattle.lits.specs.Clause.{has, is_part, same_set, is_tautology, set_of}
use Rattle.lits.specs.Numbering.{IsVariable, IsNumbering, place, number_of, var_of, with_var, is_known, are_known, dense_lit, file_lit, dense_lits, file_lits, with_lits, numbered_lits}
use Rattle.lits.proofs.Literal.{var-neg}
use Rattle.lits.proofs.Members.{here, there, here_or_there, not_in_nil, all_at, all_from, has_at, has_from}
use Rattle.lits.proofs.Sets.{part_at, part_from, same_from, tautology_at, tautology_from}
use Rattle.lits.proofs.Ascending.{has-set_of, set_of-same, same_set-from_set_of}
use Rattle.lits.proofs.Places.{place-known, get-place, has-get, place-get, place-injective, place-append, has-append, has-with_var, known-with_var, with_var-extends, place-with_var, numbering-with_var, numbering_limit, var-limit}

-- ---- One literal

pub var-dense_lit : (vars : List ℕ) (l : ℕ) → var (dense_lit vars l) ≡ number_of vars (var l)
var-dense_lit vars l = halved (place vars (var l)) l
  where
    halved : (p l : ℕ) → (2 * p + l % 2) / 2 + 1 ≡ p + 1
    halved p l = omega arith

pub sign-dense_lit : (vars : List ℕ) (l : ℕ) → dense_lit vars l % 2 ≡ l % 2
sign-dense_lit vars l = halved (place vars (var l)) l
  where
    halved : (p l : ℕ) → (2 * p + l % 2) % 2 ≡ l % 2
    halved p l = omega arith

pub positive-dense_lit : (vars : List ℕ) (l : ℕ) → positive (dense_lit vars l) ≡ positive l
positive-dense_lit vars l = ap (λ n. nat_eq n 0) (sign-dense_lit vars l)

-- a variable as a literal is translated into its number as a literal
pub dense_lit-of_var : (vars : List ℕ) (v : ℕ) → 0 < v → dense_lit vars (of_var v) ≡ of_var (number_of vars v)
dense_lit-of_var vars v p = let e : var (of_var v) ≡ v = omega arith in ap (λ w. 2 * place vars w + of_var v % 2) e ∙ doubled (place vars v) v
  where
    doubled : (p v : ℕ) → 2 * p + of_var v % 2 ≡ of_var (p + 1)
    doubled p v = omega arith

-- opposite literals are translated into opposite ones
pub dense_lit-neg : (vars : List ℕ) (l : ℕ) → dense_lit vars (neg l) ≡ neg (dense_lit vars l)
dense_lit-neg vars l = ap (λ v. 2 * place vars v + neg l % 2) (var-neg l) ∙ turned (place vars (var l)) l
  where
    turned : (p l : ℕ) → 2 * p + neg l % 2 ≡ neg (2 * p + l % 2)
    turned p l = omega arith

-- two literals are translated into the same one only where they are the same, if one is known
pub dense_lit-injective : (vars : List ℕ) (l m : ℕ) → is_known vars l ≡ true → dense_lit vars l ≡ dense_lit vars m → l ≡ m
dense_lit-injective vars l m h e =
    let p : place vars (var l) ≡ place vars (var m) = halves (place vars (var l)) (place vars (var m)) l m e in
    let v : var l ≡ var m = place-injective vars (var l) (var m) h p in
    let s : l % 2 ≡ m % 2 = sym (sign-dense_lit vars l) ∙ ap (λ n. n % 2) e ∙ sign-dense_lit vars m in
    omega arith
  where
    halves : (p q l m : ℕ) → 2 * p + l % 2 ≡ 2 * q + m % 2 → p ≡ q
    halves p q l m e = omega arith

pub known-neg : (vars : List ℕ) (l : ℕ) → is_known vars (neg l) ≡ is_known vars l
known-neg vars l = ap (has vars) (var-neg l)

-- a known literal's translation is a literal of a variable from 1 to the count
pub var-dense_lit-count : (vars : List ℕ) (l : ℕ) → is_known vars l ≡ true → var (dense_lit vars l) ≤ length vars
var-dense_lit-count vars l h = omega (arith, var-dense_lit vars l, place-known vars (var l) h)

pub IsLiteral-dense_lit : (vars : List ℕ) (l : ℕ) → IsNumbering vars → is_known vars l ≡ true → IsLiteral (dense_lit vars l)
IsLiteral-dense_lit vars l o h = below (place vars (var l)) l (omega (arith, place-known vars (var l) h, numbering_limit vars o))
  where
    below : (p l : ℕ) → p < max_var → 2 * p + l % 2 < 2 * max_var
    below p l lt = omega arith

-- ---- One literal and back

pub file-dense : (vars : List ℕ) (l : ℕ) → is_known vars l ≡ true → file_lit vars (dense_lit vars l) ≡ l
file-dense vars l h = back (dense_lit vars l) l (ap (λ k. get_or vars (k - 1) 0) (var-dense_lit vars l) ∙ ap (λ k. get_or vars k 0) (taken (place vars (var l))) ∙ get-place vars (var l) h) (sign-dense_lit vars l)
  where
    taken : (k : ℕ) → k + 1 - 1 ≡ k
    taken k = omega arith

    back : (d l : ℕ) → var_of vars (var d) ≡ var l → d % 2 ≡ l % 2 → file_lit vars d ≡ l
    back d l e s = rw (e, s) (whole l)
      where
        whole : (l : ℕ) → 2 * (var l - 1) + l % 2 ≡ l
        whole l = omega arith

pub var-file_lit : (vars : List ℕ) (l : ℕ) → IsNumbering vars → var l ≤ length vars → var (file_lit vars l) ≡ var_of vars (var l)
var-file_lit vars l o le = halved (get_or vars (l / 2 + 1 - 1) 0) l (var-limit vars (l / 2 + 1 - 1) o (omega arith)).0
  where
    halved : (v l : ℕ) → 0 < v → (2 * (v - 1) + l % 2) / 2 + 1 ≡ v
    halved v l p = omega arith

-- the literal of a number's variable is known
pub known-file_lit : (vars : List ℕ) (l : ℕ) → IsNumbering vars → var l ≤ length vars → is_known vars (file_lit vars l) ≡ true
known-file_lit vars l o le = subst (λ v. has vars v ≡ true) (sym (var-file_lit vars l o le)) (has-get vars (l / 2 + 1 - 1) (omega arith))

pub dense-file : (vars : List ℕ) (l : ℕ) → IsNumbering vars → var l ≤ length vars → dense_lit vars (file_lit vars l) ≡ l
dense-file vars l o le =
    let p : place vars (var (file_lit vars l)) ≡ l / 2 + 1 - 1 = ap (place vars) (var-file_lit vars l o le) ∙ place-get vars (l / 2 + 1 - 1) o.once (omega arith) in
    whole (place vars (var (file_lit vars l))) (get_or vars (l / 2 + 1 - 1) 0) l p
  where
    whole : (p v l : ℕ) → p ≡ l / 2 + 1 - 1 → 2 * p + (2 * (v - 1) + l % 2) % 2 ≡ l
    whole p v l e = omega arith

-- ---- Lists

-- the translations of a list's literals are those of the list, and no others
pub has-dense_lits : (vars ls : List ℕ) (l : ℕ) → has ls l ≡ true → has (dense_lits vars ls) (dense_lit vars l) ≡ true
has-dense_lits vars ls l h = has_from (dense_lits vars ls) (dense_lit vars l) (mapped ls (has_at ls l h))
  where
    mapped : (ls : List ℕ) → Contains ls l → Contains (dense_lits vars ls) (dense_lit vars l)
    mapped [] m = absurd (not_in_nil l m)
    mapped (x ∷ xs) m = elim (here_or_there x l xs m) [
      | inl e ↦ subst (λ z. Contains (dense_lits vars (x ∷ xs)) (dense_lit vars z)) e (here (dense_lit vars x) (dense_lits vars xs))
      | inr n ↦ there (dense_lit vars x) (dense_lit vars l) (dense_lits vars xs) (mapped xs n)
    ]

pub dense_lits-member : (vars ls : List ℕ) (d : ℕ) → has (dense_lits vars ls) d ≡ true → (l : ℕ) × (has ls l ≡ true) × (d ≡ dense_lit vars l)
dense_lits-member vars ls d h = let r = unmapped ls (has_at (dense_lits vars ls) d h) in (r.0, has_from ls r.0 r.1, r.2)
  where
    unmapped : (ls : List ℕ) → Contains (dense_lits vars ls) d → (l : ℕ) × Contains ls l × (d ≡ dense_lit vars l)
    unmapped [] m = absurd (not_in_nil d m)
    unmapped (x ∷ xs) m = elim (here_or_there (dense_lit vars x) d (dense_lits vars xs) m) [
      | inl e ↦ (x, here x xs, sym e)
      | inr n ↦ let r = unmapped xs n in (r.0, there x r.0 xs r.1, r.2)
    ]

pub known_at : (vars ls : List ℕ) (l : ℕ) → are_known vars ls ≡ true → has ls l ≡ true → is_known vars l ≡ true
known_at vars ls l k h = all_at (is_known vars) ls l k (has_at ls l h)

pub known_from : (vars ls : List ℕ) → ((l : ℕ) → has ls l ≡ true → is_known vars l ≡ true) → are_known vars ls ≡ true
known_from vars ls k = all_from (is_known vars) ls (λ l m. k l (has_from ls l m))

-- a list has a literal exactly where its translation has the literal's, if the list is known, or the literal
pub has-dense : (vars ls : List ℕ) (l : ℕ) → are_known vars ls ≡ true → has (dense_lits vars ls) (dense_lit vars l) ≡ has ls l
has-dense vars ls l k = both_ways (has (dense_lits vars ls) (dense_lit vars l)) (has ls l)
    (λ h. let r = dense_lits-member vars ls (dense_lit vars l) h in
    subst (λ z. has ls z ≡ true) (dense_lit-injective vars r.0 l (known_at vars ls r.0 k r.1) (sym r.2)) r.1)
    (has-dense_lits vars ls l)

pub has-dense_known : (vars ls : List ℕ) (l : ℕ) → is_known vars l ≡ true → has (dense_lits vars ls) (dense_lit vars l) ≡ has ls l
has-dense_known vars ls l k = both_ways (has (dense_lits vars ls) (dense_lit vars l)) (has ls l)
    (λ h. let r = dense_lits-member vars ls (dense_lit vars l) h in
    subst (λ z. has ls z ≡ true) (sym (dense_lit-injective vars l r.0 k r.2)) r.1)
    (has-dense_lits vars ls l)

-- parts stay parts
pub part-dense_lits : (vars c d : List ℕ) → is_part c d ≡ true → is_part (dense_lits vars c) (dense_lits vars d) ≡ true
part-dense_lits vars c d h = part_from (dense_lits vars c) (dense_lits vars d) (λ x m.
    let r = dense_lits-member vars c x (has_from (dense_lits vars c) x m) in
    has_at (dense_lits vars d) x (subst (λ z. has (dense_lits vars d) z ≡ true) (sym r.2) (has-dense_lits vars d r.0 (has_from d r.0 (part_at c d h r.0 (has_at c r.0 r.1))))))

part-back : (vars c d : List ℕ) → ((l : ℕ) → has c l ≡ true → has (dense_lits vars d) (dense_lit vars l) ≡ true → has d l ≡ true)
    → is_part (dense_lits vars c) (dense_lits vars d) ≡ true → is_part c d ≡ true
part-back vars c d back h = part_from c d (λ l m.
    let x : has (dense_lits vars c) (dense_lit vars l) ≡ true = has-dense_lits vars c l (has_from c l m) in
    let y : Contains (dense_lits vars d) (dense_lit vars l) = part_at (dense_lits vars c) (dense_lits vars d) h (dense_lit vars l) (has_at (dense_lits vars c) (dense_lit vars l) x) in
    has_at d l (back l (has_from c l m) (has_from (dense_lits vars d) (dense_lit vars l) y)))

pub part-dense : (vars c d : List ℕ) → are_known vars d ≡ true → is_part (dense_lits vars c) (dense_lits vars d) ≡ is_part c d
part-dense vars c d k = both_ways (is_part (dense_lits vars c) (dense_lits vars d)) (is_part c d)
    (part-back vars c d (λ l m h. sym (has-dense vars d l k) ∙ h)) (part-dense_lits vars c d)

pub part-dense_known : (vars c d : List ℕ) → are_known vars c ≡ true → is_part (dense_lits vars c) (dense_lits vars d) ≡ is_part c d
part-dense_known vars c d k = both_ways (is_part (dense_lits vars c) (dense_lits vars d)) (is_part c d)
    (part-back vars c d (λ l m h. sym (has-dense_known vars d l (known_at vars c l k m)) ∙ h)) (part-dense_lits vars c d)

pub same_set-dense : (vars c d : List ℕ) → are_known vars d ≡ true → same_set (dense_lits vars c) (dense_lits vars d) ≡ same_set c d
same_set-dense vars c d k = ap (λ b. b && is_part (dense_lits vars d) (dense_lits vars c)) (part-dense vars c d k) ∙ ap (λ b. is_part c d && b) (part-dense_known vars d c k)

pub same_set-dense_lits : (vars c d : List ℕ) → same_set c d ≡ true → same_set (dense_lits vars c) (dense_lits vars d) ≡ true
same_set-dense_lits vars c d h = let parts = and_parts (is_part c d) (is_part d c) h in and_from _ _ (part-dense_lits vars c d parts.0) (part-dense_lits vars d c parts.1)

-- the set of a translated list is that of the translated set, which isn't in order
pub set_of-dense_lits : (vars c : List ℕ) → set_of (dense_lits vars (set_of c)) ≡ set_of (dense_lits vars c)
set_of-dense_lits vars c = set_of-same (dense_lits vars (set_of c)) (dense_lits vars c) (same_set-dense_lits vars (set_of c) c (same_from (set_of c) c (has-set_of c)))

pub sets-dense : (vars c d : List ℕ) → are_known vars d ≡ true → set_of (dense_lits vars c) ≡ set_of (dense_lits vars d) → set_of c ≡ set_of d
sets-dense vars c d k e = set_of-same c d (sym (same_set-dense vars c d k) ∙ same_set-from_set_of (dense_lits vars c) (dense_lits vars d) e)

pub dense-sets : (vars c d : List ℕ) → set_of c ≡ set_of d → set_of (dense_lits vars c) ≡ set_of (dense_lits vars d)
dense-sets vars c d e = set_of-same (dense_lits vars c) (dense_lits vars d) (same_set-dense_lits vars c d (same_set-from_set_of c d e))

pub tautology-dense : (vars c : List ℕ) → are_known vars c ≡ true → is_tautology (dense_lits vars c) ≡ is_tautology c
tautology-dense vars c k = both_ways (is_tautology (dense_lits vars c)) (is_tautology c)
    (λ h. let t = tautology_at (dense_lits vars c) h in
    let r = dense_lits-member vars c t.0 (has_from (dense_lits vars c) t.0 t.1) in
    let n : has (dense_lits vars c) (dense_lit vars (neg r.0)) ≡ true = subst (λ z. has (dense_lits vars c) z ≡ true) (ap neg r.2 ∙ sym (dense_lit-neg vars r.0)) (has_from (dense_lits vars c) (neg t.0) t.2) in
    tautology_from c r.0 (has_at c r.0 r.1) (has_at c (neg r.0) (sym (has-dense vars c (neg r.0) k) ∙ n)))
    (λ h. let t = tautology_at c h in
    let n : has (dense_lits vars c) (neg (dense_lit vars t.0)) ≡ true = subst (λ z. has (dense_lits vars c) z ≡ true) (dense_lit-neg vars t.0) (has-dense_lits vars c (neg t.0) (has_from c (neg t.0) t.2)) in
    tautology_from (dense_lits vars c) (dense_lit vars t.0) (has_at (dense_lits vars c) (dense_lit vars t.0) (has-dense_lits vars c t.0 (has_from c t.0 t.1))) (has_at (dense_lits vars c) (neg (dense_lit vars t.0)) n))

-- known lists are translated back
pub file-dense_lits : (vars ls : List ℕ) → are_known vars ls ≡ true → file_lits vars (dense_lits vars ls) ≡ ls
file-dense_lits vars [] k = refl
file-dense_lits vars (l ∷ ls) k =
    let parts = and_parts (is_known vars l) (are_known vars ls) k in
    ap (λ z. z ∷ file_lits vars (dense_lits vars ls)) (file-dense vars l parts.0) ∙ ap (λ zs. l ∷ zs) (file-dense_lits vars ls parts.1)

-- so two lists are translated into the same only where they are the same
pub dense_lits-injective : (vars c d : List ℕ) → are_known vars c ≡ true → are_known vars d ≡ true → dense_lits vars c ≡ dense_lits vars d → c ≡ d
dense_lits-injective vars c d k k2 e = sym (file-dense_lits vars c k) ∙ ap (file_lits vars) e ∙ file-dense_lits vars d k2

-- ---- Longer numberings

pub known-append : (vars more : List ℕ) (l : ℕ) → is_known vars l ≡ true → is_known (vars ++ more) l ≡ true
known-append vars more l h = has-append vars more (var l) ∙ rw h refl

pub dense_lit-append : (vars more : List ℕ) (l : ℕ) → is_known vars l ≡ true → dense_lit (vars ++ more) l ≡ dense_lit vars l
dense_lit-append vars more l h = ap (λ p. 2 * p + l % 2) (place-append vars more (var l) h)

pub are_known-append : (vars more ls : List ℕ) → are_known vars ls ≡ true → are_known (vars ++ more) ls ≡ true
are_known-append vars more ls k = known_from (vars ++ more) ls (λ l h. known-append vars more l (known_at vars ls l k h))

pub dense_lits-append : (vars more ls : List ℕ) → are_known vars ls ≡ true → dense_lits (vars ++ more) ls ≡ dense_lits vars ls
dense_lits-append vars more [] k = refl
dense_lits-append vars more (l ∷ ls) k =
    let parts = and_parts (is_known vars l) (are_known vars ls) k in
    ap (λ z. z ∷ dense_lits (vars ++ more) ls) (dense_lit-append vars more l parts.0) ∙ ap (λ zs. dense_lit vars l ∷ zs) (dense_lits-append vars more ls parts.1)

-- ---- Many literals, one after another

-- the numbering that was there is the front of the new one
pub with_lits-extends : (vars ls : List ℕ) → (more : List ℕ) × (with_lits vars ls ≡ vars ++ more)
unfolding with_lits
with_lits-extends vars [] = ([], sym (append-nil vars))
  where
    append-nil : (xs : List ℕ) → xs ++ [] ≡ xs
    append-nil [] = refl
    append-nil (x ∷ xs) = ap (λ z. x ∷ z) (append-nil xs)
with_lits-extends vars (l ∷ ls) =
    let one = with_var-extends vars (var l) in
    let rest = with_lits-extends (with_var vars (var l)) ls in
    (one.0 ++ rest.0, rest.1 ∙ ap (λ xs. xs ++ rest.0) one.1 ∙ append-assoc vars one.0 rest.0)
  where
    append-assoc : (xs ys zs : List ℕ) → (xs ++ ys) ++ zs ≡ xs ++ (ys ++ zs)
    append-assoc [] ys zs = refl
    append-assoc (x ∷ xs) ys zs = ap (λ z. x ∷ z) (append-assoc xs ys zs)

-- a known literal's translation stays
pub known-with_lits : (vars ls : List ℕ) (l : ℕ) → is_known vars l ≡ true → is_known (with_lits vars ls) l ≡ true
known-with_lits vars ls l h = let r = with_lits-extends vars ls in subst (λ xs. is_known xs l ≡ true) (sym r.1) (known-append vars r.0 l h)

pub dense_lit-with_lits : (vars ls : List ℕ) (l : ℕ) → is_known vars l ≡ true → dense_lit (with_lits vars ls) l ≡ dense_lit vars l
dense_lit-with_lits vars ls l h = let r = with_lits-extends vars ls in ap (λ xs. dense_lit xs l) r.1 ∙ dense_lit-append vars r.0 l h

-- the literals that came are known
pub are_known-with_lits : (vars ls : List ℕ) → are_known (with_lits vars ls) ls ≡ true
unfolding with_lits
are_known-with_lits vars [] = refl
are_known-with_lits vars (l ∷ ls) = and_from _ _ (known-with_lits (with_var vars (var l)) ls l (known-with_var vars (var l))) (are_known-with_lits (with_var vars (var l)) ls)

-- and no others, besides those that were known
pub known-with_lits_cases : (vars ls : List ℕ) (v : ℕ) → has (with_lits vars ls) v ≡ true → (has vars v ≡ true) ⊎ ((l : ℕ) × (has ls l ≡ true) × (v ≡ var l))
unfolding with_lits
known-with_lits_cases vars [] v h = inl h
known-with_lits_cases vars (l ∷ ls) v h = elim (known-with_lits_cases (with_var vars (var l)) ls v h) [
  | inl y ↦ elim (or_cases (has vars v) (nat_eq v (var l)) (sym (has-with_var vars (var l) v) ∙ y)) [
    | inl k ↦ inl k
    | inr e ↦ inr (l, has_from (l ∷ ls) l (here l ls), eqb-true v (var l) e)
  ]
  | inr r ↦ inr (r.0, has_from (l ∷ ls) r.0 (there l r.0 ls (has_at ls r.0 r.1)), r.2)
]

pub numbering-with_lits : (vars ls : List ℕ) → IsNumbering vars → ((l : ℕ) → has ls l ≡ true → IsLiteral l) → IsNumbering (with_lits vars ls)
unfolding with_lits
numbering-with_lits vars [] o k = o
numbering-with_lits vars (l ∷ ls) o k = numbering-with_lits (with_var vars (var l)) ls
    (numbering-with_var vars (var l) o (in_range l (k l (has_from (l ∷ ls) l (here l ls)))))
    (λ m h. k m (has_from (l ∷ ls) m (there l m ls (has_at ls m h))))
  where
    in_range : (l : ℕ) → IsLiteral l → IsVariable (var l)
    in_range l lt = (omega arith, omega arith)

pub with_lits-append : (vars ls ms : List ℕ) → with_lits vars (ls ++ ms) ≡ with_lits (with_lits vars ls) ms
unfolding with_lits
with_lits-append vars [] ms = refl
with_lits-append vars (l ∷ ls) ms = with_lits-append (with_var vars (var l)) ls ms

-- ---- A list whose literals are translated as they come

-- a literal's translation is the same before and after its variable came
pub dense_lit-with_var : (vars : List ℕ) (l : ℕ) → dense_lit (with_var vars (var l)) l ≡ dense_lit vars l
dense_lit-with_var vars l = ap (λ p. 2 * p + l % 2) (place-with_var vars (var l))

pub dense_lits-with_var : (vars : List ℕ) (v : ℕ) (ls : List ℕ) → are_known vars ls ≡ true → dense_lits (with_var vars v) ls ≡ dense_lits vars ls
dense_lits-with_var vars v ls k = let r = with_var-extends vars v in ap (λ xs. dense_lits xs ls) r.1 ∙ dense_lits-append vars r.0 ls k

pub with_lits-push : (vars ls : List ℕ) (l : ℕ) → with_lits vars (ls ++ l ∷ []) ≡ with_var (with_lits vars ls) (var l)
unfolding with_lits
with_lits-push vars ls l = with_lits-append vars ls (l ∷ [])

-- one literal more
pub numbered_lits-push : (vars ls : List ℕ) (l : ℕ) → numbered_lits vars (ls ++ l ∷ []) ≡ numbered_lits vars ls ++ dense_lit (with_lits vars ls) l ∷ []
numbered_lits-push vars ls l =
    let now : List ℕ = with_lits vars ls in
    ap (λ xs. dense_lits xs (ls ++ l ∷ [])) (with_lits-push vars ls l) ∙ map-append (dense_lit (with_var now (var l))) ls (l ∷ [])
    ∙ ap (λ xs. xs ++ dense_lit (with_var now (var l)) l ∷ []) (dense_lits-with_var now (var l) ls (are_known-with_lits vars ls))
    ∙ ap (λ d. dense_lits now ls ++ d ∷ []) (dense_lit-with_var now l)
