-- Where literals stand on a trail, and what stays of it.
use Rattle.std.proofs.Common.{◌≡◌, ℕ, zero, suc, ◌+◌, ◌-◌, ◌<◌, ◌≤◌, ◌⊎◌, true, false, nat_eq, List, [], ◌∷◌, ◌++◌, length, Option, Some, None, refl, sym, ◌∙◌, ap, subst, inl, inr, arith, eqb-true, eq-eqb, append_assoc, le_of_suc-le-suc}
use Rattle.std.specs.Prelude.{is_none}
use Rattle.std.proofs.lemmas.Bool.{cases_Bool, both_ways, or_cases, or_left, or_right}
use Rattle.lits.specs.Literal.{var, neg}
use Rattle.session_rules.specs.Logic.{has}
use Rattle.lits.proofs.Literal.{neg-neg}
use Rattle.propagation.specs.declared.TrailEntry.{TrailEntry}
use Rattle.propagation.specs.Assigned.{raised}
use Rattle.propagation.specs.Engine.{IsFree, literals, level_after, level_behind, up_to_level, CameBefore, place_in, is_assumed}
use Rattle.std.specs.List.{position_from}
use Rattle.std.proofs.lemmas.Iterator.Adapters.{position_from-zero}
use Rattle.std.proofs.lemmas.List.{map-append, length-append}
use Rattle.std.proofs.lemmas.Option.{none-some, same_Some}
use Rattle.propagation.proofs.Places.{place-none, place-at}
use Rattle.propagation.proofs.Parts.{has-front, has-back, free-front}
use Rattle.propagation.proofs.Assigning.{free-rest}
use Rattle.propagation.proofs.Levels.{up_to_level-below}
use Rattle.propagation.proofs.Trail.{level_after-append, cut_push, length-literals}

-- ---- Members

-- the entry of a true literal
pub record Stands (ss : List TrailEntry) (l : ℕ) : Type 0 where
  pub before : List TrailEntry
  pub step : TrailEntry
  pub after : List TrailEntry
  pub cut : ss ≡ before ++ step ∷ after
  pub lit : step.lit ≡ l

pub stands : (ss : List TrailEntry) (l : ℕ) → has (literals ss) l ≡ true → Stands ss l
stands [] l h = cc h
stands (s ∷ ss) l h = elim (or_cases (nat_eq l s.lit) (has (literals ss) l) h) [
  | inl y ↦ record { before = []; step = s; after = ss; cut = refl; lit = sym (eqb-true l s.lit y) }
  | inr y ↦ let r = stands ss l y in record { before = s ∷ r.before; step = r.step; after = r.after; cut = ap (λ z. s ∷ z) r.cut; lit = r.lit }
]

pub has-first : (s : TrailEntry) (ss : List TrailEntry) → has (literals (s ∷ ss)) s.lit ≡ true
has-first s ss = or_left (nat_eq s.lit s.lit) (has (literals ss) s.lit) (eq-eqb s.lit s.lit refl)

pub lacks : (ls : List ℕ) (l : ℕ) → (has ls l ≡ true → ⊥) → has ls l ≡ false
lacks ls l h = elim (cases_Bool (has ls l)) [ inl y ↦ absurd (h y) | inr n ↦ n ]

-- ---- Order

from-lower : (ls : List ℕ) (l n p : ℕ) → position_from (nat_eq l) n ls ≡ Some p → n ≤ p
from-lower [] l n p h = cc h
from-lower (x ∷ ls) l n p h = elim (cases_Bool (nat_eq l x)) [
  | inl y ↦ let f : Some n ≡ Some p = rw y at h in let g : n ≡ p = same_Some _ _ f in omega (arith, g)
  | inr o ↦ let f : position_from (nat_eq l) (n + 1) ls ≡ Some p = rw o at h in let r = from-lower ls l (n + 1) p f in omega (arith, r)
]

from-upper : (ls : List ℕ) (l n p : ℕ) → position_from (nat_eq l) n ls ≡ Some p → p < n + length ls
from-upper [] l n p h = cc h
from-upper (x ∷ ls) l n p h = elim (cases_Bool (nat_eq l x)) [
  | inl y ↦ let f : Some n ≡ Some p = rw y at h in let g : n ≡ p = same_Some _ _ f in omega (arith, g)
  | inr o ↦ let f : position_from (nat_eq l) (n + 1) ls ≡ Some p = rw o at h in let r = from-upper ls l (n + 1) p f in omega (arith, r)
]

-- what isn't in a front has its place behind it
from-behind : (xs ys : List ℕ) (l n p : ℕ) → has xs l ≡ false → position_from (nat_eq l) n (xs ++ ys) ≡ Some p → n + length xs ≤ p
from-behind [] ys l n p k h = let r = from-lower ys l n p h in omega (arith, r)
from-behind (x ∷ xs) ys l n p k h = elim (cases_Bool (nat_eq l x)) [
  | inl y ↦ absurd (both_ways _ k (or_left (nat_eq l x) (has xs l) y))
  | inr o ↦
      let g : has xs l ≡ false = rw o at k in
      let f : position_from (nat_eq l) (n + 1) (xs ++ ys) ≡ Some p = rw o at h in
      let r = from-behind xs ys l (n + 1) p g f in omega (arith, r)
]

-- and what is in it has the same place in the whole
from-front : (xs ys : List ℕ) (l n : ℕ) → has xs l ≡ true → position_from (nat_eq l) n (xs ++ ys) ≡ position_from (nat_eq l) n xs
from-front [] ys l n h = cc h
from-front (x ∷ xs) ys l n h = elim (cases_Bool (nat_eq l x)) [
  | inl y ↦ rw y refl
  | inr o ↦ let f : has xs l ≡ true = rw o at h in rw o (from-front xs ys l (n + 1) f)
]

from-some : (ls : List ℕ) (l n : ℕ) → has ls l ≡ true → (p : ℕ) × (position_from (nat_eq l) n ls ≡ Some p)
from-some [] l n h = cc h
from-some (x ∷ ls) l n h = elim (cases_Bool (nat_eq l x)) [
  | inl y ↦ (n, rw y refl)
  | inr o ↦ let f : has ls l ≡ true = rw o at h in let r = from-some ls l (n + 1) f in (r.0, rw o r.1)
]

-- a true literal has a place
place-some : (trues : List ℕ) (l : ℕ) → has trues l ≡ true → (p : ℕ) × (place_in trues l ≡ Some p)
place-some trues l h = let r = from-some trues l 0 h in (r.0, position_from-zero (nat_eq l) trues ∙ r.1)

placed-has : (trues : List ℕ) (l p : ℕ) → place_in trues l ≡ Some p → has trues l ≡ true
placed-has trues l p h = elim (cases_Bool (has trues l)) [
  | inl y ↦ y
  | inr o ↦ absurd (none-some p (sym (place-none trues l o) ∙ h))
]

pub before-has_earlier : (xs : List ℕ) (a b : ℕ) → CameBefore xs a b → has xs a ≡ true
before-has_earlier xs a b h = placed-has xs a h.place_one h.at_one

order-front : (xs ys : List ℕ) (a b : ℕ) → CameBefore (xs ++ ys) a b → has xs b ≡ true → CameBefore xs a b
order-front xs ys a b h k =
    let second : position_from (nat_eq b) 0 xs ≡ Some h.place_two = sym (from-front xs ys b 0 k) ∙ sym (position_from-zero (nat_eq b) (xs ++ ys)) ∙ h.at_two in
    let first : position_from (nat_eq a) 0 (xs ++ ys) ≡ Some h.place_one = sym (position_from-zero (nat_eq a) (xs ++ ys)) ∙ h.at_one in
    let inside = from-upper xs b 0 h.place_two second in
    let order = h.order in
    let member : has xs a ≡ true = elim (cases_Bool (has xs a)) [
      | inl y ↦ y
      | inr o ↦ let r = from-behind xs ys a 0 h.place_one o first in absurd (omega (arith, r, inside, order))
    ] in
    record {
      place_one = h.place_one;
      place_two = h.place_two;
      at_one = position_from-zero (nat_eq a) xs ∙ sym (from-front xs ys a 0 member) ∙ first;
      at_two = position_from-zero (nat_eq b) xs ∙ second;
      order = h.order;
    }

-- the order in a front
pub before-front : (xs ys : List TrailEntry) (a b : ℕ) → CameBefore (literals (xs ++ ys)) a b → has (literals xs) b ≡ true → CameBefore (literals xs) a b
before-front xs ys a b h k = order-front (literals xs) (literals ys) a b (subst (λ z. CameBefore z a b) (map-append (λ (t : TrailEntry). t.lit) xs ys) h) k

-- an entry stands before those behind it
pub before-at : (xs ys : List TrailEntry) (s : TrailEntry) (b : ℕ) → has (literals xs) s.lit ≡ false → has (literals (xs ++ s ∷ [])) b ≡ false → has (literals ys) b ≡ true
    → CameBefore (literals (xs ++ s ∷ ys)) s.lit b
before-at xs ys s b h k m =
    let whole : literals (xs ++ s ∷ ys) ≡ literals (xs ++ s ∷ []) ++ literals ys =
    ap literals (sym (append_assoc xs (s ∷ []) ys)) ∙ map-append (λ (t : TrailEntry). t.lit) (xs ++ s ∷ []) ys in
    let there : has (literals (xs ++ s ∷ ys)) b ≡ true = has-back xs (s ∷ ys) b (or_right (nat_eq b s.lit) (has (literals ys) b) m) in
    let r = place-some (literals (xs ++ s ∷ ys)) b there in
    let f : position_from (nat_eq b) 0 (literals (xs ++ s ∷ []) ++ literals ys) ≡ Some r.0 =
    ap (position_from (nat_eq b) 0) (sym whole) ∙ sym (position_from-zero (nat_eq b) (literals (xs ++ s ∷ ys))) ∙ r.1 in
    let behind = from-behind (literals (xs ++ s ∷ [])) (literals ys) b 0 r.0 k f in
    let size : length (literals (xs ++ s ∷ [])) ≡ length xs + 1 = length-literals (xs ++ s ∷ []) ∙ length-append xs (s ∷ []) in
    record {
      place_one = length xs;
      place_two = r.0;
      at_one = place-at xs ys s h;
      at_two = r.1;
      order = omega (arith, behind, size);
    }

-- ---- Levels

-- where the trail is cut at a lower level, an assumed literal is the next
pub record Cut (ss : List TrailEntry) (n : ℕ) : Type 0 where
  pub step : TrailEntry
  pub after : List TrailEntry
  pub cut : ss ≡ up_to_level n ss ++ step ∷ after
  pub assumed : step.reason ≡ None

is_none_at : (o : Option ℕ) → is_none o ≡ true → o ≡ None
is_none_at None h = refl
is_none_at (Some r) h = cc h

pub cut-below : (n : ℕ) (ss : List TrailEntry) → n < level_after ss → Cut ss n
unfolding up_to_level
cut-below n [] h = absurd (omega arith)
cut-below zero (s ∷ ss) h = elim (cases_Bool (is_assumed s)) [
  | inl y ↦ record { step = s; after = ss; cut = rw y refl; assumed = is_none_at s.reason y }
  | inr o ↦
      let f : zero < level_after ss = rw o at h in let r = cut-below zero ss f in
      record { step = r.step; after = r.after; cut = rw o (ap (λ z. s ∷ z) r.cut); assumed = r.assumed }
]
cut-below (suc n) (s ∷ ss) h = elim (cases_Bool (is_assumed s)) [
  | inl y ↦ let f : suc n < suc (level_after ss) = rw y at h in assumed_first y (cut-below n ss (le_of_suc-le-suc f))
  | inr o ↦
      let f : suc n < level_after ss = rw o at h in let r = cut-below (suc n) ss f in
      record { step = r.step; after = r.after; cut = rw o (ap (λ z. s ∷ z) r.cut); assumed = r.assumed }
]
  where
    assumed_first : is_assumed s ≡ true → Cut ss n → Cut (s ∷ ss) (suc n)
    assumed_first y r = record { step = r.step; after = r.after; cut = rw y (ap (λ z. s ∷ z) r.cut); assumed = r.assumed }

-- all up to a level is kept at it
pub up_to_level-behind : (n m : ℕ) (xs ys : List TrailEntry) → n ≡ level_after xs + m → up_to_level n (xs ++ ys) ≡ xs ++ up_to_level m ys
unfolding up_to_level
up_to_level-behind n m [] ys h = let g : n ≡ m = omega (arith, h) in ap (λ z. up_to_level z ys) g
up_to_level-behind zero m (x ∷ xs) ys h = elim (cases_Bool (is_assumed x)) [
  | inl y ↦ let f : zero ≡ suc (level_after xs) + m = rw y at h in absurd (omega arith)
  | inr o ↦ let f : zero ≡ level_after xs + m = rw o at h in rw o (ap (λ z. x ∷ z) (up_to_level-behind zero m xs ys f))
]
up_to_level-behind (suc n) m (x ∷ xs) ys h = elim (cases_Bool (is_assumed x)) [
  | inl y ↦ let f : suc n ≡ suc (level_after xs) + m = rw y at h in let g : n ≡ level_after xs + m = omega arith in
      rw y (ap (λ z. x ∷ z) (up_to_level-behind n m xs ys g))
  | inr o ↦ let f : suc n ≡ level_after xs + m = rw o at h in rw o (ap (λ z. x ∷ z) (up_to_level-behind (suc n) m xs ys f))
]

raised-on : (n : ℕ) (x : TrailEntry) (ss : List TrailEntry) → raised n x.reason + level_after ss ≡ n + level_after (x ∷ ss)
raised-on n x ss = elim (cases_Bool (is_none x.reason)) [ inl y ↦ rw y (omega arith) | inr o ↦ rw o refl ]

-- the level behind one entry
sym_first : (n : ℕ) (s : TrailEntry) → raised n s.reason ≡ n + level_after (s ∷ [])
sym_first n s = let e : raised n s.reason + 0 ≡ n + level_after (s ∷ []) = raised-on n s [] in omega (arith, e)

level-at_from : (n : ℕ) (before after : List TrailEntry) (s : TrailEntry) → IsFree (literals before) s.lit → level_behind n (before ++ s ∷ after) s.lit ≡ Some (n + level_after (before ++ s ∷ []))
unfolding level_behind
level-at_from n [] after s free = let same : nat_eq (var s.lit) (var s.lit) ≡ true = eq-eqb _ _ refl in rw same (ap Some (sym_first n s))
level-at_from n (x ∷ before) after s free = let r = free-rest x before s.lit free in
    rw r.0 (level-at_from (raised n x.reason) before after s r.1 ∙ ap Some (raised-on n x (before ++ s ∷ [])))

-- an entry's literal has the level that is reached behind it
pub level-at : (before after : List TrailEntry) (s : TrailEntry) → IsFree (literals before) s.lit → level_behind 0 (before ++ s ∷ after) s.lit ≡ Some (level_after (before ++ s ∷ []))
level-at before after s free = level-at_from 0 before after s free ∙ ap Some (omega arith)

-- a literal whose level isn't above stays
pub stays-at : (n : ℕ) (before after : List TrailEntry) (s : TrailEntry) → level_after (before ++ s ∷ []) ≤ n → has (literals (up_to_level n (before ++ s ∷ after))) s.lit ≡ true
stays-at n before after s h =
    let k : n ≡ level_after (before ++ s ∷ []) + (n - level_after (before ++ s ∷ [])) = omega arith in
    let e = up_to_level-behind n (n - level_after (before ++ s ∷ [])) (before ++ s ∷ []) after k in
    subst (λ z. has (literals z) s.lit ≡ true) (sym e ∙ ap (up_to_level n) (append_assoc before (s ∷ []) after))
    (has-front (before ++ s ∷ []) (up_to_level (n - level_after (before ++ s ∷ [])) after) s.lit (has-back before (s ∷ []) s.lit (has-first s [])))

-- and one whose level is above is free then
pub goes-at : (n : ℕ) (before after : List TrailEntry) (s : TrailEntry) → IsFree (literals before) s.lit → n < level_after (before ++ s ∷ []) → IsFree (literals (up_to_level n (before ++ s ∷ after))) s.lit
goes-at n before after s free h =
    let c = cut-below n (before ++ s ∷ []) h in
    let e : up_to_level n (before ++ s ∷ after) ≡ up_to_level n (before ++ s ∷ []) = ap (up_to_level n) (sym (append_assoc before (s ∷ []) after)) ∙ up_to_level-below n (before ++ s ∷ []) after h in
    subst (λ z. IsFree (literals z) s.lit) (sym e) (elim (cut_push before s (up_to_level n (before ++ s ∷ [])) c.after c.step c.cut) [
      | inl r ↦ subst (λ z. IsFree (literals z) s.lit) (sym r.0) free
      | inr r ↦ free-front (up_to_level n (before ++ s ∷ [])) (c.step ∷ r.0) s.lit (subst (λ z. IsFree (literals z) s.lit) r.1 free)
    ])

pub free-neg : (trues : List ℕ) (l : ℕ) → IsFree trues (neg l) → IsFree trues l
free-neg trues l f = (subst (λ z. has trues z ≡ false) (neg-neg l) f.1, f.0)

-- an item of a list in two parts is in the first or in the second
pub split_parts : (xs ys before after : List TrailEntry) (s : TrailEntry) → xs ++ ys ≡ before ++ s ∷ after → ((rest : List TrailEntry) × (xs ≡ before ++ s ∷ rest)) ⊎ ((more : List TrailEntry) × (ys ≡ more ++ s ∷ after))
split_parts [] ys before after s e = inr (before, e)
split_parts (x ∷ xs) ys [] after s e = let f : x ∷ (xs ++ ys) ≡ s ∷ after = e in let g : x ≡ s = cc f in inl (xs, ap (λ z. z ∷ xs) g)
split_parts (x ∷ xs) ys (b ∷ before) after s e =
    let f : x ∷ (xs ++ ys) ≡ b ∷ (before ++ s ∷ after) = e in
    let g : x ≡ b = cc f in let h : xs ++ ys ≡ before ++ s ∷ after = cc f in
    elim (split_parts xs ys before after s h) [
      | inl r ↦ inl (r.0, (λ i. g i ∷ r.1 i))
      | inr r ↦ inr r
    ]

pub level_after-assumed : (before after : List TrailEntry) (s : TrailEntry) → s.reason ≡ None → level_after (before ++ s ∷ after) ≡ level_after before + suc (level_after after)
level_after-assumed before after s r = level_after-append before (s ∷ after) ∙ ap (λ z. level_after before + z) first
  where
    first : level_after (s ∷ after) ≡ suc (level_after after)
    first = let y : is_assumed s ≡ true = ap is_none r in rw y refl
