-- What an engine's calls say of clauses, levels and places.
use Rattle.std.proofs.Common.{◌≡◌, ◌≢◌, ℕ, zero, suc, ◌+◌, ◌-◌, ◌/◌, ◌^◌, ◌<◌, ◌≤◌, ◌⊎◌, Bool, true, false, ◌&&◌, List, [], ◌∷◌, ◌++◌, length, take, drop, filter, get_or, set, Contains, Some, refl, sym, ◌∙◌, ap, subst, inl, inr, arith, append_assoc}
use Rattle.std.proofs.lemmas.List.{take-append-drop, take_more}
use Rattle.std.proofs.lemmas.Bool.{cases_Bool, both_ways, and_from, cases_eq}
use Rattle.lits.specs.Literal.{neg, var}
use Rattle.session_rules.specs.Logic.{has}
use Rattle.lits.proofs.Members.{here, there, here_or_there, not_in_nil, has_at, has_from}
use Rattle.propagation.specs.declared.TrailEntry.{TrailEntry}
use Rattle.propagation.specs.Assigned.{AreNew}
use Rattle.propagation.specs.Engine.{EngineView, IsEngine, IsOnce, literals, level_after, level_behind, reason_in}
use Rattle.propagation.proofs.Trail.{new_entries, AreNew-prefix, active_reserved, trail-le, length-literals}
use Rattle.propagation.proofs.Assigning.{reason-found, cut_at}
use Rattle.propagation.proofs.Closing.{consistent_trail}
use Rattle.propagation.proofs.Parts.{has-front, has-back, later-free}
use Rattle.search_laws.proofs.Placing.{lacks, has-first}
use Rattle.search_laws.proofs.Asserting.{append_either, placed, stays-false, goes-free, level-within}
use Rattle.conflict_analysis.specs.declared.marks.Mark.{Mark}
use Rattle.conflict_analysis.specs.declared.marks.Mark.TheVariants as mark
use Rattle.conflict_analysis.specs.Marked.{is_pending, pending}
use Rattle.conflict_analysis.specs.Walking.{IsActive, is_top, count_top}
use Rattle.conflict_analysis.proofs.Marking.{pending-set, pending-other, count-same, count-more}

-- ---- Clauses

-- a literal of an active clause is reserved
pub clause_reserved : (e : EngineView) (s m : ℕ) (ls : List ℕ) → IsEngine e → (a : IsActive e s) → ((l : ℕ) → has ls l ≡ has a.1 l) → Contains ls m → var m ≤ e.vars
clause_reserved e s m ls k a same n = active_reserved e k a.0 m a.1 a.2.clause_is (has_at a.1 m (sym (same m) ∙ has_from ls m n))

pub reason_active : (e : EngineView) (l r : ℕ) → IsEngine e → reason_in e.trail l ≡ Some r → IsActive e r
reason_active e l r k h =
    let f = reason-found e.trail l r h in
    let q = cut_at e.trail f.0 f.1 in
    let y = (k.entries q.0 q.1 f.0 q.2).reason r f.2 in
    (y.0, y.1, record { slot_is = y.2; clause_is = y.3 })

-- ---- Levels

pub top_at : (e : EngineView) (m d : ℕ) → IsEngine e → 0 < level_after e.trail → d ≡ level_after e.trail → has (literals e.trail) (neg m) ≡ true → level_behind 0 e.trail m ≡ Some d → is_top e (neg m) ≡ true
top_at e m d k pos is h at = let f = goes-free e m (level_after e.trail - 1) d k h at (omega (arith, pos, is)) in rw f.1 refl

pub low_at : (e : EngineView) (m d : ℕ) → IsEngine e → d ≢ level_after e.trail → has (literals e.trail) (neg m) ≡ true → level_behind 0 e.trail m ≡ Some d → is_top e (neg m) ≡ false
low_at e m d k ne h at = let w = level-within e m d k h at in let s = stays-false e m (level_after e.trail - 1) d k h at (omega (arith, w, ne)) in rw s refl

-- ---- Places

once_along : (n : ℕ) (ss before after : List TrailEntry) → AreNew n ss → ss ≡ before ++ after → IsOnce (literals after)
once_along n ss before [] k at = tt
once_along n ss before (s ∷ after) k at =
    let at2 : ss ≡ (before ++ s ∷ []) ++ after = at ∙ sym (append_assoc before (s ∷ []) after) in (
      lacks (literals after) s.lit (λ h. both_ways _ (later-free n ss (before ++ s ∷ []) after s.lit k at2 h).0 (has-back before (s ∷ []) s.lit (has-first s []))),
      once_along n ss (before ++ s ∷ []) after k at2,
    )

pub once_taken : (e : EngineView) (i : ℕ) → IsEngine e → IsOnce (literals (take i e.trail))
once_taken e i k = once_along e.vars (take i e.trail) [] (take i e.trail)
    (AreNew-prefix e.vars (take i e.trail) (drop i e.trail) (subst (AreNew e.vars) (sym (take-append-drop i e.trail)) (new_entries e k))) refl

pub has_taken : (e : EngineView) (i l : ℕ) → has (literals (take i e.trail)) l ≡ true → has (literals e.trail) l ≡ true
has_taken e i l h = subst (λ z. has (literals z) l ≡ true) (take-append-drop i e.trail) (has-front (take i e.trail) (drop i e.trail) l h)

-- ---- One literal more that is pending

and_false : (b : Bool) → (b && false) ≡ false
and_false b = elim (cases_Bool b) [ inl y ↦ rw y refl | inr y ↦ rw y refl ]

-- of the true literals only the one of the variable changes
same_var : (e : EngineView) (i m l : ℕ) → IsEngine e → has (literals (take i e.trail)) (neg m) ≡ true → Contains (literals (take i e.trail)) l → l ≢ neg m → l / 2 ≢ m / 2
same_var e i m l k h n ne q =
    let opposite : neg l ≡ neg m = omega (arith, ne, q) in
    consistent_trail e k l (has_taken e i l (has_from (literals (take i e.trail)) l n)) (has_taken e i (neg l) (subst (λ z. has (literals (take i e.trail)) z ≡ true) (sym opposite) h))

filtered : (p : ℕ → Bool) (ls : List ℕ) → length (filter p ls) ≤ length ls
filtered p [] = omega arith
filtered p (x ∷ ls) = let r = filtered p ls in elim (cases_Bool (p x)) [ inl y ↦ rw y (omega arith) | inr y ↦ rw y (omega arith) ]

taken : (ss : List TrailEntry) (i : ℕ) → length (take i ss) ≤ length ss
taken [] zero = omega arith
taken [] (suc i) = omega arith
taken (x ∷ ss) zero = omega arith
taken (x ∷ ss) (suc i) = let r = taken ss i in omega arith

pub count_marked : (e : EngineView) (i m : ℕ) (ms : List Mark) → IsEngine e → m / 2 < length ms → pending ms m ≡ false → has (literals (take i e.trail)) (neg m) ≡ true → is_top e (neg m) ≡ true
    → count_top e (set ms (m / 2) mark.Kept) (literals (take i e.trail)) ≡ count_top e ms (literals (take i e.trail)) + 1
count_marked e i m ms k room p h t =
    let v : neg m / 2 ≡ m / 2 = omega arith in
    let before : pending ms (neg m) ≡ false = ap (λ z. is_pending (get_or ms z mark.Clear)) v ∙ p in
    count-more (λ l. is_top e l && pending ms l) (λ l. is_top e l && pending (set ms (m / 2) mark.Kept) l) (literals (take i e.trail)) (neg m) (once_taken e i k) h
    (rw before (and_false (is_top e (neg m)))) (and_from _ _ t (pending-set ms m (neg m) mark.Kept room v))
    (λ l n ne. ap (λ z. is_top e l && z) (sym (pending-other ms m l mark.Kept (same_var e i m l k h n ne))))

pub count_unmarked : (e : EngineView) (i m : ℕ) (ms : List Mark) → IsEngine e → has (literals (take i e.trail)) (neg m) ≡ true → is_top e (neg m) ≡ false
    → count_top e (set ms (m / 2) mark.Kept) (literals (take i e.trail)) ≡ count_top e ms (literals (take i e.trail))
count_unmarked e i m ms k h t = count-same _ _ (literals (take i e.trail)) (λ l n. elim (cases_eq l (neg m)) [
  | inl q ↦ let f : is_top e l ≡ false = ap (is_top e) q ∙ t in (λ i. f i && pending (set ms (m / 2) mark.Kept) l) ∙ sym (λ i. f i && pending ms l)
  | inr q ↦ ap (λ z. is_top e l && z) (pending-other ms m l mark.Kept (same_var e i m l k h n q))
])

pub count_within : (e : EngineView) (i : ℕ) (ms : List Mark) (count : ℕ) → IsEngine e → count ≡ count_top e ms (literals (take i e.trail)) → count < 2 ^ 31
count_within e i ms count k is =
    let a = filtered (λ l. is_top e l && pending ms l) (literals (take i e.trail)) in
    let b = length-literals (take i e.trail) in
    let c = taken e.trail i in
    let d = trail-le e k in
    let f = k.vars_limit in
    omega (arith, is, a, b, c, d, f)

open_false : (e : EngineView) (i m : ℕ) (ms : List Mark) → (pending ms m ≡ true) ⊎ (has (literals (take i e.trail)) (neg m) ≡ true) → pending ms m ≡ false → has (literals (take i e.trail)) (neg m) ≡ true
open_false e i m ms (inl y) p = absurd (both_ways _ p y)
open_false e i m ms (inr y) p = y

module _ (e : EngineView) (i m level count : ℕ) (ms ns : List Mark) (k : IsEngine e) (is : level ≡ level_after e.trail) (room : m / 2 < length ms)
    (op : (pending ms m ≡ true) ⊎ (has (literals (take i e.trail)) (neg m) ≡ true)) (p : pending ms m ≡ false) (c : count ≡ count_top e ms (literals (take i e.trail))) (n : ns ≡ set ms (m / 2) mark.Kept) where
  pub counted_then : 0 < level → level_behind 0 e.trail m ≡ Some level → count + 1 ≡ count_top e ns (literals (take i e.trail))
  counted_then pos at =
      let h = open_false e i m ms op p in
      let t = top_at e m level k (omega (arith, pos, is)) is (has_taken e i (neg m) h) at in
      ap (λ z. z + 1) c ∙ sym (count_marked e i m ms k room p h t) ∙ ap (λ z. count_top e z (literals (take i e.trail))) (sym n)

  pub counted_else : level_behind 0 e.trail m ≢ Some level → count ≡ count_top e ns (literals (take i e.trail))
  counted_else ne =
      let h = open_false e i m ms op p in
      let r = placed e m k (has_taken e i (neg m) h) in
      let t = low_at e m (level_after (r.before ++ r.step ∷ [])) k (λ z. ne (r.level ∙ ap Some (z ∙ sym is))) (has_taken e i (neg m) h) r.level in
      c ∙ sym (count_unmarked e i m ms k h t) ∙ ap (λ z. count_top e z (literals (take i e.trail))) (sym n)

-- ---- Loops over a clause

pub item_in : (ls : List ℕ) (i x : ℕ) → i < length ls → x ≡ get_or ls i x → Contains ls x
item_in [] i x lt is = absurd (omega arith)
item_in (y ∷ ls) zero x lt is = subst (λ z. Contains (y ∷ ls) z) (sym is) (here y ls)
item_in (y ∷ ls) (suc i) x lt is = there y x ls (item_in ls i x (omega arith) is)

pub taken_all : (ls : List ℕ) (i x : ℕ) → length ls ≤ i → Contains ls x → Contains (take i ls) x
taken_all [] i x h m = absurd (not_in_nil x m)
taken_all (y ∷ ls) zero x h m = absurd (omega (arith, h))
taken_all (y ∷ ls) (suc i) x h m = elim (here_or_there y x ls m) [
  | inl q ↦ subst (λ z. Contains (y ∷ take i ls) z) q (here y (take i ls))
  | inr n ↦ there y x (take i ls) (taken_all ls i x (omega (arith, h)) n)
]

pub taken_more : (ls : List ℕ) (i x y : ℕ) → i < length ls → x ≡ get_or ls i x → Contains (take (i + 1) ls) y → Contains (take i ls) y ⊎ (y ≡ x)
taken_more ls i x y lt is m = append_either (take i ls) x y (subst (λ z. Contains z y) (take_more ls i x lt ∙ ap (λ z. take i ls ++ z ∷ []) (sym is)) m)

pub taken_front : (ls : List ℕ) (i x y : ℕ) → i < length ls → x ≡ get_or ls i x → Contains (take i ls) y → Contains (take (i + 1) ls) y
taken_front ls i x y lt is m = subst (λ z. Contains z y) (sym (take_more ls i x lt ∙ ap (λ z. take i ls ++ z ∷ []) (sym is))) (append_front (take i ls) x y m)
  where
    append_front : (xs : List ℕ) (x y : ℕ) → Contains xs y → Contains (xs ++ x ∷ []) y
    append_front [] x y m = absurd (not_in_nil y m)
    append_front (z ∷ xs) x y m = elim (here_or_there z y xs m) [
      | inl q ↦ subst (λ w. Contains (z ∷ (xs ++ x ∷ [])) w) q (here z (xs ++ x ∷ []))
      | inr n ↦ there z y (xs ++ x ∷ []) (append_front xs x y n)
    ]

pub taken_item : (ls : List ℕ) (i x : ℕ) → i < length ls → x ≡ get_or ls i x → Contains (take (i + 1) ls) x
taken_item ls i x lt is = subst (λ z. Contains z x) (sym (take_more ls i x lt ∙ ap (λ z. take i ls ++ z ∷ []) (sym is))) (append_back (take i ls) x)
  where
    append_back : (xs : List ℕ) (x : ℕ) → Contains (xs ++ x ∷ []) x
    append_back [] x = here x []
    append_back (z ∷ xs) x = there z x (xs ++ x ∷ []) (append_back xs x)

pub taken_in : (ls : List ℕ) (i x : ℕ) → Contains (take i ls) x → Contains ls x
taken_in [] zero x m = m
taken_in [] (suc i) x m = m
taken_in (y ∷ ls) zero x m = absurd (not_in_nil x m)
taken_in (y ∷ ls) (suc i) x m = elim (here_or_there y x (take i ls) m) [
  | inl q ↦ subst (λ z. Contains (y ∷ ls) z) q (here y ls)
  | inr n ↦ there y x ls (taken_in ls i x n)
]

pub clause_has : (ls c : List ℕ) (x : ℕ) → ((l : ℕ) → has ls l ≡ has c l) → Contains ls x → Contains c x
clause_has ls c x same m = has_at c x (sym (same x) ∙ has_from ls x m)

pub clause_had : (ls c : List ℕ) (x : ℕ) → ((l : ℕ) → has ls l ≡ has c l) → Contains c x → Contains ls x
clause_had ls c x same m = has_at ls x (same x ∙ has_from c x m)

pub item_within : (e : EngineView) (s m n : ℕ) (ls : List ℕ) → IsEngine e → (a : IsActive e s) → ((l : ℕ) → has ls l ≡ has a.1 l) → Contains ls m → e.vars ≤ n → m / 2 < n
item_within e s m n ls k a same h le = let r = clause_reserved e s m ls k a same h in omega (arith, r, le)

pub negated_within : (e : EngineView) (s m o n : ℕ) (ls : List ℕ) → IsEngine e → (a : IsActive e s) → ((l : ℕ) → has ls l ≡ has a.1 l) → Contains ls m → e.vars ≤ n → o ≡ neg m → o / 2 < n
negated_within e s m o n ls k a same h le is = let r = clause_reserved e s m ls k a same h in omega (arith, r, le, is)
