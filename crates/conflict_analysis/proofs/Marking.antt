-- Marks by variable, and how they change.
use Rattle.std.proofs.Common.{◌≡◌, ◌≢◌, ℕ, ◌+◌, ◌/◌, ◌<◌, ◌≤◌, Bool, true, false, List, [], ◌∷◌, ◌++◌, length, get_or, set, take, drop, replicate, filter, Contains, refl, sym, ◌∙◌, ap, subst, inl, inr, arith, zero, suc}
use Rattle.std.proofs.lemmas.List.{drop_more, get_or-set_same, get_or-set_other, length-set}
use Rattle.search_laws.proofs.Asserting.{append_left, append_last}
use Rattle.std.proofs.lemmas.Bool.{cases_Bool, both_ways, cases_eq}
use Rattle.session_rules.specs.Logic.{has}
use Rattle.lits.proofs.Members.{here, there, not_in_nil, here_or_there, has_at, has_from}
use Rattle.propagation.specs.Engine.{IsOnce}
use Rattle.conflict_analysis.specs.declared.marks.Mark.{Mark}
use Rattle.conflict_analysis.specs.declared.marks.Mark.TheVariants as mark
use Rattle.conflict_analysis.specs.Marked.{mark_at, is_pending, pending, one_if, how_many_pending, AreNoted, AreMarks}

-- ---- Taking all marks off

pub noted_next : (ms ns : List Mark) (ls : List ℕ) (k l : ℕ) → k < length ls → l ≡ get_or ls k l → ((j : ℕ) → j ≢ l / 2 → get_or ns j mark.Clear ≡ get_or ms j mark.Clear)
    → get_or ns (l / 2) mark.Clear ≡ mark.Clear → AreNoted ms (drop k ls) → AreNoted ns (drop (k + 1) ls)
noted_next ms ns ls k l lt is others same h j n = elim (cases_eq j (l / 2)) [
  | inl q ↦ absurd (n (ap (λ z. get_or ns z mark.Clear) q ∙ same))
  | inr q ↦
      let r = h j (λ e. n (others j q ∙ e)) in
      let d : drop k ls ≡ l ∷ drop (k + 1) ls = drop_more ls k l lt ∙ ap (λ z. z ∷ drop (k + 1) ls) (sym is) in
      elim (here_or_there l r.0 (drop (k + 1) ls) (subst (λ z. Contains z r.0) d r.1)) [
        | inl y ↦ absurd (q (sym r.2 ∙ ap (λ z. z / 2) (sym y)))
        | inr y ↦ (r.0, y, r.2)
      ]
]

pub noted_code : (ms ns : List Mark) (ls : List ℕ) (k l code : ℕ) → k < length ls → l ≡ get_or ls k l → code ≡ l → ((j : ℕ) → j ≢ code / 2 → get_or ns j mark.Clear ≡ get_or ms j mark.Clear)
    → get_or ns (code / 2) mark.Clear ≡ mark.Clear → AreNoted ms (drop k ls) → AreNoted ns (drop (k + 1) ls)
noted_code ms ns ls k l code lt is e others same h = noted_next ms ns ls k l lt is
    (λ j n. others j (λ q. n (q ∙ ap (λ z. z / 2) e))) (ap (λ z. get_or ns z mark.Clear) (ap (λ z. z / 2) (sym e)) ∙ same) h

empty : (ls : List ℕ) (k x : ℕ) → length ls ≤ k → Contains (drop k ls) x → ⊥
empty [] zero x d m = not_in_nil x m
empty [] (suc k) x d m = not_in_nil x m
empty (y ∷ ls) zero x d m = omega (arith, d)
empty (y ∷ ls) (suc k) x d m = empty ls k x (omega (arith, d)) m

pub noted_none : (ms : List Mark) (ls : List ℕ) (k : ℕ) → length ls ≤ k → AreNoted ms (drop k ls) → (j : ℕ) → get_or ms j mark.Clear ≡ mark.Clear
noted_none ms ls k done h j = by_mark (get_or ms j mark.Clear) refl
  where
    none_marked : (get_or ms j mark.Clear ≢ mark.Clear) → ⊥
    none_marked n = let r = h j n in empty ls k r.0 done r.1

    by_mark : (m : Mark) → get_or ms j mark.Clear ≡ m → get_or ms j mark.Clear ≡ mark.Clear
    by_mark (mark.Clear) e = e
    by_mark (mark.Kept) e = absurd (none_marked (λ q. let f : mark.Kept ≡ mark.Clear = sym e ∙ q in cc f))
    by_mark (mark.Needed) e = absurd (none_marked (λ q. let f : mark.Needed ≡ mark.Clear = sym e ∙ q in cc f))
    by_mark (mark.Redundant) e = absurd (none_marked (λ q. let f : mark.Redundant ≡ mark.Clear = sym e ∙ q in cc f))
    by_mark (mark.Failed) e = absurd (none_marked (λ q. let f : mark.Failed ≡ mark.Clear = sym e ∙ q in cc f))

-- ---- One mark

pub pending-set : (ms : List Mark) (m l : ℕ) (x : Mark) → m / 2 < length ms → l / 2 ≡ m / 2 → pending (set ms (m / 2) x) l ≡ is_pending x
pending-set ms m l x h e = ap is_pending (ap (λ z. get_or (set ms (m / 2) x) z mark.Clear) e ∙ get_or-set_same ms (m / 2) x mark.Clear h)

pub pending-other : (ms : List Mark) (m l : ℕ) (x : Mark) → l / 2 ≢ m / 2 → pending (set ms (m / 2) x) l ≡ pending ms l
pending-other ms m l x n = ap is_pending (get_or-set_other ms (m / 2) (l / 2) x mark.Clear n)

-- a mark that is pending
pub more-set : (ms : List Mark) (m : ℕ) (x : Mark) → m / 2 < length ms → is_pending x ≡ true → (l : ℕ) → pending ms l ≡ true → pending (set ms (m / 2) x) l ≡ true
more-set ms m x h p l k = elim (cases_eq (l / 2) (m / 2)) [
  | inl q ↦ pending-set ms m l x h q ∙ p
  | inr q ↦ pending-other ms m l x q ∙ k
]

-- a mark that isn't, in the place of one that isn't
pub same-set : (ms : List Mark) (m : ℕ) (x : Mark) → m / 2 < length ms → is_pending x ≡ false → pending ms m ≡ false → (l : ℕ) → pending (set ms (m / 2) x) l ≡ pending ms l
same-set ms m x h p k l = elim (cases_eq (l / 2) (m / 2)) [
  | inl q ↦ pending-set ms m l x h q ∙ p ∙ sym k ∙ ap (λ z. is_pending (get_or ms z mark.Clear)) (sym q)
  | inr q ↦ pending-other ms m l x q
]

-- ---- Counts

pub count-same : (f g : ℕ → Bool) (ls : List ℕ) → ((l : ℕ) → Contains ls l → f l ≡ g l) → length (filter f ls) ≡ length (filter g ls)
count-same f g [] h = refl
count-same f g (x ∷ ls) h = let r = count-same f g ls (λ l m. h l (there x l ls m)) in elim (cases_Bool (g x)) [
  | inl y ↦ let fx = h x (here x ls) ∙ y in rw (fx, y) (ap suc r)
  | inr y ↦ let fx = h x (here x ls) ∙ y in rw (fx, y) r
]

-- one more
pub count-more : (f g : ℕ → Bool) (ls : List ℕ) (q : ℕ) → IsOnce ls → has ls q ≡ true → f q ≡ false → g q ≡ true → ((l : ℕ) → Contains ls l → l ≢ q → f l ≡ g l) → length (filter g ls) ≡ length (filter f ls) + 1
count-more f g [] q o h fq gq e = cc h
count-more f g (x ∷ ls) q o h fq gq e = elim (cases_eq q x) [
  | inl y ↦
      let fx : f x ≡ false = subst (λ z. f z ≡ false) y fq in let gx : g x ≡ true = subst (λ z. g z ≡ true) y gq in
      let r = count-same f g ls (λ l m. e l (there x l ls m) (λ z. both_ways _ o.0 (has_from ls x (subst (λ w. Contains ls w) (z ∙ y) m)))) in
      rw (fx, gx) (omega (arith, r))
  | inr y ↦
      let m : has ls q ≡ true = has_from ls q (elim (here_or_there x q ls (has_at (x ∷ ls) q h)) [ inl z ↦ absurd (y (sym z)) | inr z ↦ z ]) in
      let r = count-more f g ls q o.1 m fq gq (λ l n. e l (there x l ls n)) in
      let ex : f x ≡ g x = e x (here x ls) (λ z. y (sym z)) in
      elim (cases_Bool (g x)) [
        | inl z ↦ let fx = ex ∙ z in rw (fx, z) (omega (arith, r))
        | inr z ↦ let fx = ex ∙ z in rw (fx, z) r
      ]
]

-- a mark that isn't pending, in the place of one that wasn't
pub left_alone : (old ms ns rs : List Mark) (o : ℕ) (x : Mark) → o / 2 < length ns → is_pending x ≡ false → is_pending (mark_at ms o) ≡ false → ((l : ℕ) → pending ns l ≡ pending ms l)
    → ((l : ℕ) → pending ms l ≡ pending old l) → rs ≡ set ns (o / 2) x → (l : ℕ) → pending rs l ≡ pending old l
left_alone old ms ns rs o x h p q same before is l = ap (λ z. pending z l) is ∙ same-set ns o x h p (same o ∙ q) l ∙ same l ∙ before l

-- ---- How many are pending

pub pending_count-set : (ms : List Mark) (i : ℕ) (x : Mark) → i < length ms → how_many_pending (set ms i x) + one_if (is_pending (get_or ms i mark.Clear)) ≡ how_many_pending ms + one_if (is_pending x)
pending_count-set [] i x lt = absurd (omega arith)
pending_count-set (m ∷ ms) zero x lt = elim (cases_Bool (is_pending m)) [
  | inl a ↦ elim (cases_Bool (is_pending x)) [ inl b ↦ rw (a, b) (omega arith) | inr b ↦ rw (a, b) (omega arith) ]
  | inr a ↦ elim (cases_Bool (is_pending x)) [ inl b ↦ rw (a, b) (omega arith) | inr b ↦ rw (a, b) (omega arith) ]
]
pending_count-set (m ∷ ms) (suc i) x lt = let r = pending_count-set ms i x (omega arith) in
    elim (cases_Bool (is_pending m)) [ inl a ↦ rw a (omega (arith, r)) | inr a ↦ rw a (omega (arith, r)) ]

pub none_pending : (ms : List Mark) (i : ℕ) → how_many_pending ms ≡ 0 → is_pending (get_or ms i mark.Clear) ≡ false
none_pending [] i h = refl
none_pending (m ∷ ms) zero h = elim (cases_Bool (is_pending m)) [ inl a ↦ let f : suc (how_many_pending ms) ≡ 0 = rw a at h in absurd (omega (arith, f)) | inr a ↦ a ]
none_pending (m ∷ ms) (suc i) h = elim (cases_Bool (is_pending m)) [
  | inl a ↦ let f : suc (how_many_pending ms) ≡ 0 = rw a at h in absurd (omega (arith, f))
  | inr a ↦ let f : how_many_pending ms ≡ 0 = rw a at h in none_pending ms i f
]

pub pending_one : (ms : List Mark) (i : ℕ) → one_if (is_pending (get_or ms i mark.Clear)) ≤ how_many_pending ms
pending_one [] i = omega arith
pending_one (m ∷ ms) zero = elim (cases_Bool (is_pending m)) [ inl a ↦ rw a (omega arith) | inr a ↦ rw a (omega arith) ]
pending_one (m ∷ ms) (suc i) = let r = pending_one ms i in elim (cases_Bool (is_pending m)) [ inl a ↦ rw a (omega (arith, r)) | inr a ↦ rw a (omega (arith, r)) ]

pub pending_within : (ms : List Mark) → how_many_pending ms ≤ length ms
pending_within [] = omega arith
pending_within (m ∷ ms) = let r = pending_within ms in elim (cases_Bool (is_pending m)) [ inl a ↦ rw a (omega (arith, r)) | inr a ↦ rw a (omega (arith, r)) ]

pub clear_count : (ms : List Mark) → ((i : ℕ) → get_or ms i mark.Clear ≡ mark.Clear) → 0 ≡ how_many_pending ms
clear_count [] h = refl
clear_count (m ∷ ms) h = let f : is_pending m ≡ false = ap is_pending (h 0) in rw f (clear_count ms (λ i. h (suc i)))

-- a mark less
pub noted_less : (ms : List Mark) (ls : List ℕ) (i : ℕ) → i < length ms → AreNoted ms ls → AreNoted (set ms i mark.Clear) ls
noted_less ms ls i lt h j n = elim (cases_eq j i) [
  | inl q ↦ absurd (n (ap (λ z. get_or (set ms i mark.Clear) z mark.Clear) q ∙ get_or-set_same ms i mark.Clear mark.Clear lt))
  | inr q ↦ h j (λ z. n (get_or-set_other ms i j mark.Clear mark.Clear q ∙ z))
]

-- a mark more
noted_more : (ms : List Mark) (ls : List ℕ) (l : ℕ) (x : Mark) → AreNoted ms ls → AreNoted (set ms (l / 2) x) (ls ++ l ∷ [])
noted_more ms ls l x h j n = elim (cases_eq j (l / 2)) [
  | inl q ↦ (l, append_last ls l, sym q)
  | inr q ↦ let r = h j (λ z. n (get_or-set_other ms (l / 2) j x mark.Clear q ∙ z)) in (r.0, append_left ls l r.0 r.1, r.2)
]

same_default : (ms : List Mark) (i : ℕ) (a b : Mark) → i < length ms → get_or ms i a ≡ get_or ms i b
same_default [] i a b lt = absurd (omega arith)
same_default (m ∷ ms) zero a b lt = refl
same_default (m ∷ ms) (suc i) a b lt = same_default ms i a b (omega arith)

-- the number of pending marks where the one at a place changes
module _ (ms : List Mark) (i count : ℕ) (m x : Mark) (was is : Bool) (lt : i < length ms) (at : m ≡ get_or ms i m) (w : was ≡ is_pending m) (y : is ≡ is_pending x) (c : count ≡ how_many_pending ms) where
  was_here : one_if was ≡ one_if (is_pending (get_or ms i mark.Clear))
  was_here = ap one_if (w ∙ ap is_pending (at ∙ same_default ms i m mark.Clear lt))

  pub recount_counted : one_if was ≤ count
  recount_counted = let e = was_here in let p = pending_one ms i in omega (arith, e, p, c)

  pub recount_within : (n : ℕ) → n ≡ length ms → count + one_if is ≤ n + one_if was
  recount_within n long =
      let e = was_here in let s = pending_count-set ms i x lt in let p = pending_within (set ms i x) in let l = length-set ms i x in
      let z : one_if is ≡ one_if (is_pending x) = ap one_if y in
      omega (arith, e, s, p, l, z, c, long)

  pub recount_is : (r : ℕ) → r + one_if was ≡ count + one_if is → r ≡ how_many_pending (set ms i x)
  recount_is r h =
      let e = was_here in let s = pending_count-set ms i x lt in
      let z : one_if is ≡ one_if (is_pending x) = ap one_if y in
      omega (arith, e, s, z, c, h)

-- a mark behind the noted ones
pub marks-set : (ms : List Mark) (ls ns : List ℕ) (l code r : ℕ) (x : Mark) → code ≡ l → ns ≡ ls ++ l ∷ [] → AreNoted ms ls → r ≡ how_many_pending (set ms (code / 2) x) → AreMarks (set ms (code / 2) x) ns r
marks-set ms ls ns l code r x e is h c = record {
  noted_are = subst (λ z. AreNoted (set ms (code / 2) x) z) (sym is) (subst (λ z. AreNoted (set ms (z / 2) x) (ls ++ l ∷ [])) (sym e) (noted_more ms ls l x h));
  count_is = c;
}

-- ---- More room

whole : (ms : List Mark) (n : ℕ) → length ms ≤ n → take n ms ≡ ms
whole [] zero h = refl
whole [] (suc n) h = refl
whole (m ∷ ms) zero h = absurd (omega (arith, h))
whole (m ∷ ms) (suc n) h = ap (λ z. m ∷ z) (whole ms n (omega (arith, h)))

clear_at : (k i : ℕ) → get_or (replicate k mark.Clear) i mark.Clear ≡ mark.Clear
clear_at zero i = refl
clear_at (suc k) zero = refl
clear_at (suc k) (suc i) = clear_at k i

grown_at : (ms : List Mark) (k i : ℕ) → get_or (ms ++ replicate k mark.Clear) i mark.Clear ≡ get_or ms i mark.Clear
grown_at [] k i = clear_at k i
grown_at (m ∷ ms) k zero = refl
grown_at (m ∷ ms) k (suc i) = grown_at ms k i

clear_marks : (k : ℕ) → how_many_pending (replicate k mark.Clear) ≡ 0
clear_marks zero = refl
clear_marks (suc k) = clear_marks k

grown_count : (ms : List Mark) (k : ℕ) → how_many_pending (ms ++ replicate k mark.Clear) ≡ how_many_pending ms
grown_count [] k = clear_marks k
grown_count (m ∷ ms) k = let r = grown_count ms k in elim (cases_Bool (is_pending m)) [ inl a ↦ rw a (ap suc r) | inr a ↦ rw a r ]

module _ (ms ns : List Mark) (n k : ℕ) (le : length ms ≤ n) (is : ns ≡ take n ms ++ replicate k mark.Clear) where
  grown : ns ≡ ms ++ replicate k mark.Clear
  grown = is ∙ ap (λ z. z ++ replicate k mark.Clear) (whole ms n le)

  pub marks-grown_at : (i : ℕ) → get_or ns i mark.Clear ≡ get_or ms i mark.Clear
  marks-grown_at i = ap (λ z. get_or z i mark.Clear) grown ∙ grown_at ms k i

  pub marks-grown : (ls : List ℕ) (count : ℕ) → AreMarks ms ls count → AreMarks ns ls count
  marks-grown ls count h = record {
    noted_are = λ j q. h.noted_are j (λ z. q (marks-grown_at j ∙ z));
    count_is = h.count_is ∙ sym (grown_count ms k) ∙ ap how_many_pending (sym grown);
  }
