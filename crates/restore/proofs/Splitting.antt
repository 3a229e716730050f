-- The table of places while entries are taken out, and the entries by the choice.
use Rattle.std.proofs.Common.{◌≡◌, ◌≢◌, ℕ, zero, suc, ◌+◌, ◌-◌, ◌<◌, ◌≤◌, ◌⊎◌, Bool, true, false, not, List, [], ◌∷◌, ◌++◌, length, map, filter, take, drop, get_or, refl, sym, ◌∙◌, ap, subst, inl, inr, arith, length-append}
use Rattle.std.specs.Prelude.{slice_index, slice_set}
use Rattle.std.proofs.Math.ListN.{set, length-set, get_or-append}
use Rattle.std.proofs.Math.Seq.{get_or-set_same, get_or-set_other, get_or-append_seam, take-set-le, take-suc-set}
use Rattle.std.proofs.lemmas.Bool.{cases_Bool, both_ways}
use Rattle.std.proofs.lemmas.List.{take_all, length-take-le}
use Rattle.restore.specs.declared.lists.Elim.{Elim}
use Rattle.restore.specs.Indexed.{variables_of, IsIndexed}
use Rattle.restore.specs.Split.{with_choice, chosen_count, IsSplit}
use Rattle.restore.specs.Choice.{is_chosen}
use Rattle.restore.proofs.Indexing.{same_or_not, length-variables, variables-push}
use Rattle.restore.proofs.Choosing.{variable_at}

within : (ps : List ℕ) (v : ℕ) → 0 < slice_index ps v → v < length ps
within [] v h = absurd (omega arith)
within (p ∷ ps) zero h = omega arith
within (p ∷ ps) (suc v) h = let r = within ps v h in omega arith

pub split-begin : (vs ps : List ℕ) → IsIndexed vs ps → IsSplit [] vs ps 0 0
split-begin vs ps x = record {
  low = omega arith;
  there = λ i lt. absurd (omega arith);
  later = λ j le lt. x.there j lt;
  back = λ v h. inr (h, x.within v h, x.back v h);
}

pub split-end : (front vs ps : List ℕ) (w k : ℕ) → length front ≡ w → k ≡ length vs → IsSplit front vs ps w k → IsIndexed front ps
split-end front vs ps w k long e s = record {
  there = λ i lt. s.there i (omega arith);
  within = λ v h. elim (s.back v h) [ inl r ↦ rw long r.0 | inr r ↦ absurd (omega (arith, r.0, r.1)) ];
  back = λ v h. elim (s.back v h) [ inl r ↦ r.1 | inr r ↦ absurd (omega (arith, r.0, r.1)) ];
}

-- the next entry is taken out
pub split-take : (front vs ps : List ℕ) (w k x : ℕ) → k < length vs → x ≡ slice_index vs k → IsSplit front vs ps w k → IsSplit front vs (slice_set ps x 0) w (k + 1)
split-take front vs ps w k x lt ex s =
    let le = s.low in
    let here : slice_index ps x ≡ k + 1 = subst (λ v. slice_index ps v ≡ k + 1) (sym ex) (s.later k (omega arith) lt) in
    let gone : slice_index (slice_set ps x 0) x ≡ 0 = get_or-set_same ps x 0 0 (within ps x (omega arith)) in
    let other : (v : ℕ) → v ≢ x → slice_index (slice_set ps x 0) v ≡ slice_index ps v = λ v n. get_or-set_other ps x v 0 0 n in
    record {
      low = omega arith;
      there = λ i li. let at = s.there i li in other (slice_index front i) (λ q. omega (arith, rw q at at)) ∙ at;
      later = λ j lj l. let at = s.later j (omega arith) l in other (slice_index vs j) (λ q. omega (arith, rw q at at)) ∙ at;
      back = λ v h. elim (same_or_not v x) [
        | inl q ↦ absurd (let z : slice_index (slice_set ps x 0) v ≡ 0 = rw q gone in omega arith)
        | inr n ↦
            let o = other v n in
            let h2 : 0 < slice_index ps v = omega arith in
            rw o (elim (s.back v h2) [
              | inl r ↦ inl r
              | inr r ↦
                  let apart : slice_index ps v ≢ k + 1 = λ q. n (sym r.2 ∙ ap (slice_index vs) (let z : slice_index ps v - 1 ≡ k = omega arith in z) ∙ sym ex) in
                  let more = r.0 in inr (omega arith, r.1, r.2)
            ])
      ];
    }

-- the next entry stays
pub split-leave : (front vs ps : List ℕ) (w k x n : ℕ) → length front ≡ w → k < length vs → x ≡ slice_index vs k → n ≡ w + 1 → IsSplit front vs ps w k
    → IsSplit (front ++ x ∷ []) vs (slice_set ps x n) n (k + 1)
split-leave front vs ps w k x n long lt ex en s =
    let le = s.low in
    let here : slice_index ps x ≡ k + 1 = subst (λ v. slice_index ps v ≡ k + 1) (sym ex) (s.later k (omega arith) lt) in
    let now : slice_index (slice_set ps x n) x ≡ n = get_or-set_same ps x n 0 (within ps x (omega arith)) in
    let other : (v : ℕ) → v ≢ x → slice_index (slice_set ps x n) v ≡ slice_index ps v = λ v d. get_or-set_other ps x v n 0 d in
    let last : slice_index (front ++ x ∷ []) w ≡ x = subst (λ i. slice_index (front ++ x ∷ []) i ≡ x) long (get_or-append_seam front x [] 0) in
    let old : (i : ℕ) → i < w → slice_index (front ++ x ∷ []) i ≡ slice_index front i = λ i li. get_or-append front (x ∷ []) 0 i (omega arith) in
    record {
      low = omega arith;
      there = λ i li. elim (same_or_not i w) [
        | inl q ↦ rw (q, last) (now ∙ en)
        | inr d ↦
            let at = s.there i (omega arith) in
            rw (old i (omega arith)) (other (slice_index front i) (λ q. omega (arith, rw q at at)) ∙ at)
      ];
      later = λ j lj l. let at = s.later j (omega arith) l in other (slice_index vs j) (λ q. omega (arith, rw q at at)) ∙ at;
      back = λ v h. elim (same_or_not v x) [
        | inl q ↦ inl (rw (q, now) (omega arith), rw (q, now) (subst (λ i. slice_index (front ++ x ∷ []) i ≡ x) (let z : w ≡ n - 1 = omega arith in z) last))
        | inr d ↦
            let o = other v d in
            let h2 : 0 < slice_index ps v = omega arith in
            rw o (elim (s.back v h2) [
              | inl r ↦ let low2 = r.0 in inl (omega arith, old (slice_index ps v - 1) (omega arith) ∙ r.1)
              | inr r ↦
                  let apart : slice_index ps v ≢ k + 1 = λ q. d (sym r.2 ∙ ap (slice_index vs) (let z : slice_index ps v - 1 ≡ k = omega arith in z) ∙ sym ex) in
                  let more = r.0 in inr (omega arith, r.1, r.2)
            ])
      ];
    }

-- ---- The entries by the choice

-- the next entry is chosen so, or otherwise
pub more_same : (b : Bool) (ms : List Bool) (es : List Elim) (k : ℕ) (e : Elim) → k < length ms → k < length es → e ≡ get_or es k e → is_chosen ms k ≡ b
    → with_choice b (take (suc k) ms) (take (suc k) es) ≡ with_choice b (take k ms) (take k es) ++ e ∷ []
more_same b [] es k e lm le at h = absurd (omega arith)
more_same b (m ∷ ms) [] k e lm le at h = absurd (omega arith)
more_same true (true ∷ ms) (d ∷ es) zero e lm le at h = ap (λ (x : Elim). x ∷ []) (sym at)
more_same true (false ∷ ms) (d ∷ es) zero e lm le at h = absurd (both_ways false refl h)
more_same false (true ∷ ms) (d ∷ es) zero e lm le at h = absurd (both_ways true h refl)
more_same false (false ∷ ms) (d ∷ es) zero e lm le at h = ap (λ (x : Elim). x ∷ []) (sym at)
more_same true (true ∷ ms) (d ∷ es) (suc k) e lm le at h = ap (λ (xs : List Elim). d ∷ xs) (more_same true ms es k e (omega arith) (omega arith) at h)
more_same true (false ∷ ms) (d ∷ es) (suc k) e lm le at h = more_same true ms es k e (omega arith) (omega arith) at h
more_same false (true ∷ ms) (d ∷ es) (suc k) e lm le at h = more_same false ms es k e (omega arith) (omega arith) at h
more_same false (false ∷ ms) (d ∷ es) (suc k) e lm le at h = ap (λ (xs : List Elim). d ∷ xs) (more_same false ms es k e (omega arith) (omega arith) at h)

pub more_other : (b : Bool) (ms : List Bool) (es : List Elim) (k : ℕ) → k < length ms → k < length es → is_chosen ms k ≡ not b
    → with_choice b (take (suc k) ms) (take (suc k) es) ≡ with_choice b (take k ms) (take k es)
more_other b [] es k lm le h = absurd (omega arith)
more_other b (m ∷ ms) [] k lm le h = absurd (omega arith)
more_other true (true ∷ ms) (d ∷ es) zero lm le h = absurd (both_ways true h refl)
more_other true (false ∷ ms) (d ∷ es) zero lm le h = refl
more_other false (true ∷ ms) (d ∷ es) zero lm le h = refl
more_other false (false ∷ ms) (d ∷ es) zero lm le h = absurd (both_ways false refl h)
more_other true (true ∷ ms) (d ∷ es) (suc k) lm le h = ap (λ (xs : List Elim). d ∷ xs) (more_other true ms es k (omega arith) (omega arith) h)
more_other true (false ∷ ms) (d ∷ es) (suc k) lm le h = more_other true ms es k (omega arith) (omega arith) h
more_other false (true ∷ ms) (d ∷ es) (suc k) lm le h = more_other false ms es k (omega arith) (omega arith) h
more_other false (false ∷ ms) (d ∷ es) (suc k) lm le h = ap (λ (xs : List Elim). d ∷ xs) (more_other false ms es k (omega arith) (omega arith) h)

-- the choice by a test gives the entries that pass it, and the others
pub with_choice-test : (p : ℕ → Bool) (es : List Elim) → with_choice true (map (λ (e : Elim). p e.var) es) es ≡ filter (λ (e : Elim). p e.var) es
with_choice-test p [] = refl
with_choice-test p (e ∷ es) = elim (cases_Bool (p e.var)) [
  | inl h ↦ rw h (ap (λ (xs : List Elim). e ∷ xs) (with_choice-test p es))
  | inr h ↦ rw h (with_choice-test p es)
]

pub without_choice-test : (p : ℕ → Bool) (es : List Elim) → with_choice false (map (λ (e : Elim). p e.var) es) es ≡ filter (λ (e : Elim). not (p e.var)) es
without_choice-test p [] = refl
without_choice-test p (e ∷ es) = elim (cases_Bool (p e.var)) [
  | inl h ↦ rw h (without_choice-test p es)
  | inr h ↦ rw h (ap (λ (xs : List Elim). e ∷ xs) (without_choice-test p es))
]

pub count-more : (ms : List Bool) (k : ℕ) → k < length ms → is_chosen ms k ≡ true → chosen_count (take (suc k) ms) ≡ suc (chosen_count (take k ms))
count-more [] k lt h = absurd (omega arith)
count-more (true ∷ ms) zero lt h = refl
count-more (false ∷ ms) zero lt h = absurd (both_ways false refl h)
count-more (true ∷ ms) (suc k) lt h = ap suc (count-more ms k (omega arith) h)
count-more (false ∷ ms) (suc k) lt h = count-more ms k (omega arith) h

pub count-same : (ms : List Bool) (k : ℕ) → k < length ms → is_chosen ms k ≡ false → chosen_count (take (suc k) ms) ≡ chosen_count (take k ms)
count-same [] k lt h = absurd (omega arith)
count-same (true ∷ ms) zero lt h = absurd (both_ways true h refl)
count-same (false ∷ ms) zero lt h = refl
count-same (true ∷ ms) (suc k) lt h = ap suc (count-same ms k (omega arith) h)
count-same (false ∷ ms) (suc k) lt h = count-same ms k (omega arith) h

pub count-below : (ms : List Bool) (k : ℕ) → is_chosen ms k ≡ true → chosen_count (take k ms) < chosen_count ms
count-below [] k h = absurd (both_ways false refl h)
count-below (true ∷ ms) zero h = omega arith
count-below (false ∷ ms) zero h = absurd (both_ways false refl h)
count-below (true ∷ ms) (suc k) h = let r = count-below ms k h in omega arith
count-below (false ∷ ms) (suc k) h = let r = count-below ms k h in omega arith

-- ---- The loop that splits

-- before the entry at a place: the front has the entries that stay, and from the place on all is as it was
pub record Splitting (es : List Elim) (ms : List Bool) (xs gone : List Elim) (places : List ℕ) (left next : ℕ) : Type 0 where
  pub size : length xs ≡ length es
  pub high : next ≤ length es
  pub front : take left xs ≡ with_choice false (take next ms) (take next es)
  pub rest : (j : ℕ) (d : Elim) → next ≤ j → get_or xs j d ≡ get_or es j d
  pub out : gone ≡ with_choice true (take next ms) (take next es)
  pub count : length gone ≡ chosen_count (take next ms)
  pub index : IsSplit (variables_of (take left xs)) (variables_of es) places left next

pub splitting-begin : (es : List Elim) (ms : List Bool) (gone : List Elim) (ps : List ℕ) → gone ≡ [] → IsIndexed (variables_of es) ps → Splitting es ms es gone ps 0 0
splitting-begin es ms gone ps e x = record {
  size = refl;
  high = omega arith;
  front = refl;
  rest = λ j d le. refl;
  out = e;
  count = ap length e;
  index = split-begin (variables_of es) ps x;
}

-- the next entry is moved out of its place
pub splitting-take : (es : List Elim) (ms : List Bool) (xs ys gone out : List Elim) (ps qs : List ℕ) (w k n : ℕ) (e h : Elim) → length ms ≡ length es → k < length ms → n ≡ k + 1
    → e ≡ get_or xs k e → is_chosen ms k ≡ true → ys ≡ set xs k h → out ≡ gone ++ e ∷ [] → qs ≡ slice_set ps e.var 0
    → Splitting es ms xs gone ps w k → Splitting es ms ys out qs w n
splitting-take es ms xs ys gone out ps qs w k n e h size lt en at choose ey eo eq s =
    let le = s.index.low in
    let same = s.size in
    let old : e ≡ get_or es k e = at ∙ s.rest k e (omega arith) in
    let sn : n ≡ suc k = omega arith in
    let stay : take w ys ≡ take w xs = ap (take w) ey ∙ take-set-le w xs k h le in
    rw sn (record {
      size = ap length ey ∙ length-set xs k h ∙ s.size;
      high = omega arith;
      front = stay ∙ s.front ∙ sym (more_other false ms es k lt (omega arith) choose);
      rest = λ j d lj. ap (λ (zs : List Elim). get_or zs j d) ey ∙ get_or-set_other xs k j h d (λ q. omega arith) ∙ s.rest j d (omega arith);
      out = eo ∙ ap (λ (zs : List Elim). zs ++ e ∷ []) s.out ∙ sym (more_same true ms es k e lt (omega arith) old choose);
      count = ap length eo ∙ length-append gone (e ∷ []) ∙ (let c = s.count in let m = count-more ms k lt choose in omega arith);
      index = rw (eq, stay) (subst (λ i. IsSplit (variables_of (take w xs)) (variables_of es) (slice_set ps e.var 0) w i) (omega arith)
          (split-take (variables_of (take w xs)) (variables_of es) ps w k e.var (rw (length-variables es) (omega arith)) (sym (variable_at es k e (omega arith) old)) s.index));
    })

-- the next entry is moved to the end of the front
pub splitting-leave : (es : List Elim) (ms : List Bool) (xs ys zs gone : List Elim) (ps qs : List ℕ) (w k n v : ℕ) (e h : Elim) → length ms ≡ length es → k < length ms → n ≡ k + 1 → v ≡ w + 1
    → e ≡ get_or xs k e → is_chosen ms k ≡ false → ys ≡ set xs k h → zs ≡ set ys w e → qs ≡ slice_set ps e.var v
    → Splitting es ms xs gone ps w k → Splitting es ms zs gone qs v n
splitting-leave es ms xs ys zs gone ps qs w k n v e h size lt en ev at choose ey ez eq s =
    let le = s.index.low in
    let same = s.size in
    let old : e ≡ get_or es k e = at ∙ s.rest k e (omega arith) in
    let sn : n ≡ suc k = omega arith in
    let sv : v ≡ suc w = omega arith in
    let long_y : length ys ≡ length xs = ap length ey ∙ length-set xs k h in
    let stay : take w ys ≡ take w xs = ap (take w) ey ∙ take-set-le w xs k h le in
    let longer : take (suc w) zs ≡ take w xs ++ e ∷ [] = ap (take (suc w)) ez ∙ take-suc-set ys w e (omega arith) ∙ ap (λ (fs : List Elim). fs ++ e ∷ []) stay in
    let front_long : length (variables_of (take w xs)) ≡ w = length-variables (take w xs) ∙ length-take-le w xs (omega arith) in
    let vars : variables_of (take (suc w) zs) ≡ variables_of (take w xs) ++ e.var ∷ [] = ap variables_of longer ∙ variables-push (take w xs) e in
    rw (sn, sv) (record {
      size = ap length ez ∙ length-set ys w e ∙ long_y ∙ s.size;
      high = omega arith;
      front = longer ∙ ap (λ (fs : List Elim). fs ++ e ∷ []) s.front ∙ sym (more_same false ms es k e lt (omega arith) old choose);
      rest = λ j d lj. ap (λ (fs : List Elim). get_or fs j d) ez ∙ get_or-set_other ys w j e d (λ q. omega arith)
          ∙ ap (λ (fs : List Elim). get_or fs j d) ey ∙ get_or-set_other xs k j h d (λ q. omega arith) ∙ s.rest j d (omega arith);
      out = s.out ∙ sym (more_other true ms es k lt (omega arith) choose);
      count = s.count ∙ sym (count-same ms k lt choose);
      index = rw (eq, vars) (subst (λ i. IsSplit (variables_of (take w xs) ++ e.var ∷ []) (variables_of es) (slice_set ps e.var v) (suc w) i) (omega arith)
          (subst (λ i. IsSplit (variables_of (take w xs) ++ e.var ∷ []) (variables_of es) (slice_set ps e.var v) i (k + 1)) sv
          (split-leave (variables_of (take w xs)) (variables_of es) ps w k e.var v front_long (rw (length-variables es) (omega arith)) (sym (variable_at es k e (omega arith) old)) ev s.index)));
    })

-- all entries were looked at
pub splitting-end : (es : List Elim) (ms : List Bool) (xs gone left : List Elim) (ps : List ℕ) (w k : ℕ) → length ms ≡ length es → k ≡ length ms → left ≡ take w xs → Splitting es ms xs gone ps w k
    → (left ≡ with_choice false ms es) × (gone ≡ with_choice true ms es) × IsIndexed (variables_of left) ps
splitting-end es ms xs gone left ps w k size ek el s =
    let choice : take k ms ≡ ms = take_all k ms (omega arith) in
    let all : take k es ≡ es = take_all k es (omega arith) in
    let le = s.index.low in
    let high = s.high in
    let same = s.size in
    let long : length (variables_of (take w xs)) ≡ w = length-variables (take w xs) ∙ length-take-le w xs (omega arith) in (
      el ∙ s.front ∙ (λ i. with_choice false (choice i) (all i)),
      s.out ∙ (λ i. with_choice true (choice i) (all i)),
      rw el (split-end (variables_of (take w xs)) (variables_of es) ps w k long (ek ∙ size ∙ sym (length-variables es)) s.index),
    )

-- the row of the entry at the place is in the table
pub splitting-row : (es : List Elim) (ms : List Bool) (xs gone : List Elim) (ps : List ℕ) (w k : ℕ) (e : Elim) → k < length es → e ≡ get_or xs k e → Splitting es ms xs gone ps w k → e.var < length ps
splitting-row es ms xs gone ps w k e lt at s =
    let old : e ≡ get_or es k e = at ∙ s.rest k e (omega arith) in
    let is : slice_index (variables_of es) k ≡ e.var = variable_at es k e lt old in
    let here = s.index.later k (omega arith) (rw (length-variables es) lt) in
    let here2 : slice_index ps e.var ≡ k + 1 = subst (λ v. slice_index ps v ≡ k + 1) is here in
    within ps e.var (omega arith)

-- a chosen entry has room
pub splitting-room : (es : List Elim) (ms : List Bool) (xs gone : List Elim) (ps : List ℕ) (w k n room : ℕ) → is_chosen ms k ≡ true → n ≡ length gone → chosen_count ms ≤ room → Splitting es ms xs gone ps w k → n < room
splitting-room es ms xs gone ps w k n room choose en le s = let c = s.count in let b = count-below ms k choose in omega arith

-- what was read of a list of entries
pub read_entry : (xs : List Elim) (k : ℕ) (e d : Elim) → e ≡ d → d ≡ get_or xs k d → e ≡ get_or xs k e
read_entry xs k e d q at = subst (λ (z : Elim). z ≡ get_or xs k z) (sym q) at

pub counted_more : (ms : List Bool) (k n v : ℕ) → k < length ms → is_chosen ms k ≡ true → n ≡ chosen_count (take k ms) → v ≡ n + 1 → v ≡ chosen_count (take (k + 1) ms)
counted_more ms k n v lt choose e ev = let m = count-more ms k lt choose in let q : k + 1 ≡ suc k = omega arith in rw q (omega arith)

pub counted_same : (ms : List Bool) (k n : ℕ) → k < length ms → is_chosen ms k ≡ false → n ≡ chosen_count (take k ms) → n ≡ chosen_count (take (k + 1) ms)
counted_same ms k n lt choose e = let m = count-same ms k lt choose in let q : k + 1 ≡ suc k = omega arith in rw q (omega arith)

pub count_le : (ms : List Bool) (k : ℕ) → chosen_count (take k ms) ≤ k
count_le ms zero = omega arith
count_le [] (suc k) = omega arith
count_le (true ∷ ms) (suc k) = let r = count_le ms k in omega arith
count_le (false ∷ ms) (suc k) = let r = count_le ms k in omega arith
