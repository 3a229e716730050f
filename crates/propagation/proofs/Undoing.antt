-- How the tables of an assignment follow its entries where several are taken off.
use Rattle.std.proofs.Common.{◌≡◌, ◌≢◌, ℕ, suc, zero, ◌+◌, ◌-◌, ◌*◌, ◌<◌, ◌≤◌, ◌⊎◌, List, [], ◌∷◌, ◌++◌, length, take, drop, length-drop, add-one, get_or, None, refl, sym, ap, ◌∙◌, subst, inl, inr, arith, true, false, nat_eq, ◌||◌, eqb-true, eq-eqb, ne_eqb, append_assoc, if◌then◌else◌}
use Rattle.std.proofs.Math.Bool.{or-false}
use Rattle.std.proofs.lemmas.Bool.{cases_Bool, both_ways, or_cases, or_left, or_right}
use Rattle.std.proofs.lemmas.List.{take-append-drop, take-append-le, take_all, append-nil}
use Rattle.std.proofs.lemmas.List.Folds.{list_any-append}
use Rattle.std.proofs.Math.Seq.{take-suc}
use Rattle.std.proofs.Math.ListN.{length-set}
use Rattle.std.specs.Prelude.{slice_set}
use Rattle.lits.specs.Literal.{var, neg}
use Rattle.lits.proofs.Literal.{neg-neg}
use Rattle.session_rules.specs.Logic.{has}
use Rattle.propagation.specs.declared.TrailEntry.{TrailEntry}
use Rattle.propagation.specs.declared.assignment.Origin.{Origin}
use Rattle.propagation.specs.declared.assignment.Value.{Value}
use Rattle.propagation.specs.declared.assignment.Value.TheVariants as value
use Rattle.propagation.specs.Engine.{literals, level_after, value_in, is_assumed, IsFree, up_to_level}
use Rattle.propagation.specs.Assigned.{IsAt, AreNew, AreValues, AreOrigins, IsAssigned, AreFreed, entry_without, lowered, value_of}
use Rattle.propagation.proofs.Trail.{AreNew-prefix}
use Rattle.propagation.proofs.Advancing.{literals-append}
use Rattle.propagation.proofs.Levels.{up_to_level-all}
use Rattle.propagation.proofs.Assigning.{level_after-push, lowered-raised, level-kept, value-free, value-free_neg, two_writes, reserved-true}

-- ---- A table in which literals are made free

has-append : (xs ys : List ℕ) (l : ℕ) → has (xs ++ ys) l ≡ (has xs l || has ys l)
has-append xs ys l = list_any-append (nat_eq l) xs ys

-- no literal is made free
pub freed-none : (values : List Value) → AreFreed values [] values
freed-none values = record { len = refl; entries = λ l. refl }

-- one literal more
either : (ls : List ℕ) (m l : ℕ) → has (ls ++ m ∷ []) l ≡ (has ls l || nat_eq l m)
either ls m l = has-append ls (m ∷ []) l ∙ ap (λ b. has ls l || b) (or-false (nat_eq l m))

without-first : (ls : List ℕ) (old : List Value) (m l : ℕ) → l ≡ m → entry_without (ls ++ m ∷ []) old l ≡ value.Free
without-first ls old m l e =
    let h : has (ls ++ m ∷ []) l ≡ true = either ls m l ∙ or_right (has ls l) (nat_eq l m) (eq-eqb l m e) in rw h refl

without-second : (ls : List ℕ) (old : List Value) (m l : ℕ) → l ≡ neg m → entry_without (ls ++ m ∷ []) old l ≡ value.Free
without-second ls old m l e =
    let n : neg l ≡ m = ap neg e ∙ neg-neg m in
    let h : has (ls ++ m ∷ []) (neg l) ≡ true = either ls m (neg l) ∙ or_right (has ls (neg l)) (nat_eq (neg l) m) (eq-eqb (neg l) m n) in
    let k : (has (ls ++ m ∷ []) l || has (ls ++ m ∷ []) (neg l)) ≡ true = or_right (has (ls ++ m ∷ []) l) (has (ls ++ m ∷ []) (neg l)) h in
    ap (λ b. if b then value.Free else get_or old l value.Free) k

without-other : (ls : List ℕ) (old : List Value) (m l : ℕ) → l ≢ m → l ≢ neg m → entry_without (ls ++ m ∷ []) old l ≡ entry_without ls old l
without-other ls old m l n o =
    let other : neg l ≢ m = λ e. o (sym (neg-neg l) ∙ ap neg e) in
    let h : has (ls ++ m ∷ []) l ≡ has ls l = either ls m l ∙ ap (λ b. has ls l || b) (ne_eqb l m n) ∙ or-false (has ls l) in
    let k : has (ls ++ m ∷ []) (neg l) ≡ has ls (neg l) = either ls m (neg l) ∙ ap (λ b. has ls (neg l) || b) (ne_eqb (neg l) m other) ∙ or-false (has ls (neg l)) in
    rw (h, k) refl

freed-more : (old mid : List Value) (ls more : List ℕ) (m : ℕ) → AreFreed old ls mid → more ≡ ls ++ m ∷ [] → (m < length old) × (neg m < length old)
    → AreFreed old more (slice_set (slice_set mid m value.Free) (neg m) value.Free)
freed-more old mid ls more m k at reach = record {
  len = length-set (slice_set mid m value.Free) (neg m) value.Free ∙ length-set mid m value.Free ∙ k.len;
  entries = λ l. elim (two_writes mid m (neg m) l value.Free value.Free (omega (arith, k.len, reach.0)) (omega (arith, k.len, reach.1)) (λ e. omega (arith, e))) [
    | inl r ↦ r.1 ∙ sym (without-first ls old m l r.0) ∙ ap (λ z. entry_without z old l) (sym at)
    | inr o ↦ elim o [
      | inl r ↦ r.1 ∙ sym (without-second ls old m l r.0) ∙ ap (λ z. entry_without z old l) (sym at)
      | inr r ↦ r.2 ∙ k.entries l ∙ sym (without-other ls old m l r.0 r.1) ∙ ap (λ z. entry_without z old l) (sym at)
    ]
  ];
}

-- the part of a list behind a place
behind : (lits : List ℕ) (n : ℕ) → take (length lits - n) (drop n lits) ≡ drop n lits
behind lits n = take_all (length lits - n) (drop n lits) (omega (arith, length-drop n lits))

at-has : (xs : List ℕ) (i m d : ℕ) → i < length xs → m ≡ get_or xs i d → has xs m ≡ true
at-has [] i m d lt e = absurd (omega arith)
at-has (x ∷ xs) zero m d lt e = or_left (nat_eq m x) (has xs m) (eq-eqb m x e)
at-has (x ∷ xs) (suc i) m d lt e = or_right (nat_eq m x) (has xs m) (at-has xs i m d (omega (arith, lt)) e)

pub reach-item : (lits : List ℕ) (old : List Value) (n i m d : ℕ) → ((l : ℕ) → has (drop n lits) l ≡ true → (l < length old) × (neg l < length old)) → i < length (take (length lits - n) (drop n lits))
    → m ≡ get_or (take (length lits - n) (drop n lits)) i d → (m < length old) × (neg m < length old)
reach-item lits old n i m d reach lt at = reach m (subst (λ z. has z m ≡ true) (behind lits n) (at-has (take (length lits - n) (drop n lits)) i m d lt at))

pub freed-next : (lits : List ℕ) (old mid : List Value) (n i m d : ℕ) → ((l : ℕ) → has (drop n lits) l ≡ true → (l < length old) × (neg l < length old)) → i < length (take (length lits - n) (drop n lits))
    → m ≡ get_or (take (length lits - n) (drop n lits)) i d → AreFreed old (take i (take (length lits - n) (drop n lits))) mid
    → AreFreed old (take (i + 1) (take (length lits - n) (drop n lits))) (slice_set (slice_set mid m value.Free) (neg m) value.Free)
freed-next lits old mid n i m d reach lt at k =
    freed-more old mid (take i (take (length lits - n) (drop n lits))) (take (i + 1) (take (length lits - n) (drop n lits))) m k (next (take (length lits - n) (drop n lits)) lt at) (reach-item lits old n i m d reach lt at)
  where
    next : (rest : List ℕ) → i < length rest → m ≡ get_or rest i d → take (i + 1) rest ≡ take i rest ++ m ∷ []
    next rest lt at = rw add-one (take-suc rest i d lt ∙ ap (λ z. take i rest ++ z ∷ []) (sym at))

pub freed-all : (lits : List ℕ) (old new : List Value) (n i : ℕ) → length (take (length lits - n) (drop n lits)) ≤ i → AreFreed old (take i (take (length lits - n) (drop n lits))) new → AreFreed old (drop n lits) new
freed-all lits old new n i past k = subst (λ z. AreFreed old z new) (take_all i (take (length lits - n) (drop n lits)) past ∙ behind lits n) k

-- ---- What stays of a trail

literals-take : (n : ℕ) (ss : List TrailEntry) → take n (literals ss) ≡ literals (take n ss)
literals-take zero ss = refl
literals-take (suc n) [] = refl
literals-take (suc n) (s ∷ ss) = ap (λ z. s.lit ∷ z) (literals-take n ss)

literals-drop : (n : ℕ) (ss : List TrailEntry) → drop n (literals ss) ≡ literals (drop n ss)
literals-drop zero ss = refl
literals-drop (suc n) [] = refl
literals-drop (suc n) (s ∷ ss) = literals-drop n ss

has-both : (xs ys : List TrailEntry) (l : ℕ) → has (literals (xs ++ ys)) l ≡ (has (literals xs) l || has (literals ys) l)
has-both xs ys l = ap (λ z. has z l) (literals-append xs ys) ∙ has-append (literals xs) (literals ys) l

-- a literal that isn't among all isn't among the first
absent-first : (xs ys : List TrailEntry) (l : ℕ) → has (literals (xs ++ ys)) l ≡ false → has (literals xs) l ≡ false
absent-first xs ys l h = elim (cases_Bool (has (literals xs) l)) [
  | inl y ↦ absurd (both_ways _ h (has-both xs ys l ∙ or_left (has (literals xs) l) (has (literals ys) l) y))
  | inr n ↦ n
]

free-first : (xs ys : List TrailEntry) (l : ℕ) → IsFree (literals (xs ++ ys)) l → IsFree (literals xs) l
free-first xs ys l free = (absent-first xs ys l free.0, absent-first xs ys (neg l) free.1)

-- a literal of a later entry is free before
later-free : (n : ℕ) (xs ys : List TrailEntry) (l : ℕ) → AreNew n (xs ++ ys) → has (literals ys) l ≡ true → IsFree (literals xs) l
later-free n xs ys l k h = along [] ys (ap (λ z. z ++ ys) (sym (append-nil xs))) h
  where
    along : (between after : List TrailEntry) → xs ++ ys ≡ (xs ++ between) ++ after → has (literals after) l ≡ true → IsFree (literals xs) l
    along between [] at g = cc g
    along between (x ∷ after) at g = elim (or_cases (nat_eq l x.lit) (has (literals after) l) g) [
      | inl e ↦ subst (IsFree (literals xs)) (sym (eqb-true l x.lit e)) (free-first xs between x.lit (k (xs ++ between) after x at).free)
      | inr m ↦ along (between ++ x ∷ []) after (at ∙ sym (append_assoc (xs ++ between) (x ∷ []) after) ∙ ap (λ z. z ++ after) (append_assoc xs between (x ∷ []))) m
    ]

-- an entry of the whole is one of the first or a later one
cut_append : (xs ys before after : List TrailEntry) (s : TrailEntry) → xs ++ ys ≡ before ++ s ∷ after
    → ((rest : List TrailEntry) × (before ≡ xs ++ rest)) ⊎ ((rest : List TrailEntry) × (xs ≡ before ++ s ∷ rest))
cut_append [] ys before after s e = inl (before, refl)
cut_append (x ∷ xs) ys [] after s e = let f : x ∷ (xs ++ ys) ≡ s ∷ after = e in let g : x ≡ s = cc f in inr (xs, ap (λ z. z ∷ xs) g)
cut_append (x ∷ xs) ys (b ∷ before) after s e =
    let f : x ∷ (xs ++ ys) ≡ b ∷ (before ++ s ∷ after) = e in
    let g : x ≡ b = cc f in let h : xs ++ ys ≡ before ++ s ∷ after = cc f in
    elim (cut_append xs ys before after s h) [
      | inl r ↦ inl (r.0, λ i. sym g i ∷ r.1 i)
      | inr r ↦ inr (r.0, λ i. g i ∷ r.1 i)
    ]

-- ---- The tables of what stays

values-cut : (n : ℕ) (xs ys : List TrailEntry) (old new : List Value) → AreNew n (xs ++ ys) → AreValues (xs ++ ys) old → AreFreed old (literals ys) new → AreValues xs new
values-cut n xs ys old new k h freed l = ap value_of (freed.entries l) ∙ elim (cases_Bool (has (literals ys) l)) [
  | inl y ↦ let e : entry_without (literals ys) old l ≡ value.Free = rw y refl in ap value_of e ∙ sym (value-free (literals xs) l (later-free n xs ys l k y))
  | inr o ↦ elim (cases_Bool (has (literals ys) (neg l))) [
    | inl y ↦
        let e : entry_without (literals ys) old l ≡ value.Free = rw (o, y) refl in
        let f : value_in (literals xs) (neg (neg l)) ≡ None = value-free_neg (literals xs) (neg l) (later-free n xs ys (neg l) k y) in
        ap value_of e ∙ sym f ∙ ap (value_in (literals xs)) (neg-neg l)
    | inr p ↦
        let e : entry_without (literals ys) old l ≡ get_or old l value.Free = rw (o, p) refl in
        ap value_of e ∙ h l ∙ value-both xs ys l o p
  ]
]
  where
    value-both : (xs ys : List TrailEntry) (l : ℕ) → has (literals ys) l ≡ false → has (literals ys) (neg l) ≡ false → value_in (literals (xs ++ ys)) l ≡ value_in (literals xs) l
    value-both xs ys l o p =
        let one : has (literals (xs ++ ys)) l ≡ has (literals xs) l = has-both xs ys l ∙ ap (λ b. has (literals xs) l || b) o ∙ or-false (has (literals xs) l) in
        let two : has (literals (xs ++ ys)) (neg l) ≡ has (literals xs) (neg l) = has-both xs ys (neg l) ∙ ap (λ b. has (literals xs) (neg l) || b) p ∙ or-false (has (literals xs) (neg l)) in
        rw (one, two) refl

origins-cut : (n : ℕ) (xs ys : List TrailEntry) (origins : List Origin) → AreNew n (xs ++ ys) → AreOrigins (xs ++ ys) origins → AreOrigins xs origins
origins-cut n xs ys origins k h l m t at =
    let r = h l m (has-both xs ys l ∙ or_left (has (literals xs) l) (has (literals ys) l) t) at in
    record { level = sym (level-kept 0 xs ys l t) ∙ r.level; at = at_first r.at }
  where
    at_first : IsAt (xs ++ ys) l m.place → IsAt xs l m.place
    at_first p = elim (cut_append xs ys p.before p.after p.entry p.cut) [
      | inl c ↦
          let free : IsFree (literals (xs ++ c.0)) l = subst (IsFree (literals (xs ++ c.0))) p.lit (subst (λ z. IsFree (literals z) p.entry.lit) c.1 (k p.before p.after p.entry p.cut).free) in
          absurd (both_ways _ (absent-first xs c.0 l free.0) t)
      | inr c ↦ record { before = p.before; entry = p.entry; after = c.0; cut = c.1; counted = p.counted; lit = p.lit }
    ]

assigned-first : (xs ys : List TrailEntry) (lits fewer : List ℕ) (values new : List Value) (origins : List Origin) (level low a b c d : ℕ) → IsAssigned (xs ++ ys) lits values origins level a b
    → fewer ≡ literals xs → low ≡ level_after xs → AreFreed values (literals ys) new → a ≤ c → b ≤ d → IsAssigned xs fewer new origins low c d
assigned-first xs ys lits fewer values new origins level low a b c d k same count freed ac bd = record {
  each_new = AreNew-prefix (length origins) xs ys k.each_new;
  same = same;
  rows = freed.len ∙ k.rows;
  each_value = values-cut (length origins) xs ys values new k.each_new k.each_value freed;
  each_origin = origins-cut (length origins) xs ys origins k.each_new k.each_origin;
  counted = count;
  limit = k.limit;
  entries_fit = omega (arith, k.entries_fit, ac);
  lits_fit = omega (arith, k.lits_fit, bd);
}

-- a table that was written whole
written : (values new : List Value) (n : ℕ) → n ≡ length values → length new ≡ length values → take n (new ++ drop (length new) values) ≡ new
written values new n count len = take-append-le n new (drop (length new) values) (omega (arith, count, len)) ∙ take_all n new (omega (arith, count, len))

-- the first entries alone
pub assigned-cut : (ss entries : List TrailEntry) (lits fewer : List ℕ) (values new : List Value) (origins : List Origin) (level low n m a b c d : ℕ) → IsAssigned ss lits values origins level a b
    → entries ≡ take n ss → fewer ≡ take n lits → low ≡ level_after (take n ss) → AreFreed values (drop n lits) new → m ≡ length values → a ≤ c → b ≤ d
    → IsAssigned entries fewer (take m (new ++ drop (length new) values)) origins low c d
assigned-cut ss entries lits fewer values new origins level low n m a b c d k first part count freed long ac bd =
    rw (written values new m long freed.len, first)
    (assigned-first (take n ss) (drop n ss) lits fewer values new origins level low a b c d
    (subst (λ z. IsAssigned z lits values origins level a b) (sym (take-append-drop n ss)) k)
    (part ∙ ap (take n) k.same ∙ literals-take n ss) count
    (subst (λ z. AreFreed values z new) (ap (drop n) k.same ∙ literals-drop n ss) freed) ac bd)

-- the literals behind a place are within the table
pub reach-behind : (ss : List TrailEntry) (lits read : List ℕ) (values table : List Value) (origins : List Origin) (level n a b l : ℕ) → IsAssigned ss lits values origins level a b → read ≡ lits → table ≡ values → has (drop n read) l ≡ true
    → (l < length table) × (neg l < length table)
reach-behind ss lits read values table origins level n a b l k at is h =
    let later : has (literals (drop n ss)) l ≡ true = subst (λ z. has z l ≡ true) (ap (drop n) (at ∙ k.same) ∙ literals-drop n ss) h in
    let one : has (literals (take n ss ++ drop n ss)) l ≡ true = has-both (take n ss) (drop n ss) l ∙ or_right (has (literals (take n ss)) l) (has (literals (drop n ss)) l) later in
    let r : var l ≤ length origins = reserved-true (length origins) ss l k.each_new (subst (λ z. has (literals z) l ≡ true) (take-append-drop n ss) one) in
    let e : length table ≡ 2 * length origins = ap length is ∙ k.rows in
    (omega (arith, r, e), omega (arith, r, e))

-- ---- Down to a level

-- a last entry of a higher level goes
above-level : (n : ℕ) (ss : List TrailEntry) (s : TrailEntry) → n < level_after (ss ++ s ∷ []) → up_to_level n (ss ++ s ∷ []) ≡ up_to_level n ss
unfolding up_to_level
above-level n [] s lt = elim (cases_Bool (is_assumed s)) [
  | inl y ↦ let f : n < 1 = rw y at lt in let z : n ≡ 0 = omega arith in rw z (rw y refl)
  | inr o ↦ let f : n < 0 = rw o at lt in absurd (omega arith)
]
above-level zero (x ∷ ss) s lt = elim (cases_Bool (is_assumed x)) [
  | inl y ↦ rw y refl
  | inr o ↦ let f : 0 < level_after (ss ++ s ∷ []) = rw o at lt in rw o (ap (λ z. x ∷ z) (above-level zero ss s f))
]
above-level (suc n) (x ∷ ss) s lt = elim (cases_Bool (is_assumed x)) [
  | inl y ↦ let f : suc n < suc (level_after (ss ++ s ∷ [])) = rw y at lt in rw y (ap (λ z. x ∷ z) (above-level n ss s (omega (arith, f))))
  | inr o ↦ let f : suc n < level_after (ss ++ s ∷ []) = rw o at lt in rw o (ap (λ z. x ∷ z) (above-level (suc n) ss s f))
]

-- one entry less, where its level is above
pub kept-less : (level now n m : ℕ) (ss : List TrailEntry) (s : TrailEntry) → n ≤ length ss → now ≡ level_after (take n ss) → up_to_level level (take n ss) ≡ up_to_level level ss → level < now → m + 1 ≡ n → s ≡ get_or ss m s
    → (lowered now s.reason ≡ level_after (take m ss)) × (up_to_level level (take m ss) ≡ up_to_level level ss)
kept-less level now n m ss s within reached same above less at =
    let split : take n ss ≡ take m ss ++ s ∷ [] = ap (λ z. take z ss) (sym less) ∙ ap (λ z. take z ss) m1 ∙ take-suc ss m s (omega arith) ∙ ap (λ z. take m ss ++ z ∷ []) (sym at) in
    let count : now ≡ level_after (take m ss ++ s ∷ []) = reached ∙ ap level_after split in
    let high : level < level_after (take m ss ++ s ∷ []) = omega (arith, count, above) in (
      ap (λ z. lowered z s.reason) (count ∙ level_after-push (take m ss) s) ∙ lowered-raised (level_after (take m ss)) s.reason,
      sym (above-level level (take m ss) s high) ∙ ap (up_to_level level) (sym split) ∙ same,
    )
  where
    m1 : m + 1 ≡ suc m
    m1 = omega arith

-- where the level is above an entry is left
pub kept-some : (level now n : ℕ) (ss : List TrailEntry) → now ≡ level_after (take n ss) → level < now → 0 < n
kept-some level now zero ss reached above = let z : now ≡ 0 = reached in absurd (omega arith)
kept-some level now (suc n) ss reached above = omega arith

-- at the level it is what is asked for
pub kept-all : (level now n : ℕ) (ss : List TrailEntry) → now ≡ level_after (take n ss) → now ≤ level → up_to_level level (take n ss) ≡ up_to_level level ss → take n ss ≡ up_to_level level ss
kept-all level now n ss reached below same = sym (up_to_level-all level (take n ss) (omega (arith, reached, below))) ∙ same
