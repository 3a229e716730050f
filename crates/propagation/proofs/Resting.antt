-- A true literal that is given another reason.
use Rattle.std.proofs.Common.{◌≡◌, ℕ, suc, ◌+◌, ◌<◌, List, [], ◌∷◌, ◌++◌, length, map, get_or, Option, Some, None, refl, sym, ap, ◌∙◌, subst, inl, inr, arith, true, false, nat_eq, eqb-true, eq-eqb, ne_eqb, append_assoc, length-append}
use Rattle.std.specs.Prelude.{slice_set, is_some, is_none, if◌then◌else◌}
use Rattle.std.proofs.Math.Seq.{get_or-append_seam, set-append_seam}
use Rattle.std.proofs.lemmas.List.{map-append}
use Rattle.std.proofs.lemmas.Bool.{cases_Bool, both_ways, or_cases, or_left, eqb-false}
use Rattle.std.proofs.lemmas.Option.{none-some}
use Rattle.lits.specs.Literal.{var}
use Rattle.session_rules.specs.Logic.{has}
use Rattle.propagation.specs.declared.TrailEntry.{TrailEntry}
use Rattle.propagation.specs.declared.assignment.Origin.{Origin}
use Rattle.propagation.specs.declared.assignment.Value.{Value}
use Rattle.propagation.specs.Engine.{literals, level_after, level_behind, reason_in, value_in, is_assumed, IsFree}
use Rattle.propagation.specs.Assigned.{IsAt, IsNew, AreNew, IsAssigned, rested, with_reason}
use Rattle.propagation.proofs.Trail.{level_after-append}
use Rattle.propagation.proofs.Assigning.{reason_at, reason-none}
use Rattle.propagation.proofs.Closing.{has-push_old, has-push_new}

-- ---- The entries

pub lit-rested : (l s : ℕ) (t : TrailEntry) → (rested l s t).lit ≡ t.lit
lit-rested l s t = elim (cases_Bool (nat_eq t.lit l)) [ inl y ↦ rw y refl | inr o ↦ rw o refl ]

pub literals-rested : (ss : List TrailEntry) (l s : ℕ) → literals (with_reason ss l s) ≡ literals ss
literals-rested [] l s = refl
literals-rested (t ∷ ss) l s = λ i. lit-rested l s t i ∷ literals-rested ss l s i

length-rested : (ss : List TrailEntry) (l s : ℕ) → length (with_reason ss l s) ≡ length ss
length-rested [] l s = refl
length-rested (t ∷ ss) l s = ap suc (length-rested ss l s)

-- a list that was changed item by item: the parts before an item of it
pub cut_map : (f : TrailEntry → TrailEntry) (ss b : List TrailEntry) (t : TrailEntry) (a : List TrailEntry) → map f ss ≡ b ++ t ∷ a
    → (before : List TrailEntry) × (entry : TrailEntry) × (after : List TrailEntry) × (ss ≡ before ++ entry ∷ after) × (b ≡ map f before) × (t ≡ f entry)
cut_map f [] [] t a e = cc e
cut_map f [] (y ∷ b) t a e = let g : [] ≡ y ∷ (b ++ t ∷ a) = e in cc g
cut_map f (x ∷ ss) [] t a e = let g : f x ∷ map f ss ≡ t ∷ a = e in ([], x, ss, refl, refl, let h : f x ≡ t = cc g in sym h)
cut_map f (x ∷ ss) (y ∷ b) t a e =
    let g : f x ∷ map f ss ≡ y ∷ (b ++ t ∷ a) = e in
    let h : f x ≡ y = cc g in let k : map f ss ≡ b ++ t ∷ a = cc g in
    let r = cut_map f ss b t a k in
    (x ∷ r.0, r.1, r.2, ap (λ z. x ∷ z) r.3, (λ i. sym h i ∷ r.4 i), r.5)

pub new-rested : (n : ℕ) (ss : List TrailEntry) (l s : ℕ) → AreNew n ss → AreNew n (with_reason ss l s)
new-rested n ss l s k before after t at =
    let r = cut_map (rested l s) ss before t after at in
    let new = k r.0 r.2 r.1 r.3 in
    let lit : t.lit ≡ r.1.lit = ap (λ z. z.lit) r.5 ∙ lit-rested l s r.1 in
    let front : literals before ≡ literals r.0 = ap literals r.4 ∙ literals-rested r.0 l s in
    subst (λ z. IsNew n before z) (sym lit) (record { reserved = new.reserved; free = subst (λ z. IsFree z r.1.lit) (sym front) new.free })

-- a literal that isn't among them changes nothing
not-rested : (ss : List TrailEntry) (l s : ℕ) → has (literals ss) l ≡ false → with_reason ss l s ≡ ss
not-rested [] l s h = refl
not-rested (t ∷ ss) l s h = elim (cases_Bool (nat_eq l t.lit)) [
  | inl y ↦ absurd (both_ways _ h (or_left (nat_eq l t.lit) (has (literals ss) l) y))
  | inr o ↦
      let f : has (literals ss) l ≡ false = rw o at h in
      let n : nat_eq t.lit l ≡ false = ne_eqb t.lit l (λ e. eqb-false l t.lit o (sym e)) in
      rw n (ap (λ z. t ∷ z) (not-rested ss l s f))
]

-- no literal comes twice
later : (n : ℕ) (all before after : List TrailEntry) (l : ℕ) → AreNew n all → all ≡ before ++ after → has (literals before) l ≡ true → has (literals after) l ≡ false
later n all before [] l k at m = refl
later n all before (t ∷ after) l k at m = elim (cases_Bool (nat_eq l t.lit)) [
  | inl y ↦ absurd (both_ways _ (k before after t at).free.0 (subst (λ z. has (literals before) z ≡ true) (eqb-true l t.lit y) m))
  | inr o ↦ rw o (later n all (before ++ t ∷ []) after l k (at ∙ sym (append_assoc before (t ∷ []) after)) (has-push_old before t l m))
]

pub one-rested : (n : ℕ) (before after : List TrailEntry) (t : TrailEntry) (s : ℕ) → AreNew n (before ++ t ∷ after) → with_reason (before ++ t ∷ after) t.lit s ≡ before ++ record { lit = t.lit; reason = Some s } ∷ after
one-rested n before after t s k =
    let first : with_reason before t.lit s ≡ before = not-rested before t.lit s (k before after t refl).free.0 in
    let here : rested t.lit s t ≡ record { lit = t.lit; reason = Some s } = rw (eq-eqb t.lit t.lit refl) refl in
    let last : with_reason after t.lit s ≡ after = not-rested after t.lit s (later n (before ++ t ∷ after) (before ++ t ∷ []) after t.lit k (sym (append_assoc before (t ∷ []) after)) (has-push_new before t)) in
    map-append (rested t.lit s) before (t ∷ after) ∙ (λ i. first i ++ here i ∷ last i)

-- the entry of a true literal
pub cut-literal : (ss : List TrailEntry) (l : ℕ) → has (literals ss) l ≡ true → (before : List TrailEntry) × (entry : TrailEntry) × (after : List TrailEntry) × (ss ≡ before ++ entry ∷ after) × (entry.lit ≡ l)
cut-literal [] l h = cc h
cut-literal (t ∷ ss) l h = elim (or_cases (nat_eq l t.lit) (has (literals ss) l) h) [
  | inl y ↦ ([], t, ss, refl, sym (eqb-true l t.lit y))
  | inr m ↦ let r = cut-literal ss l m in (t ∷ r.0, r.1, r.2, ap (λ z. t ∷ z) r.3, r.4)
]

some-reason : (o : Option ℕ) → is_some o ≡ true → (r : ℕ) × (o ≡ Some r)
some-reason None e = cc e
some-reason (Some r) e = (r, refl)

-- a literal with a reason is true
pub true-reason : (ss : List TrailEntry) (l : ℕ) → is_some (reason_in ss l) ≡ true → has (literals ss) l ≡ true
true-reason ss l h = elim (cases_Bool (has (literals ss) l)) [
  | inl y ↦ y
  | inr o ↦ let r = some-reason (reason_in ss l) h in absurd (none-some r.0 (sym (reason-none ss l o) ∙ r.1))
]

-- ---- The levels

after-forced : (before after : List TrailEntry) (t : TrailEntry) → is_assumed t ≡ false → level_after (before ++ t ∷ after) ≡ level_after before + level_after after
after-forced before after t f = level_after-append before (t ∷ after) ∙ rw f refl

behind-forced : (n : ℕ) (before after : List TrailEntry) (t u : TrailEntry) (q : ℕ) → t.lit ≡ u.lit → is_assumed t ≡ false → is_assumed u ≡ false → level_behind n (before ++ t ∷ after) q ≡ level_behind n (before ++ u ∷ after) q
unfolding level_behind
behind-forced n [] after t u q e f g = rw (e, f, g) refl
behind-forced n (x ∷ before) after t u q e f g = elim (cases_Bool (nat_eq (var x.lit) (var q))) [
  | inl y ↦ rw y refl
  | inr o ↦ rw o (behind-forced (if is_assumed x then n + 1 else n) before after t u q e f g)
]

not-assumed : (o : Option ℕ) → is_some o ≡ true → is_none o ≡ false
not-assumed None e = cc e
not-assumed (Some r) e = refl

-- the literal's entry, and that it has a reason
forced-cut : (n : ℕ) (ss : List TrailEntry) (l s : ℕ) → AreNew n ss → is_some (reason_in ss l) ≡ true
    → (before : List TrailEntry) × (entry : TrailEntry) × (after : List TrailEntry) × (ss ≡ before ++ entry ∷ after) × (with_reason ss l s ≡ before ++ record { lit = entry.lit; reason = Some s } ∷ after) × (is_assumed entry ≡ false)
forced-cut n ss l s k h =
    let r = cut-literal ss l (true-reason ss l h) in
    let new : AreNew n (r.0 ++ r.1 ∷ r.2) = subst (AreNew n) r.3 k in
    let why : reason_in ss l ≡ r.1.reason = (λ i. reason_in (r.3 i) (sym r.4 i)) ∙ reason_at n r.0 r.2 r.1 new in (
      r.0,
      r.1,
      r.2,
      r.3,
      (λ i. with_reason (r.3 i) (sym r.4 i) s) ∙ one-rested n r.0 r.2 r.1 s new,
      not-assumed r.1.reason (ap is_some (sym why) ∙ h),
    )

pub level_after-rested : (n : ℕ) (ss : List TrailEntry) (l s : ℕ) → AreNew n ss → is_some (reason_in ss l) ≡ true → level_after (with_reason ss l s) ≡ level_after ss
level_after-rested n ss l s k h =
    let r = forced-cut n ss l s k h in
    ap level_after r.4 ∙ after-forced r.0 r.2 (record { lit = r.1.lit; reason = Some s }) refl ∙ sym (after-forced r.0 r.2 r.1 r.5) ∙ ap level_after (sym r.3)

level_behind-rested : (n : ℕ) (ss : List TrailEntry) (l s q : ℕ) → AreNew n ss → is_some (reason_in ss l) ≡ true → level_behind 0 (with_reason ss l s) q ≡ level_behind 0 ss q
level_behind-rested n ss l s q k h =
    let r = forced-cut n ss l s k h in
    ap (λ z. level_behind 0 z q) r.4 ∙ behind-forced 0 r.0 r.2 (record { lit = r.1.lit; reason = Some s }) r.1 q refl refl r.5 ∙ ap (λ z. level_behind 0 z q) (sym r.3)

-- ---- The tables

at-rested : (ss : List TrailEntry) (l s q place : ℕ) → IsAt ss q place → IsAt (with_reason ss l s) q place
at-rested ss l s q place k = record {
  before = with_reason k.before l s;
  entry = rested l s k.entry;
  after = with_reason k.after l s;
  cut = ap (map (rested l s)) k.cut ∙ map-append (rested l s) k.before (k.entry ∷ k.after);
  counted = k.counted ∙ sym (length-rested k.before l s);
  lit = lit-rested l s k.entry ∙ k.lit;
}

pub assigned-rested : (ss : List TrailEntry) (lits : List ℕ) (values : List Value) (origins : List Origin) (level a b l s : ℕ) → IsAssigned ss lits values origins level a b → is_some (reason_in ss l) ≡ true → IsAssigned (with_reason ss l s) lits values origins level a b
assigned-rested ss lits values origins level a b l s k h =
    let same = literals-rested ss l s in record {
      each_new = new-rested (length origins) ss l s k.each_new;
      same = k.same ∙ sym same;
      rows = k.rows;
      each_value = λ q. k.each_value q ∙ ap (λ z. value_in z q) (sym same);
      each_origin = λ q m t at. let r = k.each_origin q m (subst (λ z. has z q ≡ true) same t) at in
          record { level = level_behind-rested (length origins) ss l s q k.each_new h ∙ r.level; at = at-rested ss l s q m.place r.at };
      counted = k.counted ∙ sym (level_after-rested (length origins) ss l s k.each_new h);
      limit = k.limit;
      entries_fit = k.entries_fit;
      lits_fit = k.lits_fit;
    }

-- the write at the literal's place
pub set-rested : (n : ℕ) (ss : List TrailEntry) (l place s : ℕ) → AreNew n ss → IsAt ss l place → slice_set ss place (record { lit = l; reason = Some s }) ≡ with_reason ss l s
set-rested n ss l place s k at =
    let entry : TrailEntry = record { lit = l; reason = Some s } in
    let new : AreNew n (at.before ++ at.entry ∷ at.after) = subst (AreNew n) at.cut k in
    (λ i. slice_set (at.cut i) (at.counted i) entry) ∙ set-append_seam at.before at.entry at.after entry
    ∙ ap (λ z. at.before ++ record { lit = z; reason = Some s } ∷ at.after) (sym at.lit) ∙ sym (one-rested n at.before at.after at.entry s new) ∙ (λ i. with_reason (sym at.cut i) (at.lit i) s)

-- the read there
pub read-reason : (n : ℕ) (ss : List TrailEntry) (l place : ℕ) (d : TrailEntry) → AreNew n ss → IsAt ss l place → d ≡ get_or ss place d → d.reason ≡ reason_in ss l
read-reason n ss l place d k at is =
    let new : AreNew n (at.before ++ at.entry ∷ at.after) = subst (AreNew n) at.cut k in
    ap (λ z. z.reason) (is ∙ (λ i. get_or (at.cut i) (at.counted i) d) ∙ get_or-append_seam at.before at.entry at.after d)
    ∙ sym (reason_at n at.before at.after at.entry new) ∙ (λ i. reason_in (sym at.cut i) (at.lit i))

pub at-below : (ss : List TrailEntry) (l place : ℕ) → IsAt ss l place → place < length ss
at-below ss l place at = let long = ap length at.cut in omega (arith, long, at.counted, length-append at.before (at.entry ∷ at.after))
