-- What holds of a trail as it grows and shrinks.
use Rattle.std.proofs.Common.{◌≡◌, ◌≢◌, ℕ, suc, ◌+◌, ◌-◌, ◌/◌, ◌<◌, ◌≤◌, ◌⊎◌, List, [], ◌∷◌, ◌++◌, length, length-append, map, Option, Some, None, refl, sym, ap, ◌∙◌, subst, inl, inr, arith, true, false, nat_eq, Contains, eqb-true, ne_eqb, append_assoc}
use Rattle.std.proofs.lemmas.List.{append-nil}
use Rattle.std.specs.List.{list_any, IsDistinct}
use Rattle.std.specs.Cmp.{nat_eq_equiv}
use Rattle.std.proofs.lemmas.Map.Keys.{IsDistinct-push}
use Rattle.std.proofs.lemmas.Map.Steps.{length-le_from_distinct_below}
use Rattle.std.proofs.lemmas.Option.{same_Some, none-some}
use Rattle.std.proofs.lemmas.Bool.{cases_Bool, both_ways, and_parts, or_cases, or_left, or_right, eqb-false}
use Rattle.lits.specs.Literal.{var, neg}
use Rattle.session_rules.specs.Logic.{has}
use Rattle.lits.proofs.Members.{has_at}
use Rattle.propagation.specs.declared.TrailEntry.{TrailEntry}
use Rattle.std.specs.FinMap.{get}
use Rattle.propagation.specs.Clauses.{Clause, active_at}
use Rattle.propagation.specs.Assigned.{IsNew, AreNew}
use Rattle.propagation.specs.Engine.{EngineView, IsEngine, IsEntry, IsFree, IsReason, literals, with_entry, with_trail, Grows, level_after, is_assumed}

-- ---- Ends of lists

-- a list whose end is one item: the parts before an item of it
pub cut_push : (xs : List TrailEntry) (y : TrailEntry) (before after : List TrailEntry) (s : TrailEntry) → xs ++ y ∷ [] ≡ before ++ s ∷ after
    → ((before ≡ xs) × (s ≡ y)) ⊎ ((rest : List TrailEntry) × (xs ≡ before ++ s ∷ rest))
cut_push [] y [] after s e = inl (refl, let f : y ∷ [] ≡ s ∷ after = e in cc f)
cut_push [] y (b ∷ []) after s e = let f : y ∷ [] ≡ b ∷ s ∷ after = e in cc f
cut_push [] y (b ∷ d ∷ before) after s e = let f : y ∷ [] ≡ b ∷ d ∷ (before ++ s ∷ after) = e in cc f
cut_push (x ∷ xs) y [] after s e = let f : x ∷ (xs ++ y ∷ []) ≡ s ∷ after = e in inr (xs, let g : x ≡ s = cc f in ap (λ z. z ∷ xs) g)
cut_push (x ∷ xs) y (b ∷ before) after s e =
    let f : x ∷ (xs ++ y ∷ []) ≡ b ∷ (before ++ s ∷ after) = e in
    let g : x ≡ b = cc f in let h : xs ++ y ∷ [] ≡ before ++ s ∷ after = cc f in
    elim (cut_push xs y before after s h) [
      | inl r ↦ inl ((λ i. sym g i ∷ r.0 i), r.1)
      | inr r ↦ inr (r.0, (λ i. g i ∷ r.1 i))
    ]

-- ---- Growing

pub IsEngine-push : (e : EngineView) (s : TrailEntry) → IsEngine e → IsEntry e.clauses e.vars e.trail s → IsEngine (with_trail e (e.trail ++ s ∷ []))
IsEngine-push e s k entry = record {
  entries = λ before after t at. elim (cut_push e.trail s before after t at) [
    | inl r ↦ subst (λ z. IsEntry e.clauses e.vars z t) (sym r.0) (subst (λ z. IsEntry e.clauses e.vars e.trail z) (sym r.1) entry)
    | inr r ↦ k.entries before r.0 t r.1
  ];
  slots_apart = k.slots_apart;
  clauses_reserved = k.clauses_reserved;
  vars_limit = k.vars_limit;
}

-- ---- Literals that were new when they came

pub new_entries : (e : EngineView) → IsEngine e → AreNew e.vars e.trail
new_entries e k before after s at = let entry = k.entries before after s at in record { reserved = entry.reserved; free = entry.free }

pub AreNew-push : (n : ℕ) (ss : List TrailEntry) (s : TrailEntry) → AreNew n ss → IsNew n ss s.lit → AreNew n (ss ++ s ∷ [])
AreNew-push n ss s k new before after t at = elim (cut_push ss s before after t at) [
  | inl r ↦ subst (λ z. IsNew n z t.lit) (sym r.0) (subst (λ z. IsNew n ss z.lit) (sym r.1) new)
  | inr r ↦ k before r.0 t r.1
]

pub AreNew-prefix : (n : ℕ) (ss rest : List TrailEntry) → AreNew n (ss ++ rest) → AreNew n ss
AreNew-prefix n ss rest k before after t at = k before (after ++ rest) t (ap (λ z. z ++ rest) at ∙ append_assoc before (t ∷ after) rest)

pub AreNew-more : (n m : ℕ) (ss : List TrailEntry) → AreNew n ss → n ≤ m → AreNew m ss
AreNew-more n m ss k le before after t at = let new = k before after t at in record { reserved = omega (arith, new.reserved, le); free = new.free }

-- ---- Shrinking

pub IsEngine-prefix : (e : EngineView) (ss rest : List TrailEntry) → IsEngine e → e.trail ≡ ss ++ rest → IsEngine (with_trail e ss)
IsEngine-prefix e ss rest k cut = record {
  entries = λ before after t at. k.entries before (after ++ rest) t (cut ∙ ap (λ z. z ++ rest) at ∙ append_assoc before (t ∷ after) rest);
  slots_apart = k.slots_apart;
  clauses_reserved = k.clauses_reserved;
  vars_limit = k.vars_limit;
}

-- ---- No more literals than variables

abbrev place : TrailEntry → ℕ
place s = s.lit / 2

apart : (l : ℕ) (ss : List TrailEntry) → has (literals ss) l ≡ false → has (literals ss) (neg l) ≡ false → list_any (nat_eq (l / 2)) (map place ss) ≡ false
apart l [] h k = refl
apart l (s ∷ ss) h k = elim (cases_Bool (nat_eq l s.lit)) [
  | inl y ↦ let f : has (literals (s ∷ ss)) l ≡ true = or_left _ _ y in absurd (both_ways _ h f)
  | inr n ↦ elim (cases_Bool (nat_eq (neg l) s.lit)) [
    | inl y ↦ let f : has (literals (s ∷ ss)) (neg l) ≡ true = or_left _ _ y in absurd (both_ways _ k f)
    | inr o ↦
        let h2 : has (literals ss) l ≡ false = rw n at h in let k2 : has (literals ss) (neg l) ≡ false = rw o at k in
        let ne : l ≢ s.lit = eqb-false _ _ n in let no : neg l ≢ s.lit = eqb-false _ _ o in
        let other : l / 2 ≢ s.lit / 2 = omega arith in
        rw (ne_eqb _ _ other) (apart l ss h2 k2)
  ]
]

abbrev Counted : ℕ → List TrailEntry → Type 0
Counted n ss = IsDistinct nat_eq (map place ss) × ((q : ℕ) → list_any (nat_eq q) (map place ss) ≡ true → q < n)

map-push : (ss : List TrailEntry) (s : TrailEntry) → map place (ss ++ s ∷ []) ≡ map place ss ++ place s ∷ []
map-push [] s = refl
map-push (x ∷ ss) s = ap (λ z. place x ∷ z) (map-push ss s)

any-push : (xs : List ℕ) (x q : ℕ) → list_any (nat_eq q) (xs ++ x ∷ []) ≡ true → (list_any (nat_eq q) xs ≡ true) ⊎ (q ≡ x)
any-push [] x q h = elim (or_cases _ _ h) [ inl y ↦ inr (eqb-true q x y) | inr n ↦ cc n ]
any-push (y ∷ xs) x q h = elim (or_cases (nat_eq q y) (list_any (nat_eq q) (xs ++ x ∷ [])) h) [
  | inl e ↦ inl (or_left (nat_eq q y) (list_any (nat_eq q) xs) e)
  | inr n ↦ elim (any-push xs x q n) [ inl f ↦ inl (or_right (nat_eq q y) (list_any (nat_eq q) xs) f) | inr f ↦ inr f ]
]

counted-push : (n : ℕ) (ss : List TrailEntry) (s : TrailEntry) → Counted n ss → IsFree (literals ss) s.lit → var s.lit ≤ n → Counted n (ss ++ s ∷ [])
counted-push n ss s h free r = rw map-push (
  IsDistinct-push nat_eq_equiv (map place ss) (place s) h.0 (apart s.lit ss free.0 free.1),
  λ q m. elim (any-push (map place ss) (place s) q m) [ inl f ↦ h.1 q f | inr f ↦ omega arith ],
)

counted : (n : ℕ) (ss before after : List TrailEntry) → AreNew n ss → ss ≡ before ++ after → Counted n before → Counted n ss
counted n ss before [] k at h = subst (Counted n) (sym (at ∙ append-nil before)) h
counted n ss before (s ∷ after) k at h = let new = k before after s at in
    counted n ss (before ++ s ∷ []) after k (at ∙ sym (append_assoc before (s ∷ []) after)) (counted-push n before s h new.free new.reserved)

length-map_place : (ss : List TrailEntry) → length (map place ss) ≡ length ss
length-map_place [] = refl
length-map_place (s ∷ ss) = ap suc (length-map_place ss)

pub new-le : (n : ℕ) (ss : List TrailEntry) → AreNew n ss → length ss ≤ n
unfolding IsDistinct
new-le n ss k = let c = counted n ss [] ss k refl (tt, λ q h. cc h) in
    let b = length-le_from_distinct_below (map place ss) n c.0 c.1 in omega (arith, length-map_place ss, b)

-- one that may come there leaves it no longer than the variables
pub new-room : (n : ℕ) (ss : List TrailEntry) (s : TrailEntry) → AreNew n ss → IsNew n ss s.lit → length ss < n
new-room n ss s k new = let b = new-le n (ss ++ s ∷ []) (AreNew-push n ss s k new) in omega (arith, b, length-append ss (s ∷ []))

pub trail-le : (e : EngineView) → IsEngine e → length e.trail ≤ e.vars
trail-le e k = new-le e.vars e.trail (new_entries e k)

-- a literal that may come on the trail has room there
pub room : (e : EngineView) (s : TrailEntry) → IsEngine e → IsEntry e.clauses e.vars e.trail s → length e.trail < e.vars
room e s k entry = let b = trail-le _ (IsEngine-push e s k entry) in omega (arith, b, length-append e.trail (s ∷ []))

pub literals-push : (ss : List TrailEntry) (s : TrailEntry) → literals (ss ++ s ∷ []) ≡ literals ss ++ s.lit ∷ []
literals-push [] s = refl
literals-push (x ∷ ss) s = ap (λ z. x.lit ∷ z) (literals-push ss s)

-- ---- One literal of a propagation

pub active_reserved : (e : EngineView) → IsEngine e → (id l : ℕ) (c : List ℕ) → active_at e.clauses id ≡ Some c → Contains c l → var l ≤ e.vars
active_reserved e k id l c at m = by_clause (get e.clauses id) refl
  where
    by_slot : (d : Clause) (o : Option ℕ) → d.slot ≡ o → get e.clauses id ≡ Some d → var l ≤ e.vars
    by_slot d None p g = let f : active_at e.clauses id ≡ None = rw (g, p) refl in absurd (none-some c (sym f ∙ at))
    by_slot d (Some s) p g =
        let f : active_at e.clauses id ≡ Some d.literals = rw (g, p) refl in
        k.clauses_reserved id l d g (subst (λ z. Contains z l) (same_Some _ _ (sym at ∙ f)) m)

    by_clause : (o : Option Clause) → get e.clauses id ≡ o → var l ≤ e.vars
    by_clause None g = let f : active_at e.clauses id ≡ None = rw g refl in absurd (none-some c (sym f ∙ at))
    by_clause (Some d) g = by_slot d d.slot refl g

pub entry_of_reason : (e : EngineView) (trues : List ℕ) (l s : ℕ) → IsEngine e → trues ≡ literals e.trail → IsReason e.clauses trues l s → IsFree trues l
    → IsEntry e.clauses e.vars e.trail (record { lit = l; reason = Some s })
entry_of_reason e trues l s k same r free = record {
  reserved = active_reserved e k r.0 l r.1 r.3 (has_at r.1 l (and_parts _ _ r.4).0);
  free = subst (λ z. IsFree z l) same free;
  reason = λ t e2. let f : s ≡ t = same_Some _ _ e2 in subst (λ z. IsReason e.clauses z l t) same (subst (λ z. IsReason e.clauses trues l z) f r);
}

pub smaller : (e new : EngineView) (l : ℕ) (r : Option ℕ) → new ≡ with_entry e l r → length e.trail < e.vars → new.vars - length new.trail < e.vars - length e.trail
smaller e new l r is lt = subst (λ z. z.vars - length z.trail < e.vars - length e.trail) (sym is) (simp (length-append {A = TrailEntry}) (omega arith))

pub level_after-append : (xs ys : List TrailEntry) → level_after (xs ++ ys) ≡ level_after xs + level_after ys
level_after-append [] ys = omega arith
level_after-append (x ∷ xs) ys = let r = level_after-append xs ys in elim (cases_Bool (is_assumed x)) [
  | inl y ↦ rw y (omega arith)
  | inr n ↦ rw n r
]

pub Grows-none : (e : EngineView) → Grows e e
Grows-none e = ([], (λ i. record { clauses = e.clauses; trail = sym (append-nil e.trail) i; vars = e.vars }), refl)

pub Grows-entry : (old e new : EngineView) (l s : ℕ) → Grows old e → new ≡ with_entry e l (Some s) → Grows old new
Grows-entry old e new l s g is = let t : TrailEntry = record { lit = l; reason = Some s } in (
  g.0 ++ t ∷ [],
  is ∙ ap (λ z. with_entry z l (Some s)) g.1 ∙ ap (with_trail old) (append_assoc old.trail g.0 (t ∷ [])),
  level_after-append g.0 (t ∷ []) ∙ ap (λ z. z + 0) g.2,
)

pub length-literals : (ss : List TrailEntry) → length (literals ss) ≡ length ss
length-literals [] = refl
length-literals (s ∷ ss) = ap suc (length-literals ss)
