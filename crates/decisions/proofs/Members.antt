-- Candidates that come and go, and variables that are assigned.
use Rattle.std.proofs.Common.{◌≡◌, ◌≢◌, ℕ, ◌+◌, ◌<◌, ◌≤◌, ◌⊎◌, Bool, true, false, List, length, Option, Some, None, refl, sym, ap, ◌∙◌, subst, inl, inr, arith}
use Rattle.std.specs.Prelude.{is_some}
use Rattle.std.specs.Ordering.{nat_cmp, eq_by_cmp}
use Rattle.std.specs.Cmp.{nat_cmp_total}
use Rattle.std.specs.FinMap.{nat_cmp-IsAntisymmetric}
use Rattle.std.proofs.lemmas.Bool.Decides.{nat_tests}
use Rattle.std.proofs.lemmas.Bool.{both_ways}
use Rattle.std.specs.FinSet as set
use Rattle.std.specs.FinSet.{contains-insert, contains-remove, contains-empty, len-insert}
use Rattle.lits.specs.Literal.{var, neg}
use Rattle.lits.proofs.Literal.{neg-neg}
use Rattle.propagation.specs.Engine.{EngineView, IsFree, literals, value_in}
use Rattle.propagation.proofs.Assigning.{value-free, value-none}
use Rattle.decide_order.specs.Ranked.{Ranked, IsMember, with_member, without_member}
use Rattle.decisions.specs.Candidates.{IsAssigned, IsCandidate, IsReserved, Picks}
use Rattle.decisions.specs.Inside.{AreDecisions}
use Rattle.std.proofs.lemmas.Option.{same_Some}

pub same_or_not : (i j : ℕ) → (i ≡ j) ⊎ (i ≢ j)
same_or_not i j = grind arith

ties : (q : ℕ) → eq_by_cmp nat_cmp q q ≡ true
ties q = grind (arith, nat_tests)

differs : (q k : ℕ) → q ≢ k → eq_by_cmp nat_cmp q k ≡ false
differs q k ne = grind (arith, nat_tests)

pub inserted : (s : set.FinSet nat_cmp) (v : ℕ) → set.contains (set.insert s v) v ≡ true
inserted s v = rw (contains-insert nat_cmp_total, ties v) refl

pub inserted_old : (s : set.FinSet nat_cmp) (v w : ℕ) → set.contains s w ≡ true → set.contains (set.insert s v) w ≡ true
inserted_old s v w h = elim (same_or_not w v) [
  | inl e ↦ subst (λ z. set.contains (set.insert s v) z ≡ true) (sym e) (inserted s v)
  | inr n ↦ rw (contains-insert nat_cmp_total, differs w v n) h
]

pub inserted_only : (s : set.FinSet nat_cmp) (v w : ℕ) → set.contains (set.insert s v) w ≡ true → (set.contains s w ≡ true) ⊎ (w ≡ v)
inserted_only s v w h = elim (same_or_not w v) [
  | inl e ↦ inr e
  | inr n ↦ let f : set.contains s w ≡ true = rw (contains-insert nat_cmp_total, differs w v n) at h in inl f
]

pub removed_other : (s : set.FinSet nat_cmp) (v w : ℕ) → w ≢ v → set.contains s w ≡ true → set.contains (set.remove s v) w ≡ true
removed_other s v w n h = rw (contains-remove nat_cmp_total, differs w v n) h

pub removed_old : (s : set.FinSet nat_cmp) (v w : ℕ) → set.contains (set.remove s v) w ≡ true → set.contains s w ≡ true
removed_old s v w h = elim (same_or_not w v) [
  | inl e ↦ let f : false ≡ true = rw (contains-remove nat_cmp_total, e, ties v) at h in cc f
  | inr n ↦ let f : set.contains s w ≡ true = rw (contains-remove nat_cmp_total, differs w v n) at h in f
]

removed : (s : set.FinSet nat_cmp) (v : ℕ) → set.contains (set.remove s v) v ≡ false
removed s v = rw (contains-remove nat_cmp_total, ties v) refl

put_back : (s : set.FinSet nat_cmp) (v : ℕ) → set.contains s v ≡ true → set.insert (set.remove s v) v ≡ s
put_back s v h = set.same_set nat_cmp_total nat_cmp-IsAntisymmetric _ _ (λ q. elim (same_or_not q v) [
  | inl e ↦ rw (contains-insert nat_cmp_total, e, ties v, h) refl
  | inr n ↦ rw (contains-insert nat_cmp_total, contains-remove nat_cmp_total, differs q v n) refl
])

pub fewer : (s : set.FinSet nat_cmp) (v : ℕ) → set.contains s v ≡ true → set.len (set.remove s v) < set.len s
fewer s v h =
    let e = len-insert nat_cmp_total (set.remove s v) v in
    let f : set.len (set.insert (set.remove s v) v) ≡ set.len (set.remove s v) + 1 = e ∙ rw (removed s v) refl in
    let g : set.len s ≡ set.len (set.remove s v) + 1 = ap set.len (sym (put_back s v h)) ∙ f in
    omega (arith, g)

-- a literal that has a value is that of an assigned variable
pub assigned_by : (e : EngineView) (l : ℕ) → is_some (value_in (literals e.trail) l) ≡ true → IsAssigned e (var l)
assigned_by e l h m same free = elim (same_or_not m l) [
  | inl q ↦ none (subst (IsFree (literals e.trail)) q free)
  | inr n ↦ let opposite : m ≡ neg l = omega (arith, same, n) in none (other (subst (IsFree (literals e.trail)) opposite free))
]
  where
    none : IsFree (literals e.trail) l → ⊥
    none f = let g : is_some (value_in (literals e.trail) l) ≡ false = ap is_some (value-free (literals e.trail) l f) in both_ways _ g h

    other : IsFree (literals e.trail) (neg l) → IsFree (literals e.trail) l
    other f = (subst (λ z. Rattle.lits.specs.Clause.has (literals e.trail) z ≡ false) (neg-neg l) f.1, f.0)

-- ---- A candidate that is taken

pub taken_decisions : (o new old : Ranked) (v a b : ℕ) (ps qs : List Bool) → AreDecisions old ps a → new ≡ without_member o v → o.reserved ≡ old.reserved → qs ≡ ps → b ≡ a
    → ((w : ℕ) → IsMember o w → IsMember old w) → AreDecisions new qs b
taken_decisions o new old v a b ps qs k t r s m h = subst (λ z. AreDecisions z qs b) (sym t) (subst (λ z. AreDecisions (without_member o v) z b) (sym s) (record {
  phased = let p = k.phased in omega (arith, p, r);
  limit = let p = k.limit in omega (arith, p, r);
  within = λ w n. let q = k.within w (h w (removed_old o.members v w n)) in (q.0, omega (arith, q.1, r));
  bounded = let p = k.bounded in omega (arith, p, m);
}))

pub released_decisions : (o new : Ranked) (v a : ℕ) (ps qs : List Bool) → AreDecisions o ps a → new ≡ with_member o v → (0 < v) × (v ≤ o.reserved) → length qs ≡ length ps → AreDecisions new qs a
released_decisions o new v a ps qs k t w s = subst (λ z. AreDecisions z qs a) (sym t) (record {
  phased = let p = k.phased in omega (arith, p, s);
  limit = k.limit;
  within = λ u n. elim (inserted_only o.members v u n) [ inl y ↦ k.within u y | inr y ↦ subst (λ z. (0 < z) × (z ≤ o.reserved)) (sym y) w ];
  bounded = k.bounded;
})

pub picked : (e : EngineView) (o new old : Ranked) (v l : ℕ) → new ≡ without_member o v → o.reserved ≡ old.reserved → IsMember o v → ((w : ℕ) → IsMember o w → IsMember old w)
    → ((w : ℕ) → IsMember old w → IsMember o w ⊎ IsAssigned e w) → ((w : ℕ) → IsMember old w → (0 < w) × (w ≤ old.reserved)) → var l ≡ v → value_in (literals e.trail) l ≡ None
    → Picks e (record { reserved = old.reserved; candidates = old.members }) (record { reserved = new.reserved; candidates = new.members }) (Some l)
picked e o new old v l t r m h left within is free = record {
  reserved = ap (λ z. z.reserved) t ∙ r;
  free = λ x q. let s : l ≡ x = same_Some _ _ q in subst (λ z. IsFree (literals e.trail) z × IsReserved (record { reserved = old.reserved; candidates = old.members }) (var z) × IsCandidate (record { reserved = old.reserved; candidates = old.members }) (var z)) s
      (value-none (literals e.trail) l free, subst (λ z. (0 < z) × (z ≤ old.reserved)) (sym is) (within v (h v m)), subst (λ z. set.contains old.members z ≡ true) (sym is) (h v m));
  left = λ w n. elim (left w n) [
    | inl y ↦ elim (same_or_not w v) [
      | inl q ↦ inr (inr (l, refl, is ∙ sym q))
      | inr q ↦ inl (subst (λ z. set.contains z.members w ≡ true) (sym t) (removed_other o.members v w q y))
    ]
    | inr y ↦ inr (inl y)
  ];
  none = λ q. cc q;
}

pub nothing_picked : (e : EngineView) (o new old : Ranked) → new ≡ o → o.members ≡ set.empty → o.reserved ≡ old.reserved → ((w : ℕ) → IsMember old w → IsMember o w ⊎ IsAssigned e w)
    → Picks e (record { reserved = old.reserved; candidates = old.members }) (record { reserved = new.reserved; candidates = new.members }) None
nothing_picked e o new old t z r left = record {
  reserved = ap (λ z. z.reserved) t ∙ r;
  free = λ x q. cc q;
  left = λ w n. inr (inl (gone w n));
  none = λ q w n. gone w n;
}
  where
    gone : (w : ℕ) → IsMember old w → IsAssigned e w
    gone w n = elim (left w n) [
      | inl y ↦ absurd (both_ways _ (contains-empty nat_cmp w) (subst (λ s. set.contains s w ≡ true) z y))
      | inr y ↦ y
    ]

pub absent : (r : Option Bool) → is_some r ≡ false → r ≡ None
absent None h = refl
absent (Some b) h = cc h
