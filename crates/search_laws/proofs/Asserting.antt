-- The shape of a lemma, and the trail once the levels above are taken off.
use Rattle.std.proofs.Common.{◌≡◌, ℕ, ◌+◌, ◌<◌, ◌≤◌, ◌⊎◌, true, false, nat_eq, List, [], ◌∷◌, ◌++◌, Contains, Some, refl, sym, ◌∙◌, ap, subst, inl, inr, arith, append_assoc}
use Rattle.std.specs.Prelude.{unwrap_or, drop, slice_index}
use Rattle.std.proofs.lemmas.Bool.{both_ways, or_right}
use Rattle.std.proofs.lemmas.Option.{same_Some}
use Rattle.lits.specs.Literal.{var, neg}
use Rattle.session_rules.specs.Logic.{has}
use Rattle.lits.proofs.Literal.{neg-neg, var-neg}
use Rattle.lits.proofs.Members.{here, there, not_in_nil, here_or_there, has_at, has_from}
use Rattle.propagation.specs.declared.TrailEntry.{TrailEntry}
use Rattle.propagation.specs.Engine.{EngineView, IsEngine, IsFree, IsOnce, literals, level_after, level_behind, up_to_level, CameBefore, with_trail}
use Rattle.propagation.proofs.Levels.{up_to_level-prefix, level_after-exactly}
use Rattle.propagation.proofs.Trail.{new_entries, level_after-append}
use Rattle.propagation.proofs.Assigning.{level-kept, level-same_var, reserved-true}
use Rattle.search_laws.specs.Asserting.{CanAssert, level_of_others, level_below, IsLatestFirst, IsPicked}
use Rattle.propagation.proofs.Parts.{has-back, later-free}
use Rattle.search_laws.proofs.Placing.{stands, has-first, lacks, before-has_earlier, before-front, before-at, level-at, stays-at, goes-at, free-neg}

-- the place of a false literal, and its level
pub record Placed (ss : List TrailEntry) (l : ℕ) : Type 0 where
  pub before : List TrailEntry
  pub step : TrailEntry
  pub after : List TrailEntry
  pub cut : ss ≡ before ++ step ∷ after
  pub lit : step.lit ≡ neg l
  pub free : IsFree (literals before) step.lit
  pub level : level_behind 0 ss l ≡ Some (level_after (before ++ step ∷ []))

pub placed : (e : EngineView) (l : ℕ) → IsEngine e → has (literals e.trail) (neg l) ≡ true → Placed e.trail l
placed e l k h =
    let r = stands e.trail (neg l) h in
    let new = (k.entries r.before r.after r.step r.cut).free in
    let v : var l ≡ var r.step.lit = sym (var-neg l) ∙ ap var (sym r.lit) in
    record {
      before = r.before;
      step = r.step;
      after = r.after;
      cut = r.cut;
      lit = r.lit;
      free = new;
      level = level-same_var 0 e.trail l r.step.lit v ∙ ap (λ z. level_behind 0 z r.step.lit) r.cut ∙ level-at r.before r.after r.step new;
    }

level_within : (before after : List TrailEntry) (s : TrailEntry) → level_after (before ++ s ∷ []) ≤ level_after (before ++ s ∷ after)
level_within before after s =
    let a : level_after ((before ++ s ∷ []) ++ after) ≡ level_after (before ++ s ∷ []) + level_after after = level_after-append (before ++ s ∷ []) after in
    let b : level_after ((before ++ s ∷ []) ++ after) ≡ level_after (before ++ s ∷ after) = ap level_after (append_assoc before (s ∷ []) after) in
    omega (arith, a, b)

-- a false literal stays false where its level isn't above the one that is gone back to, and is free else
pub stays-false : (e : EngineView) (l n d : ℕ) → IsEngine e → has (literals e.trail) (neg l) ≡ true → level_behind 0 e.trail l ≡ Some d → d ≤ n → has (literals (up_to_level n e.trail)) (neg l) ≡ true
stays-false e l n d k h is le =
    let r = placed e l k h in
    let same : level_after (r.before ++ r.step ∷ []) ≡ d = same_Some _ _ (sym r.level ∙ is) in
    subst (λ z. has (literals (up_to_level n z)) (neg l) ≡ true) (sym r.cut)
    (subst (λ z. has (literals (up_to_level n (r.before ++ r.step ∷ r.after))) z ≡ true) r.lit (stays-at n r.before r.after r.step (omega (arith, same, le))))

pub goes-free : (e : EngineView) (l n d : ℕ) → IsEngine e → has (literals e.trail) (neg l) ≡ true → level_behind 0 e.trail l ≡ Some d → n < d → IsFree (literals (up_to_level n e.trail)) l
goes-free e l n d k h is lt =
    let r = placed e l k h in
    let same : level_after (r.before ++ r.step ∷ []) ≡ d = same_Some _ _ (sym r.level ∙ is) in
    free-neg _ l (subst (λ z. IsFree (literals (up_to_level n z)) (neg l)) (sym r.cut)
    (subst (λ z. IsFree (literals (up_to_level n (r.before ++ r.step ∷ r.after))) z) r.lit (goes-at n r.before r.after r.step r.free (omega (arith, same, lt)))))

pub level-within : (e : EngineView) (l d : ℕ) → IsEngine e → has (literals e.trail) (neg l) ≡ true → level_behind 0 e.trail l ≡ Some d → d ≤ level_after e.trail
level-within e l d k h is =
    let r = placed e l k h in
    let same : level_after (r.before ++ r.step ∷ []) ≡ d = same_Some _ _ (sym r.level ∙ is) in
    let w = level_within r.before r.after r.step in
    let c : level_after e.trail ≡ level_after (r.before ++ r.step ∷ r.after) = ap level_after r.cut in
    omega (arith, same, w, c)

-- ---- A lemma whose first literal alone is of its level

module _ (e : EngineView) (is : IsEngine e) where
  -- the order stays on what is kept
  stays_before : (n : ℕ) (ks : List ℕ) (k m : ℕ) → CameBefore (literals e.trail) (neg m) (neg k) → has ks k ≡ false → Contains ks m → has (literals (up_to_level n e.trail)) (neg k) ≡ true
      → CameBefore (literals (up_to_level n e.trail)) (neg m) (neg k)
  stays_before n ks k m b f q h =
      let p = up_to_level-prefix n e.trail in
      before-front (up_to_level n e.trail) p.0 (neg m) (neg k) (subst (λ z. CameBefore (literals z) (neg m) (neg k)) p.1 b) h

  -- the literals from the second on are false at the second's level
  others_stay : (ms : List ℕ) → IsLatestFirst (literals e.trail) ms → IsOnce ms → ((m : ℕ) → Contains ms m → has (literals e.trail) (neg m) ≡ true)
      → (m : ℕ) → Contains ms m → has (literals (up_to_level (level_of_others e.trail ms) e.trail)) (neg m) ≡ true
  others_stay [] o u f m n = absurd (not_in_nil m n)
  others_stay (k ∷ ks) o u f m n =
      let r = placed e k is (f k (here k ks)) in
      let d = level_after (r.before ++ r.step ∷ []) in
      let at : level_of_others e.trail (k ∷ ks) ≡ d = ap (λ z. unwrap_or z 0) r.level in
      let second : has (literals (up_to_level (level_of_others e.trail (k ∷ ks)) e.trail)) (neg k) ≡ true = stays-false e k _ d is (f k (here k ks)) r.level (omega (arith, at)) in
      elim (here_or_there k m ks n) [
        | inl q ↦ subst (λ z. has (literals (up_to_level (level_of_others e.trail (k ∷ ks)) e.trail)) (neg z) ≡ true) q second
        | inr q ↦ before-has_earlier _ (neg m) (neg k) (stays_before _ ks k m (o.0 m q) u.0 q second)
      ]

  last_stays : (ms : List ℕ) → IsLatestFirst (literals e.trail) ms → IsOnce ms → ((m : ℕ) → Contains ms m → has (literals e.trail) (neg m) ≡ true)
      → (m : ℕ) → Contains (drop 1 ms) m → CameBefore (literals (up_to_level (level_of_others e.trail ms) e.trail)) (neg m) (neg (slice_index ms 0))
  last_stays [] o u f m n = absurd (not_in_nil m n)
  last_stays (k ∷ ks) o u f m n = stays_before _ ks k m (o.0 m n) u.0 n (others_stay (k ∷ ks) o u f k (here k ks))

  pub asserts : (l d : ℕ) (ms : List ℕ) → IsLatestFirst (literals e.trail) (l ∷ ms) → IsOnce (l ∷ ms) → ((m : ℕ) → Contains (l ∷ ms) m → has (literals e.trail) (neg m) ≡ true)
      → level_behind 0 e.trail l ≡ Some d → level_below e.trail (l ∷ ms) < d → CanAssert (with_trail e (up_to_level (level_below e.trail (l ∷ ms)) e.trail)) (l ∷ ms)
  asserts l d ms o u f at lt = record {
    some = omega arith;
    reserved = λ m n. let r = reserved-true e.vars e.trail (neg m) (new_entries e is) (f m n) in omega (arith, r);
    free = goes-free e l _ d is (f l (here l ms)) at lt;
    others = others_stay ms o.1 u.1 (λ m n. f m (there l m ms n));
    distinct = u;
    last = last_stays ms o.1 u.1 (λ m n. f m (there l m ms n));
  }

  pub goes_back : (l d : ℕ) (ms : List ℕ) → has (literals e.trail) (neg l) ≡ true → level_behind 0 e.trail l ≡ Some d → level_below e.trail (l ∷ ms) < d → level_below e.trail (l ∷ ms) < level_after e.trail
  goes_back l d ms h at lt = let w = level-within e l d is h at in omega (arith, w, lt)

  -- the level of the second literal is the one that is reached then
  level_stays_of : (ms : List ℕ) (n : ℕ) → n ≡ level_of_others e.trail ms → ((m : ℕ) → Contains ms m → has (literals e.trail) (neg m) ≡ true) → level_of_others (up_to_level n e.trail) ms ≡ n
  level_stays_of [] n q f = sym q
  level_stays_of (k ∷ ks) n q f =
      let r = placed e k is (f k (here k ks)) in
      let d = level_after (r.before ++ r.step ∷ []) in
      let at : level_of_others e.trail (k ∷ ks) ≡ d = ap (λ z. unwrap_or z 0) r.level in
      let h : has (literals (up_to_level n e.trail)) (neg k) ≡ true = stays-false e k n d is (f k (here k ks)) r.level (omega (arith, at, q)) in
      let p = up_to_level-prefix n e.trail in
      let same : level_behind 0 (up_to_level n e.trail) k ≡ level_behind 0 e.trail k =
      level-same_var 0 (up_to_level n e.trail) k (neg k) (sym (var-neg k)) ∙ sym (level-kept 0 (up_to_level n e.trail) p.0 (neg k) h)
      ∙ ap (λ z. level_behind 0 z (neg k)) (sym p.1) ∙ level-same_var 0 e.trail (neg k) k (var-neg k) in
      ap (λ z. unwrap_or z 0) same ∙ sym q

  pub level_stays : (l d : ℕ) (ms : List ℕ) → ((m : ℕ) → Contains (l ∷ ms) m → has (literals e.trail) (neg m) ≡ true) → level_behind 0 e.trail l ≡ Some d → level_below e.trail (l ∷ ms) < d
      → (level_after (up_to_level (level_below e.trail (l ∷ ms)) e.trail) ≡ level_below e.trail (l ∷ ms)) × (level_below (up_to_level (level_below e.trail (l ∷ ms)) e.trail) (l ∷ ms) ≡ level_below e.trail (l ∷ ms))
  level_stays l d ms f at lt =
      let b = goes_back l d ms (f l (here l ms)) at lt in
      (level_after-exactly _ e.trail (omega (arith, b)), level_stays_of ms _ refl (λ m n. f m (there l m ms n)))

-- ---- Literals that are taken of the trail's end

pub append_either : (ls : List ℕ) (l x : ℕ) → Contains (ls ++ l ∷ []) x → Contains ls x ⊎ (x ≡ l)
append_either [] l x m = elim (here_or_there l x [] m) [ inl q ↦ inr (sym q) | inr n ↦ absurd (not_in_nil x n) ]
append_either (y ∷ ls) l x m = elim (here_or_there y x (ls ++ l ∷ []) m) [
  | inl q ↦ inl (subst (λ z. Contains (y ∷ ls) z) q (here y ls))
  | inr n ↦ elim (append_either ls l x n) [ inl r ↦ inl (there y x ls r) | inr r ↦ inr r ]
]

pub append_left : (ls : List ℕ) (l x : ℕ) → Contains ls x → Contains (ls ++ l ∷ []) x
append_left [] l x m = absurd (not_in_nil x m)
append_left (y ∷ ls) l x m = elim (here_or_there y x ls m) [
  | inl q ↦ subst (λ z. Contains (y ∷ (ls ++ l ∷ [])) z) q (here y (ls ++ l ∷ []))
  | inr n ↦ there y x (ls ++ l ∷ []) (append_left ls l x n)
]

pub append_last : (ls : List ℕ) (l : ℕ) → Contains (ls ++ l ∷ []) l
append_last [] l = here l []
append_last (y ∷ ls) l = there y l (ls ++ l ∷ []) (append_last ls l)

once-push : (ls : List ℕ) (l : ℕ) → IsOnce ls → (Contains ls l → ⊥) → IsOnce (ls ++ l ∷ [])
once-push [] l u f = (refl, tt)
once-push (x ∷ ls) l u f = (
  lacks _ x (λ h. elim (pushed ls x l h) [
    | inl y ↦ both_ways _ u.0 y
    | inr y ↦ f (subst (λ z. Contains (x ∷ ls) z) y (here x ls))
  ]),
  once-push ls l u.1 (λ n. f (there x l ls n)),
)
  where
    pushed : (ls : List ℕ) (x l : ℕ) → has (ls ++ l ∷ []) x ≡ true → (has ls x ≡ true) ⊎ (x ≡ l)
    pushed ls x l h = elim (append_either ls l x (has_at _ x h)) [ inl y ↦ inl (has_from ls x y) | inr y ↦ inr y ]

order-push : (trues ls : List ℕ) (l : ℕ) → IsLatestFirst trues ls → ((m : ℕ) → Contains ls m → CameBefore trues (neg l) (neg m)) → IsLatestFirst trues (ls ++ l ∷ [])
order-push trues [] l o f = (λ m n. absurd (not_in_nil m n), tt)
order-push trues (x ∷ ls) l o f = (
  λ m n. elim (append_either ls l m n) [
    | inl y ↦ o.0 m y
    | inr y ↦ subst (λ z. CameBefore trues (neg z) (neg x)) (sym y) (f x (here x ls))
  ],
  order-push trues ls l o.1 (λ m n. f m (there x m ls n)),
)

pub picks-nothing : (ss : List TrailEntry) → IsPicked ss [] []
picks-nothing ss = record { order = tt; once = tt; behind = λ l m. absurd (not_in_nil l m) }

pub picks-skip : (before after : List TrailEntry) (s : TrailEntry) (ls : List ℕ) → IsPicked (before ++ s ∷ []) after ls → IsPicked before (s ∷ after) ls
picks-skip before after s ls p = record {
  order = subst (λ z. IsLatestFirst (literals z) ls) (append_assoc before (s ∷ []) after) p.order;
  once = p.once;
  behind = λ l m. or_right (nat_eq (neg l) s.lit) (has (literals after) (neg l)) (p.behind l m);
}

pub picks-keep : (e : EngineView) (before after : List TrailEntry) (s : TrailEntry) (ls : List ℕ) → IsEngine e → e.trail ≡ before ++ s ∷ after → IsPicked (before ++ s ∷ []) after ls → IsPicked before (s ∷ after) (ls ++ neg s.lit ∷ [])
picks-keep e before after s ls k at p =
    let q = picks-skip before after s ls p in
    let at2 : e.trail ≡ (before ++ s ∷ []) ++ after = at ∙ sym (append_assoc before (s ∷ []) after) in
    let fresh = (k.entries before after s at).free in
    record {
      order = order-push _ ls (neg s.lit) q.order (λ m n.
          let f = later-free e.vars e.trail (before ++ s ∷ []) after (neg m) (new_entries e k) at2 (p.behind m n) in
          subst (λ z. CameBefore (literals (before ++ s ∷ after)) z (neg m)) (sym (neg-neg s.lit)) (before-at before after s (neg m) fresh.0 f.0 (p.behind m n)));
      once = once-push ls (neg s.lit) p.once (λ n.
          let f = later-free e.vars e.trail (before ++ s ∷ []) after (neg (neg s.lit)) (new_entries e k) at2 (p.behind (neg s.lit) n) in
          both_ways _ f.0 (subst (λ z. has (literals (before ++ s ∷ [])) z ≡ true) (sym (neg-neg s.lit)) (has-back before (s ∷ []) s.lit (has-first s []))));
      behind = λ l m. elim (append_either ls (neg s.lit) l m) [
        | inl y ↦ q.behind l y
        | inr y ↦ subst (λ z. has (literals (s ∷ after)) z ≡ true) (sym (ap neg y ∙ neg-neg s.lit)) (has-first s after)
      ];
    }
