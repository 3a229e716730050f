-- The reasons along a trail are hints that close.
use Rattle.std.proofs.Common.{◌≡◌, ℕ, ◌+◌, ◌⊎◌, List, [], ◌∷◌, ◌++◌, filter, Option, Some, None, refl, sym, ap, ◌∙◌, subst, inl, inr, true, false, not, nat_eq, ◌||◌, Contains, eqb-true, eq-eqb, ne_eqb, append_assoc}
use Rattle.std.specs.Prelude.{is_some}
use Rattle.std.specs.List.{list_all}
use Rattle.std.proofs.lemmas.List.{append-nil}
use Rattle.std.proofs.lemmas.Option.{same_Some}
use Rattle.std.proofs.lemmas.Bool.{cases_Bool, both_ways, and_parts, or_cases, or_left, or_right, not-true}
use Rattle.lits.specs.Literal.{neg}
use Rattle.lits.proofs.Literal.{neg-ne, neg_swap}
use Rattle.session_rules.specs.declared.Left.{Left}
use Rattle.session_rules.specs.declared.Left.TheVariants.{Falsified, UnitLiteral, Open}
use Rattle.session_rules.specs.Logic.{has, is_falsified, is_unit, is_tautology, left_of, left, hints_fail_from, hints_fail}
use Rattle.lits.proofs.Members.{here, there, all_at, all_from, any_from, filter_at, has_at}
use Rattle.session_rules.proofs.Closing.{only_member}
use Rattle.propagation.specs.declared.TrailEntry.{TrailEntry}
use Rattle.propagation.specs.Clauses.{Clauses, slot_of, active_at}
use Rattle.propagation.specs.Engine.{EngineView, IsEngine, literals, ReasonsAre, reason_named, IsFalseAt, AssumesFrom, IsOnce}
use Rattle.propagation.proofs.Closing.{Within, unit-within, falsified-within, has-push, consistent_trail}

-- ---- What is left of a clause

pub left_falsified_of : (ls : List ℕ) → ((x : ℕ) → Contains ls x → ⊥) → left_of ls ≡ Falsified
left_falsified_of [] h = refl
left_falsified_of (x ∷ ls) h = absurd (h x (here x ls))

pub left_falsified : (trues c : List ℕ) → is_falsified trues c ≡ true → left trues c ≡ Falsified
left_falsified trues c h = left_falsified_of _ (λ x n. let r = filter_at (λ m. not (has trues (neg m))) c x n in
    both_ways _ (not-true _ r.1) (all_at (λ m. has trues (neg m)) c x h r.0))

pub not_open : (ls : List ℕ) (l : ℕ) → ((m : ℕ) → Contains ls m → l ≡ m) → left_of ls ≡ Open → ⊥
not_open [] l h e = cc
not_open (x ∷ xs) l h e =
    let q : list_all (nat_eq x) xs ≡ true = all_from (nat_eq x) xs (λ m n. eq-eqb x m (sym (h x (here x xs)) ∙ h m (there x m xs n))) in
    let f : UnitLiteral x ≡ Open = rw q at e in cc f

-- of a clause with this unit, what isn't false is the unit
pub only : (trues c : List ℕ) (l : ℕ) → is_unit trues c l ≡ true → (m : ℕ) → Contains (filter (λ x. not (has trues (neg x))) c) m → l ≡ m
only trues c l u m n = let r = filter_at (λ x. not (has trues (neg x))) c m n in
    elim (or_cases _ _ (all_at (λ x. nat_eq l x || has trues (neg x)) c m (and_parts _ _ u).1 r.0)) [
      | inl y ↦ eqb-true l m y
      | inr y ↦ absurd (both_ways _ (not-true _ r.1) y)
    ]

-- ---- Along the trail

abbrev pub Consistent : List ℕ → Type 0
Consistent trues = (q : ℕ) → has trues q ≡ true → has trues (neg q) ≡ true → ⊥

pub consistent-cons : (trues : List ℕ) (l : ℕ) → Consistent trues → has trues (neg l) ≡ false → Consistent (l ∷ trues)
consistent-cons trues l k f q a b = elim (or_cases (nat_eq q l) (has trues q) a) [
  | inl y ↦ elim (or_cases (nat_eq (neg q) l) (has trues (neg q)) b) [
    | inl z ↦ neg-ne q (eqb-true q l y ∙ sym (eqb-true (neg q) l z))
    | inr z ↦ both_ways _ f (subst (λ w. has trues (neg w) ≡ true) (eqb-true q l y) z)
  ]
  | inr y ↦ elim (or_cases (nat_eq (neg q) l) (has trues (neg q)) b) [
    | inl z ↦ both_ways _ f (subst (λ w. has trues w ≡ true) (sym (neg_swap l q (sym (eqb-true (neg q) l z)))) y)
    | inr z ↦ k q y z
  ]
]

-- at a hint whose clause has this unit: it is false, or goes on
pub at_hint : (active : ℕ → Option (List ℕ)) (place id : ℕ) (trues c : List ℕ) (l : ℕ) (more : List ℕ) → active id ≡ Some c → is_unit trues c l ≡ true
    → (has trues (neg l) ≡ false → hints_fail_from active (place + 1) (l ∷ trues) more ≡ None) → (o : Left) → left trues c ≡ o → hints_fail_from active place trues (id ∷ more) ≡ None
unfolding hints_fail_from
at_hint active place id trues c l more at u next Falsified e = rw (at, e) refl
at_hint active place id trues c l more at u next (UnitLiteral x) e =
    let m = only_member _ x e in let same : l ≡ x = only trues c l u x m.0 in
    let r = filter_at (λ z. not (has trues (neg z))) c x m.0 in
    let free : has trues (neg l) ≡ false = subst (λ z. has trues (neg z) ≡ false) (sym same) (not-true _ r.1) in
    rw (at, e) (subst (λ z. hints_fail_from active (place + 1) (z ∷ trues) more ≡ None) same (next free))
at_hint active place id trues c l more at u next Open e = absurd (not_open _ l (only trues c l u) e)

pub at_conflict : (active : ℕ → Option (List ℕ)) (place id : ℕ) (trues c : List ℕ) → active id ≡ Some c → is_falsified trues c ≡ true → hints_fail_from active place trues (id ∷ []) ≡ None
unfolding hints_fail_from
at_conflict active place id trues c at f = rw (at, left_falsified trues c f) refl

hints_along : (e : EngineView) (ls tail : List ℕ) → IsEngine e → AssumesFrom e.trail ls
    → ((place : ℕ) (all : List ℕ) → Consistent all → Within (literals e.trail) all → Within ls all → hints_fail_from (active_at e.clauses) place all tail ≡ None)
    → (before after : List TrailEntry) → e.trail ≡ before ++ after → (ids : List ℕ) → ReasonsAre e.clauses after ids → (place : ℕ) (trues : List ℕ) → Consistent trues → Within (literals before) trues → Within ls trues
    → hints_fail_from (active_at e.clauses) place trues (ids ++ tail) ≡ None
hints_along e ls tail k a final before [] at ids is place trues con w v =
    subst (λ z. hints_fail_from (active_at e.clauses) place trues (z ++ tail) ≡ None) (sym is) (final place trues con (λ q h. w q (subst (λ z. has (literals z) q ≡ true) (at ∙ append-nil before) h)) v)
hints_along e ls tail k a final before (s ∷ after) at ids is place trues con w v = by_reason s.reason refl is
    (λ n more r. hints_along e ls tail k a final (before ++ s ∷ []) after (at ∙ sym (append_assoc before (s ∷ []) after)) more r place trues con
    (λ q h. elim (has-push before s q h) [ inl f ↦ w q f | inr f ↦ v q (subst (λ z. has ls z ≡ true) (sym f) (a before after s at n)) ]) v)
    (λ more r free. hints_along e ls tail k a final (before ++ s ∷ []) after (at ∙ sym (append_assoc before (s ∷ []) after)) more r (place + 1) (s.lit ∷ trues) (consistent-cons trues s.lit con free)
    (λ q h. elim (has-push before s q h) [ inl f ↦ or_right (nat_eq q s.lit) (has trues q) (w q f) | inr f ↦ or_left (nat_eq q s.lit) (has trues q) (eq-eqb q s.lit f) ])
    (λ q h. or_right (nat_eq q s.lit) (has trues q) (v q h)))
  where
    by_reason : (o : Option ℕ) → s.reason ≡ o → reason_named e.clauses o (ReasonsAre e.clauses after) ids
        → (s.reason ≡ None → (more : List ℕ) → ReasonsAre e.clauses after more → hints_fail_from (active_at e.clauses) place trues (more ++ tail) ≡ None)
        → ((more : List ℕ) → ReasonsAre e.clauses after more → has trues (neg s.lit) ≡ false → hints_fail_from (active_at e.clauses) (place + 1) (s.lit ∷ trues) (more ++ tail) ≡ None)
        → hints_fail_from (active_at e.clauses) place trues (ids ++ tail) ≡ None
    by_reason None r i assumed forced = assumed r ids i
    by_reason (Some t) r i assumed forced =
        let y = (k.entries before after s at).reason t r in
        let same : i.0 ≡ y.0 = k.slots_apart i.0 y.0 t i.3 y.2 in
        let here : active_at e.clauses i.0 ≡ Some y.1 = ap (active_at e.clauses) same ∙ y.3 in
        subst (λ z. hints_fail_from (active_at e.clauses) place trues (z ++ tail) ≡ None) (sym i.2)
        (at_hint (active_at e.clauses) place i.0 trues y.1 s.lit (i.1 ++ tail) here (unit-within (literals before) trues y.1 s.lit w y.4) (forced i.1 i.4) (left trues y.1) refl)

start_consistent : (ls : List ℕ) → is_tautology ls ≡ false → Consistent ls
start_consistent ls t q a b = both_ways _ t (any_from (λ m. has ls (neg m)) ls q (has_at ls q a) b)

-- the reasons along a trail and a false clause close from literals that have the assumed ones
pub hints_at_false : (e : EngineView) (ls ids : List ℕ) (s id : ℕ) → IsEngine e → AssumesFrom e.trail ls → ReasonsAre e.clauses e.trail ids → IsFalseAt e s → slot_of e.clauses id ≡ Some s
    → hints_fail (active_at e.clauses) ls (ids ++ id ∷ []) ≡ None
unfolding hints_fail
hints_at_false e ls ids s id k a is f slot = elim (cases_Bool (is_tautology ls)) [
  | inl y ↦ rw y refl
  | inr n ↦
      let same : id ≡ f.0 = k.slots_apart id f.0 s slot f.2 in
      rw n (hints_along e ls (id ∷ []) k a
      (λ place all con w v. at_conflict (active_at e.clauses) place id all f.1 (ap (active_at e.clauses) same ∙ f.3) (falsified-within (literals e.trail) all f.1 w f.4))
      [] e.trail refl ids is 1 ls (start_consistent ls n) (λ q h. cc h) (λ q h. h))
]

-- and so do the reasons alone where one of these literals is false
pub hints_at_opposite : (e : EngineView) (ls ids : List ℕ) (l : ℕ) → IsEngine e → AssumesFrom e.trail ls → ReasonsAre e.clauses e.trail ids → has ls l ≡ true → has (literals e.trail) (neg l) ≡ true
    → hints_fail (active_at e.clauses) ls ids ≡ None
unfolding hints_fail
hints_at_opposite e ls ids l k a is h o = elim (cases_Bool (is_tautology ls)) [
  | inl y ↦ rw y refl
  | inr n ↦ rw n (subst (λ z. hints_fail_from (active_at e.clauses) 1 ls z ≡ None) (append-nil ids) (hints_along e ls [] k a
      (λ place all con w v. absurd (con l (v l h) (w (neg l) o)))
      [] e.trail refl ids is 1 ls (start_consistent ls n) (λ q r. cc r) (λ q r. r)))
]

-- ---- No id twice

-- an id among the reasons of these literals is that of one of them
record Named (m : Clauses) (ss : List TrailEntry) (id : ℕ) : Type 0 where
  pub before : List TrailEntry
  pub after : List TrailEntry
  pub entry : TrailEntry
  pub split : ss ≡ before ++ entry ∷ after
  pub slot : ℕ
  pub reason : entry.reason ≡ Some slot
  pub at : slot_of m id ≡ Some slot

named_later : (m : Clauses) (s : TrailEntry) (ss : List TrailEntry) (id : ℕ) → Named m ss id → Named m (s ∷ ss) id
named_later m s ss id n = record { before = s ∷ n.before; after = n.after; entry = n.entry; split = ap (λ z. s ∷ z) n.split; slot = n.slot; reason = n.reason; at = n.at }

named : (m : Clauses) (ss : List TrailEntry) (ids : List ℕ) (id : ℕ) → ReasonsAre m ss ids → has ids id ≡ true → Named m ss id
named m [] ids id h n = let f : has [] id ≡ true = subst (λ z. has z id ≡ true) h n in cc f
named m (s ∷ ss) ids id h n = by_reason s.reason refl h n (λ more r k. named m ss more id r k)
  where
    by_reason : (o : Option ℕ) → s.reason ≡ o → reason_named m o (ReasonsAre m ss) ids → has ids id ≡ true → ((more : List ℕ) → ReasonsAre m ss more → has more id ≡ true → Named m ss id) → Named m (s ∷ ss) id
    by_reason None is r k next = named_later m s ss id (next ids r k)
    by_reason (Some t) is r k next = elim (or_cases (nat_eq id r.0) (has r.1 id) (subst (λ z. has z id ≡ true) r.2 k)) [
      | inl y ↦ record { before = []; after = ss; entry = s; split = refl; slot = t; reason = is; at = ap (slot_of m) (eqb-true id r.0 y) ∙ r.3 }
      | inr y ↦ named_later m s ss id (next r.1 r.4 y)
    ]

-- a literal that has come on the trail stays
has_middle : (before after : List TrailEntry) (s : TrailEntry) → has (literals (before ++ s ∷ after)) s.lit ≡ true
has_middle [] after s = or_left (nat_eq s.lit s.lit) (has (literals after) s.lit) (eq-eqb s.lit s.lit refl)
has_middle (b ∷ before) after s = or_right (nat_eq s.lit b.lit) (has (literals (before ++ s ∷ after)) s.lit) (has_middle before after s)

has_before : (xs ys : List TrailEntry) (q : ℕ) → has (literals xs) q ≡ true → has (literals (xs ++ ys)) q ≡ true
has_before [] ys q h = cc h
has_before (x ∷ xs) ys q h = elim (or_cases (nat_eq q x.lit) (has (literals xs) q) h) [
  | inl e ↦ or_left (nat_eq q x.lit) (has (literals (xs ++ ys)) q) e
  | inr n ↦ or_right (nat_eq q x.lit) (has (literals (xs ++ ys)) q) (has_before xs ys q n)
]

-- a clause with a true literal is no reason of a later one
clash : (e : EngineView) → IsEngine e → (b a b2 a2 : List TrailEntry) (s s2 : TrailEntry) (t id : ℕ) → e.trail ≡ b ++ s ∷ a → e.trail ≡ b2 ++ s2 ∷ a2 → has (literals b2) s.lit ≡ true
    → s.reason ≡ Some t → s2.reason ≡ Some t → ⊥
clash e k b a b2 a2 s s2 t id at at2 later r r2 =
    let one = (k.entries b a s at).reason t r in
    let step2 = k.entries b2 a2 s2 at2 in
    let two = step2.reason t r2 in
    let same : two.0 ≡ one.0 = k.slots_apart two.0 one.0 t two.2 one.2 in
    let clause : two.1 ≡ one.1 = same_Some _ _ (sym two.3 ∙ ap (active_at e.clauses) same ∙ one.3) in
    let member : Contains two.1 s.lit = subst (λ z. Contains z s.lit) (sym clause) (has_at one.1 s.lit (and_parts _ _ one.4).0) in
    elim (or_cases _ _ (all_at (λ x. nat_eq s2.lit x || has (literals b2) (neg x)) two.1 s.lit (and_parts _ _ two.4).1 member)) [
      | inl y ↦ both_ways _ step2.free.0 (subst (λ z. has (literals b2) z ≡ true) (sym (eqb-true s2.lit s.lit y)) later)
      | inr y ↦ consistent_trail e k s.lit (subst (λ z. has (literals z) s.lit ≡ true) (sym at2) (has_before b2 (s2 ∷ a2) s.lit later)) (subst (λ z. has (literals z) (neg s.lit) ≡ true) (sym at2) (has_before b2 (s2 ∷ a2) (neg s.lit) y))
    ]

once_along : (e : EngineView) → IsEngine e → (before after : List TrailEntry) → e.trail ≡ before ++ after → (ids : List ℕ) → ReasonsAre e.clauses after ids → IsOnce ids
once_along e k before [] at ids h = subst IsOnce (sym h) tt
once_along e k before (s ∷ after) at ids h = by_reason s.reason refl h (λ more r. once_along e k (before ++ s ∷ []) after (at ∙ sym (append_assoc before (s ∷ []) after)) more r)
  where
    by_reason : (o : Option ℕ) → s.reason ≡ o → reason_named e.clauses o (ReasonsAre e.clauses after) ids → ((more : List ℕ) → ReasonsAre e.clauses after more → IsOnce more) → IsOnce ids
    by_reason None is r next = next ids r
    by_reason (Some t) is r next = subst IsOnce (sym r.2) (
      elim (cases_Bool (has r.1 r.0)) [
        | inl y ↦
            let n = named e.clauses after r.1 r.0 r.4 y in
            let slot : n.slot ≡ t = same_Some _ _ (sym n.at ∙ r.3) in
            let at2 : e.trail ≡ (before ++ s ∷ n.before) ++ n.entry ∷ n.after = at ∙ ap (λ z. before ++ s ∷ z) n.split ∙ sym (append_assoc before (s ∷ n.before) (n.entry ∷ n.after)) in
            absurd (clash e k before after (before ++ s ∷ n.before) n.after s n.entry t r.0 at at2 (has_middle before n.before s) is (n.reason ∙ ap Some slot))
        | inr o ↦ o
      ],
      next r.1 r.4,
    )

has_push_other : (ids : List ℕ) (x id : ℕ) → has ids x ≡ false → nat_eq x id ≡ false → has (ids ++ id ∷ []) x ≡ false
has_push_other [] x id h a = rw a refl
has_push_other (y ∷ ids) x id h a = elim (cases_Bool (nat_eq x y)) [
  | inl z ↦ absurd (both_ways _ h (or_left (nat_eq x y) (has ids x) z))
  | inr z ↦ let r : has ids x ≡ false = rw z at h in rw z (has_push_other ids x id r a)
]

once_push : (ids : List ℕ) (id : ℕ) → IsOnce ids → has ids id ≡ false → IsOnce (ids ++ id ∷ [])
once_push [] id h n = (refl, tt)
once_push (x ∷ ids) id h n = elim (cases_Bool (nat_eq id x)) [
  | inl y ↦ absurd (both_ways _ n (or_left (nat_eq id x) (has ids id) y))
  | inr o ↦
      let rest : has ids id ≡ false = rw o at n in
      let apart : nat_eq x id ≡ false = ne_eqb x id (λ e. both_ways _ o (eq-eqb id x (sym e))) in
      (has_push_other ids x id h.0 apart, once_push ids id h.1 rest)
]

-- the reasons along a trail name no id twice
pub once_reasons : (e : EngineView) (ids : List ℕ) → IsEngine e → ReasonsAre e.clauses e.trail ids → IsOnce ids
once_reasons e ids k h = once_along e k [] e.trail refl ids h

-- nor with the id of a false clause
pub once_conflict : (e : EngineView) (ids : List ℕ) (s id : ℕ) → IsEngine e → ReasonsAre e.clauses e.trail ids → IsFalseAt e s → slot_of e.clauses id ≡ Some s → IsOnce (ids ++ id ∷ [])
once_conflict e ids s id k h f at = once_push ids id (once_reasons e ids k h) (elim (cases_Bool (has ids id)) [
  | inl y ↦
      let n = named e.clauses e.trail ids id h y in
      let one = (k.entries n.before n.after n.entry n.split).reason n.slot n.reason in
      let same : f.0 ≡ one.0 = k.slots_apart f.0 one.0 s f.2 (one.2 ∙ sym n.at ∙ at) in
      let clause : f.1 ≡ one.1 = same_Some _ _ (sym f.3 ∙ ap (active_at e.clauses) same ∙ one.3) in
      let member : Contains f.1 n.entry.lit = subst (λ z. Contains z n.entry.lit) (sym clause) (has_at one.1 n.entry.lit (and_parts _ _ one.4).0) in
      absurd (consistent_trail e k n.entry.lit (subst (λ z. has (literals z) n.entry.lit ≡ true) (sym n.split) (has_middle n.before n.after n.entry)) (all_at (λ x. has (literals e.trail) (neg x)) f.1 n.entry.lit f.4 member))
  | inr o ↦ o
])

-- ---- Only active clauses

pub active_reasons : (m : Clauses) (ss : List TrailEntry) (ids : List ℕ) → ReasonsAre m ss ids → (id : ℕ) → has ids id ≡ true → is_some (slot_of m id) ≡ true
active_reasons m ss ids h id y = let n = named m ss ids id h y in ap is_some n.at

has_pushed : (ids : List ℕ) (x id : ℕ) → has (ids ++ id ∷ []) x ≡ true → (has ids x ≡ true) ⊎ (x ≡ id)
has_pushed [] x id h = elim (or_cases (nat_eq x id) false h) [ inl y ↦ inr (eqb-true x id y) | inr n ↦ cc n ]
has_pushed (y ∷ ids) x id h = elim (or_cases (nat_eq x y) (has (ids ++ id ∷ []) x) h) [
  | inl e ↦ inl (or_left (nat_eq x y) (has ids x) e)
  | inr n ↦ elim (has_pushed ids x id n) [ inl f ↦ inl (or_right (nat_eq x y) (has ids x) f) | inr f ↦ inr f ]
]

pub active_conflict : (m : Clauses) (ss : List TrailEntry) (ids : List ℕ) (last s : ℕ) → ReasonsAre m ss ids → slot_of m last ≡ Some s → (id : ℕ) → has (ids ++ last ∷ []) id ≡ true → is_some (slot_of m id) ≡ true
active_conflict m ss ids last s h at id y = elim (has_pushed ids id last y) [
  | inl f ↦ active_reasons m ss ids h id f
  | inr f ↦ ap (λ z. is_some (slot_of m z)) f ∙ ap is_some at
]
