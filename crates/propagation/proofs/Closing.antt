-- What a trail says of closing sequences.
use Rattle.std.proofs.Common.{◌≡◌, ℕ, ◌⊎◌, List, [], ◌∷◌, ◌++◌, Option, Some, None, refl, sym, ◌∙◌, subst, inl, inr, true, false, nat_eq, ◌||◌, Contains, eqb-true, eq-eqb, append_assoc}
use Rattle.std.specs.List.{list_any}
use Rattle.std.proofs.lemmas.List.{append-nil}
use Rattle.std.proofs.lemmas.Bool.{cases_Bool, both_ways, and_parts, and_from, or_cases, or_left, or_right}
use Rattle.lits.specs.Literal.{neg}
use Rattle.lits.proofs.Literal.{neg-ne, neg_swap}
use Rattle.session_rules.specs.Logic.{has, is_falsified, is_unit, is_tautology, is_closed, Propagates, trues_after, Closes}
use Rattle.lits.proofs.Members.{all_at, all_from, any_at, any_from, has_at, has_from}
use Rattle.session_rules.proofs.Closing.{Closes-cons}
use Rattle.session_rules.proofs.Rounds.{tautology-within}
use Rattle.propagation.specs.declared.TrailEntry.{TrailEntry}
use Rattle.propagation.specs.Clauses.{active}
use Rattle.propagation.specs.Engine.{EngineView, IsEngine, IsFree, IsQuiet, IsPropagated, IsFalseAt, AssumesFrom, literals}
use Rattle.propagation.specs.Assigned.{AreNew}
use Rattle.propagation.proofs.ClausesMap.{Contains-active, at_active}
use Rattle.propagation.proofs.Trail.{new_entries}

-- each of these literals is among those
abbrev pub Within : List ℕ → List ℕ → Type 0
Within ls ms = (l : ℕ) → has ls l ≡ true → has ms l ≡ true

pub falsified-within : (trues all c : List ℕ) → Within trues all → is_falsified trues c ≡ true → is_falsified all c ≡ true
falsified-within trues all c w h = all_from (λ m. has all (neg m)) c (λ m n. w (neg m) (all_at (λ x. has trues (neg x)) c m h n))

pub unit-within : (trues all c : List ℕ) (l : ℕ) → Within trues all → is_unit trues c l ≡ true → is_unit all c l ≡ true
unit-within trues all c l w h = let r = and_parts _ _ h in
    and_from _ _ r.0 (all_from (λ m. nat_eq l m || has all (neg m)) c (λ m n. elim (or_cases _ _ (all_at (λ x. nat_eq l x || has trues (neg x)) c m r.1 n)) [
      | inl y ↦ or_left _ _ y
      | inr y ↦ or_right _ _ (w (neg m) y)
    ]))

-- ---- Nothing follows: no closing sequence

-- of a quiet clause, the literal of a unit is true
pub quiet_unit : (all c : List ℕ) (l : ℕ) → IsQuiet all c → is_unit all c l ≡ true → has all l ≡ true
quiet_unit all c l q u = elim (cases_Bool (has all l)) [
  | inl y ↦ y
  | inr n ↦ elim (cases_Bool (has all (neg l))) [
    | inl y ↦ absurd (both_ways _ q.not_false (all_from (λ m. has all (neg m)) c (λ m k. elim (or_cases _ _ (all_at (λ x. nat_eq l x || has all (neg x)) c m (and_parts _ _ u).1 k)) [
      | inl e ↦ subst (λ z. has all (neg z) ≡ true) (eqb-true l m e) y
      | inr e ↦ e
    ])))
    | inr o ↦ absurd (q.not_unit l u (n, o))
  ]
]

never_closed : (cs : List (List ℕ)) (all : List ℕ) → ((c : List ℕ) → Contains cs c → IsQuiet all c) → is_tautology all ≡ false
    → (ps : List (List ℕ × ℕ)) (trues : List ℕ) → Within trues all → Propagates cs trues ps → is_closed cs (trues_after trues ps) ≡ true → ⊥
never_closed cs all q t [] trues w h e = elim (or_cases _ _ e) [
  | inl y ↦ both_ways _ t (tautology-within trues all w y)
  | inr y ↦ let c = any_at (is_falsified trues) cs y in both_ways _ (q c.0 c.1).not_false (falsified-within trues all c.0 w c.2)
]
never_closed cs all q t (p ∷ ps) trues w h e =
    let true_too = quiet_unit all p.0 p.1 (q p.0 h.0) (unit-within trues all p.0 p.1 w h.1) in
    never_closed cs all q t ps (p.1 ∷ trues) (λ x k. elim (or_cases _ _ k) [
      | inl f ↦ subst (λ z. has all z ≡ true) (sym (eqb-true x p.1 f)) true_too
      | inr f ↦ w x f
    ]) h.2 e

-- a set of literals that has the first ones and no opposite pair, and under which no clause is false or a free unit,
-- admits no closing sequence from these
pub no_closing : (cs : List (List ℕ)) (ls all : List ℕ) → ((c : List ℕ) → Contains cs c → IsQuiet all c) → is_tautology all ≡ false → Within ls all → Closes cs ls → ⊥
no_closing cs ls all q t w r = never_closed cs all q t r.0 ls w r.1 r.2

-- ---- A trail has no opposite literals

pub has-push : (ss : List TrailEntry) (s : TrailEntry) (q : ℕ) → has (literals (ss ++ s ∷ [])) q ≡ true → (has (literals ss) q ≡ true) ⊎ (q ≡ s.lit)
has-push [] s q h = elim (or_cases (nat_eq q s.lit) false h) [ inl y ↦ inr (eqb-true q s.lit y) | inr n ↦ cc n ]
has-push (x ∷ ss) s q h = elim (or_cases (nat_eq q x.lit) (has (literals (ss ++ s ∷ [])) q) h) [
  | inl e ↦ inl (or_left (nat_eq q x.lit) (has (literals ss) q) e)
  | inr n ↦ elim (has-push ss s q n) [ inl f ↦ inl (or_right (nat_eq q x.lit) (has (literals ss) q) f) | inr f ↦ inr f ]
]

pub has-push_old : (ss : List TrailEntry) (s : TrailEntry) (q : ℕ) → has (literals ss) q ≡ true → has (literals (ss ++ s ∷ [])) q ≡ true
has-push_old [] s q h = cc h
has-push_old (x ∷ ss) s q h = elim (or_cases (nat_eq q x.lit) (has (literals ss) q) h) [
  | inl e ↦ or_left (nat_eq q x.lit) (has (literals (ss ++ s ∷ [])) q) e
  | inr n ↦ or_right (nat_eq q x.lit) (has (literals (ss ++ s ∷ [])) q) (has-push_old ss s q n)
]

pub has-push_new : (ss : List TrailEntry) (s : TrailEntry) → has (literals (ss ++ s ∷ [])) s.lit ≡ true
has-push_new [] s = or_left (nat_eq s.lit s.lit) false (eq-eqb s.lit s.lit refl)
has-push_new (x ∷ ss) s = or_right (nat_eq s.lit x.lit) (has (literals (ss ++ s ∷ [])) s.lit) (has-push_new ss s)

abbrev pub Consistent : List TrailEntry → Type 0
Consistent ss = (l : ℕ) → has (literals ss) l ≡ true → has (literals ss) (neg l) ≡ true → ⊥

consistent-push : (ss : List TrailEntry) (s : TrailEntry) → Consistent ss → IsFree (literals ss) s.lit → Consistent (ss ++ s ∷ [])
consistent-push ss s k free = λ l h n. elim (has-push ss s l h) [
  | inl a ↦ elim (has-push ss s (neg l) n) [
    | inl b ↦ k l a b
    | inr b ↦ both_ways _ free.1 (subst (λ z. has (literals ss) z ≡ true) (sym (neg_swap s.lit l (sym b))) a)
  ]
  | inr a ↦ elim (has-push ss s (neg l) n) [
    | inl b ↦ both_ways _ free.1 (subst (λ z. has (literals ss) (neg z) ≡ true) a b)
    | inr b ↦ neg-ne l (a ∙ sym b)
  ]
]

consistent : (n : ℕ) (ss before after : List TrailEntry) → AreNew n ss → ss ≡ before ++ after → Consistent before → Consistent ss
consistent n ss before [] k at h = subst Consistent (sym (at ∙ append-nil before)) h
consistent n ss before (s ∷ after) k at h =
    consistent n ss (before ++ s ∷ []) after k (at ∙ sym (append_assoc before (s ∷ []) after)) (consistent-push before s h (k before after s at).free)

pub new-consistent : (n : ℕ) (ss : List TrailEntry) → AreNew n ss → Consistent ss
new-consistent n ss k = consistent n ss [] ss k refl (λ l h n. cc h)

pub consistent_trail : (e : EngineView) → IsEngine e → Consistent e.trail
consistent_trail e k = new-consistent e.vars e.trail (new_entries e k)

pub trail-consistent : (e : EngineView) → IsEngine e → is_tautology (literals e.trail) ≡ false
trail-consistent e k = elim (cases_Bool (is_tautology (literals e.trail))) [
  | inl y ↦ let r = any_at (λ l. has (literals e.trail) (neg l)) (literals e.trail) y in
      absurd (consistent_trail e k r.0 (has_from (literals e.trail) r.0 r.1) r.2)
  | inr n ↦ n
]

-- where nothing follows of a trail that has the literals, there is no closing sequence from them
pub no_closing-propagated : (e : EngineView) (ls : List ℕ) → IsEngine e → IsPropagated e → Within ls (literals e.trail) → Closes (active e.clauses) ls → ⊥
no_closing-propagated e ls k p w r = no_closing (active e.clauses) ls (literals e.trail) (λ c h. let a = at_active e.clauses c h in p a.0 c a.1) (trail-consistent e k) w r

-- ---- The trail is a sequence of propagations

along : (e : EngineView) (ls : List ℕ) → IsEngine e → AssumesFrom e.trail ls → (before after : List TrailEntry) → e.trail ≡ before ++ after → (trues : List ℕ)
    → Within (literals before) trues → Within ls trues → ((all : List ℕ) → Within (literals e.trail) all → Within ls all → is_closed (active e.clauses) all ≡ true)
    → Closes (active e.clauses) trues
along e ls k a before [] at trues w v final = ([], tt, final trues (λ q h. w q (subst (λ z. has (literals z) q ≡ true) (at ∙ append-nil before) h)) v)
along e ls k a before (s ∷ after) at trues w v final = by_reason s.reason refl
    (λ n. along e ls k a (before ++ s ∷ []) after (at ∙ sym (append_assoc before (s ∷ []) after)) trues
    (λ q h. elim (has-push before s q h) [ inl f ↦ w q f | inr f ↦ v q (subst (λ z. has ls z ≡ true) (sym f) (a before after s at n)) ]) v final)
    (along e ls k a (before ++ s ∷ []) after (at ∙ sym (append_assoc before (s ∷ []) after)) (s.lit ∷ trues)
    (λ q h. elim (has-push before s q h) [ inl f ↦ or_right (nat_eq q s.lit) (has trues q) (w q f) | inr f ↦ or_left (nat_eq q s.lit) (has trues q) (eq-eqb q s.lit f) ])
    (λ q h. or_right (nat_eq q s.lit) (has trues q) (v q h)) final)
  where
    by_reason : (o : Option ℕ) → s.reason ≡ o → (s.reason ≡ None → Closes (active e.clauses) trues) → Closes (active e.clauses) (s.lit ∷ trues) → Closes (active e.clauses) trues
    by_reason None r assumed forced = assumed r
    by_reason (Some t) r assumed forced = let y = (k.entries before after s at).reason t r in
        Closes-cons (active e.clauses) trues y.1 s.lit (Contains-active e.clauses y.0 y.1 y.3) (unit-within (literals before) trues y.1 s.lit w y.4) forced

closing_along : (e : EngineView) (ls : List ℕ) → IsEngine e → AssumesFrom e.trail ls → ((all : List ℕ) → Within (literals e.trail) all → Within ls all → is_closed (active e.clauses) all ≡ true) → Closes (active e.clauses) ls
closing_along e ls k a final = along e ls k a [] e.trail refl ls (λ q h. cc h) (λ q h. h) final

-- a false clause gives a closing sequence from literals that have the assumed ones
pub closing_at_false : (e : EngineView) (ls : List ℕ) (s : ℕ) → IsEngine e → AssumesFrom e.trail ls → IsFalseAt e s → Closes (active e.clauses) ls
closing_at_false e ls s k a f = closing_along e ls k a (λ all w v. or_right (is_tautology all) (list_any (is_falsified all) (active e.clauses))
    (any_from (is_falsified all) (active e.clauses) f.1 (Contains-active e.clauses f.0 f.1 f.3) (falsified-within (literals e.trail) all f.1 w f.4)))

-- and so does one of them whose negation is true
pub closing_at_opposite : (e : EngineView) (ls : List ℕ) (l : ℕ) → IsEngine e → AssumesFrom e.trail ls → has ls l ≡ true → has (literals e.trail) (neg l) ≡ true → Closes (active e.clauses) ls
closing_at_opposite e ls l k a h n = closing_along e ls k a (λ all w v. or_left (is_tautology all) (list_any (is_falsified all) (active e.clauses))
    (any_from (λ m. has all (neg m)) all l (has_at all l (v l h)) (w (neg l) n)))
