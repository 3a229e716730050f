-- Lemmas that no active clause is a part of, and how this is kept.
use Rattle.std.proofs.Common.{◌≡◌, ◌≢◌, ℕ, ◌<◌, ◌⊎◌, true, false, ◌||◌, nat_eq, List, [], ◌∷◌, ◌++◌, Contains, Some, None, refl, sym, ◌∙◌, ap, subst, inl, inr, arith, eqb-true, eq-eqb, append_assoc}
use Rattle.std.specs.Prelude.{unwrap_or, drop, slice_index, option_and_then, is_none}
use Rattle.std.proofs.lemmas.Bool.{cases_Bool, both_ways, and_parts, and_from, or_cases, or_left, or_right}
use Rattle.std.proofs.lemmas.Option.{same_Some}
use Rattle.std.specs.Cmp.{nat_cmp_total}
use Rattle.std.specs.FinMap.{insert, get, get-insert}
use Rattle.lits.specs.Literal.{neg}
use Rattle.lits.specs.Clause.{set_of, is_part, is_tautology}
use Rattle.session_rules.specs.Logic.{has, is_unit, is_falsified}
use Rattle.lits.proofs.Literal.{neg-neg, neg-ne}
use Rattle.lits.proofs.Members.{here, there, not_in_nil, here_or_there, all_at, all_from, has_from}
use Rattle.lits.proofs.Sets.{part_at, tautology_at}
use Rattle.lits.proofs.Ascending.{has-set_of}
use Rattle.propagation.specs.declared.TrailEntry.{TrailEntry}
use Rattle.propagation.specs.Clauses.{Clauses, active_at, if_active}
use Rattle.propagation.specs.Engine.{EngineView, IsEngine, IsFree, IsQuiet, IsPropagated, Grows, literals, level_after, up_to_level, with_trail, with_entry, with_clauses, added_clause}
use Rattle.propagation.proofs.ClausesMap.{quiet_same}
use Rattle.propagation.proofs.Changes.{ties, differs, cases}
use Rattle.propagation.proofs.Closing.{consistent_trail}
use Rattle.propagation.proofs.Levels.{up_to_level-prefix, up_to_level-assumed}
use Rattle.propagation.proofs.Trail.{cut_push}
use Rattle.search_laws.specs.Asserting.{CanAssert, level_below}
use Rattle.search_laws.specs.Freshness.{AreLevelsPropagated, IsFresh}
use Rattle.propagation.proofs.Parts.{free-front}
use Rattle.search_laws.proofs.Placing.{cut-below, split_parts, level_after-assumed}
use Rattle.search_laws.proofs.Asserting.{placed, goes-free}

-- ---- A lemma that may be asserted where propagation had ended

-- a literal of the lemma is the first or is false
member : (ls : List ℕ) (m : ℕ) → Contains ls m → (slice_index ls 0 ≡ m) ⊎ Contains (drop 1 ls) m
member [] m n = absurd (not_in_nil m n)
member (l ∷ ls) m n = here_or_there l m ls n

no_part_of : (e : EngineView) (ls c : List ℕ) → CanAssert e ls → IsQuiet (literals e.trail) c → is_part c ls ≡ true → ⊥
no_part_of e ls c a q p = elim (cases_Bool (has c (slice_index ls 0))) [
  | inl y ↦ q.not_unit (slice_index ls 0) (and_from _ _ y (all_from _ c (λ m n. elim (member ls m (part_at c ls p m n)) [
    | inl r ↦ or_left _ _ (eq-eqb (slice_index ls 0) m r)
    | inr r ↦ or_right _ _ (a.others m r)
  ]))) a.free
  | inr o ↦ both_ways _ q.not_false (all_from _ c (λ m n. elim (member ls m (part_at c ls p m n)) [
    | inl r ↦ absurd (both_ways _ o (has_from c (slice_index ls 0) (subst (λ z. Contains c z) (sym r) n)))
    | inr r ↦ a.others m r
  ]))
]

no_opposite : (e : EngineView) (ls : List ℕ) → IsEngine e → CanAssert e ls → (l : ℕ) → Contains ls l → Contains ls (neg l) → ⊥
no_opposite e ls k a l m n = elim (member ls l m) [
  | inl p ↦ elim (member ls (neg l) n) [
    | inl q ↦ neg-ne l (sym p ∙ q)
    | inr q ↦ both_ways _ a.free.0 (subst (λ z. has (literals e.trail) z ≡ true) (neg-neg l ∙ sym p) (a.others (neg l) q))
  ]
  | inr p ↦ elim (member ls (neg l) n) [
    | inl q ↦ both_ways _ a.free.0 (subst (λ z. has (literals e.trail) z ≡ true) (sym q) (a.others l p))
    | inr q ↦ consistent_trail e k (neg l) (a.others l p) (a.others (neg l) q)
  ]
]

pub fresh : (e : EngineView) (ls : List ℕ) → IsEngine e → IsPropagated e → CanAssert e ls → IsFresh e ls
fresh e ls k p a = record {
  no_part = λ id c at. elim (cases_Bool (is_part c ls)) [ inl y ↦ absurd (no_part_of e ls c a (p id c at) y) | inr n ↦ n ];
  no_tautology = elim (cases_Bool (is_tautology ls)) [
    | inl y ↦ let t = tautology_at ls y in absurd (no_opposite e ls k a t.0 t.1 t.2)
    | inr n ↦ n
  ];
}

-- ---- Propagation had ended before each assumed literal

-- so it had where the trail is cut below the present level
pub ended_below : (e : EngineView) (n : ℕ) → AreLevelsPropagated e → n < level_after e.trail → IsPropagated (with_trail e (up_to_level n e.trail))
ended_below e n p h = let c = cut-below n e.trail h in p (up_to_level n e.trail) c.after c.step c.cut c.assumed

pub ended-zero : (e : EngineView) → level_after e.trail ≡ 0 → AreLevelsPropagated e
ended-zero e z before after s at r = let k = level_after-assumed before after s r in let a : level_after e.trail ≡ level_after (before ++ s ∷ after) = ap level_after at in absurd (omega (arith, z, k, a))

pub ended-assume : (e : EngineView) (l : ℕ) → AreLevelsPropagated e → IsPropagated e → AreLevelsPropagated (with_entry e l None)
ended-assume e l p q before after s at r = elim (cut_push e.trail (record { lit = l; reason = None }) before after s at) [
  | inl y ↦ subst (λ z. IsPropagated (with_trail e z)) (sym y.0) q
  | inr y ↦ p before y.0 s y.1 r
]

pub ended-grows : (e new : EngineView) → AreLevelsPropagated e → Grows e new → AreLevelsPropagated new
ended-grows e new p g = subst AreLevelsPropagated (sym g.1) (λ before after s at r. elim (split_parts e.trail g.0 before after s at) [
  | inl y ↦ p before y.0 s y.1 r
  | inr y ↦
      let k = level_after-assumed y.0 after s r in let a : level_after g.0 ≡ level_after (y.0 ++ s ∷ after) = ap level_after y.1 in let z = g.2 in
      absurd (omega (arith, z, k, a))
])

pub ended-back : (e : EngineView) (n : ℕ) → AreLevelsPropagated e → AreLevelsPropagated (with_trail e (up_to_level n e.trail))
ended-back e n p before after s at r = let c = up_to_level-prefix n e.trail in
    p before (after ++ c.0) s (c.1 ∙ ap (λ z. z ++ c.0) at ∙ append_assoc before (s ∷ after) c.0) r

-- ---- A lemma that is asserted

-- the unit of a clause is each of its literals that isn't false
only_open : (trues ls : List ℕ) (l x : ℕ) → is_unit trues ls l ≡ true → Contains ls x → has trues (neg x) ≡ false → l ≡ x
only_open trues ls l x u k h = elim (or_cases _ _ (all_at (λ y. nat_eq l y || has trues (neg y)) ls x (and_parts _ _ u).1 k)) [
  | inl y ↦ eqb-true l x y
  | inr y ↦ absurd (both_ways _ h y)
]

-- of a clause with two literals that aren't false nothing follows
two_open : (trues ls : List ℕ) (a b : ℕ) → Contains ls a → Contains ls b → a ≢ b → has trues (neg a) ≡ false → has trues (neg b) ≡ false → IsQuiet trues ls
two_open trues ls a b m n d f g = record {
  not_false = elim (cases_Bool (is_falsified trues ls)) [
    | inl y ↦ absurd (both_ways _ f (all_at (λ x. has trues (neg x)) ls a y m))
    | inr o ↦ o
  ];
  not_unit = λ l u free. d (sym (only_open trues ls l a u m f) ∙ only_open trues ls l b u n g);
}

-- before an assumed literal two of the lemma's literals aren't false
open_before : (e : EngineView) (ls : List ℕ) → IsEngine e → CanAssert e ls → level_below e.trail ls ≡ level_after e.trail
    → (before after : List TrailEntry) (s : TrailEntry) → e.trail ≡ before ++ s ∷ after → s.reason ≡ None → IsQuiet (literals before) ls
open_before e [] k a lv before after s at r = absurd (omega (arith, a.some))
open_before e (l ∷ []) k a lv before after s at r =
    let z = level_after-assumed before after s r in let y : level_after e.trail ≡ level_after (before ++ s ∷ after) = ap level_after at in
    absurd (omega (arith, lv, z, y))
open_before e (l ∷ m ∷ ms) k a lv before after s at r =
    let f : has (literals e.trail) (neg m) ≡ true = a.others m (here m ms) in
    let t = placed e m k f in
    let d : ℕ = level_after (t.before ++ t.step ∷ []) in
    let top : d ≡ level_after e.trail = sym (ap (λ z. unwrap_or z 0) t.level) ∙ lv in
    let z = level_after-assumed before after s r in let y : level_after e.trail ≡ level_after (before ++ s ∷ after) = ap level_after at in
    let here_is : up_to_level (level_after before) e.trail ≡ before = ap (up_to_level (level_after before)) at ∙ up_to_level-assumed before after s (ap is_none r) in
    let second : IsFree (literals before) m = subst (λ w. IsFree (literals w) m) here_is (goes-free e m (level_after before) d k f t.level (omega (arith, top, z, y))) in
    let first : IsFree (literals before) l = free-front before (s ∷ after) l (subst (λ w. IsFree (literals w) l) at a.free) in
    two_open (literals before) (l ∷ m ∷ ms) l m (here l (m ∷ ms)) (there l m (m ∷ ms) (here m ms))
    (λ q. both_ways _ a.distinct.0 (or_left (nat_eq l m) (has ms l) (eq-eqb l m q))) first.1 second.1

-- the clauses with one more
active-insert : (m : Clauses) (id s q : ℕ) (ls c : List ℕ) → active_at (insert m id (added_clause ls s)) q ≡ Some c → (c ≡ set_of ls) ⊎ (active_at m q ≡ Some c)
active-insert m id s q ls c at = elim (cases q id) [
  | inl y ↦
      let e : get (insert m id (added_clause ls s)) q ≡ Some (added_clause ls s) = rw (y, get-insert nat_cmp_total, ties id) refl in
      let f : active_at (insert m id (added_clause ls s)) q ≡ Some (set_of ls) = ap (option_and_then if_active) e in
      inl (same_Some _ _ (sym at ∙ f))
  | inr n ↦
      let e : get (insert m id (added_clause ls s)) q ≡ get m q = rw (get-insert nat_cmp_total, differs q id n) refl in
      inr (sym (ap (option_and_then if_active) e) ∙ at)
]

pub ended-assert : (e : EngineView) (ls : List ℕ) (id s : ℕ) → IsEngine e → AreLevelsPropagated e → CanAssert e ls → level_below e.trail ls ≡ level_after e.trail
    → AreLevelsPropagated (with_entry (with_clauses e (insert e.clauses id (added_clause ls s))) (slice_index ls 0) (Some s))
ended-assert e ls id s k p a lv before after t at r = elim (cut_push e.trail (record { lit = slice_index ls 0; reason = Some s }) before after t at) [
  | inl y ↦ let f : Some s ≡ None = sym (ap (λ (z : TrailEntry). z.reason) y.1) ∙ r in cc f
  | inr y ↦ λ q c has_c. elim (active-insert e.clauses id s q ls c has_c) [
    | inl z ↦ subst (λ w. IsQuiet (literals before) w) (sym z) (quiet_same (literals before) ls (set_of ls) (λ x. sym (has-set_of ls x)) (open_before e ls k a lv before y.0 t y.1 r))
    | inr z ↦ p before y.0 t y.1 r q c z
  ]
]
