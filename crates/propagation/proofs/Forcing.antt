-- The literals that came on a trail without an assumption are forced, and where nothing more follows there are no others.
use Rattle.std.proofs.Common.{◌≡◌, ℕ, ◌+◌, true, false, nat_eq, Bool, List, [], ◌∷◌, ◌++◌, Contains, Option, Some, None, refl, sym, ◌∙◌, ap, subst, inl, inr, arith, eqb-true, eq-eqb, append_assoc}
use Rattle.std.proofs.lemmas.Bool.{cases_Bool, or_cases, or_left, or_right}
use Rattle.std.proofs.lemmas.List.{append-nil}
use Rattle.session_rules.specs.Logic.{has, is_unit, Propagates, trues_after, Forced}
use Rattle.propagation.specs.declared.TrailEntry.{TrailEntry}
use Rattle.propagation.specs.Clauses.{active}
use Rattle.propagation.specs.Engine.{EngineView, IsEngine, IsQuiet, IsPropagated, literals, level_after, up_to_level, with_trail}
use Rattle.propagation.proofs.ClausesMap.{Contains-active, at_active}
use Rattle.propagation.proofs.Closing.{Within, unit-within, has-push, quiet_unit}
use Rattle.propagation.proofs.Levels.{up_to_level-prefix, level_after-up_to_level}
use Rattle.propagation.proofs.Trail.{IsEngine-prefix, level_after-append}

-- an assumed entry raises the level
pub level_after-assumed : (before after : List TrailEntry) (s : TrailEntry) → s.reason ≡ None → 0 ≡ level_after (before ++ s ∷ after) → ⊥
level_after-assumed before after s r z = let e = level_after-append before (s ∷ after) in let f : level_after (s ∷ after) ≡ 1 + level_after after = rw r (omega arith) in absurd (omega (arith, e, f, z))

-- a sequence of propagations after which each of these literals is true
record Gives (cs : List (List ℕ)) (trues all : List ℕ) : Type 0 where
  pub entries : List (List ℕ × ℕ)
  pub right : Propagates cs trues entries
  pub each : Within all (trues_after trues entries)

gives-cons : (cs : List (List ℕ)) (trues all c : List ℕ) (l : ℕ) → Contains cs c → is_unit trues c l ≡ true → Gives cs (l ∷ trues) all → Gives cs trues all
gives-cons cs trues all c l m u g = record { entries = (c, l) ∷ g.entries; right = (m, u, g.right); each = g.each }

gives_along : (e : EngineView) → IsEngine e → level_after e.trail ≡ 0 → (before after : List TrailEntry) → e.trail ≡ before ++ after → (trues : List ℕ) → Within (literals before) trues → Gives (active e.clauses) trues (literals e.trail)
gives_along e k z before [] at trues w = record { entries = []; right = tt; each = λ q h. w q (subst (λ x. has (literals x) q ≡ true) (at ∙ append-nil before) h) }
gives_along e k z before (s ∷ after) at trues w = by_reason s.reason refl (gives_along e k z (before ++ s ∷ []) after (at ∙ sym (append_assoc before (s ∷ []) after)) (s.lit ∷ trues)
    (λ q h. elim (has-push before s q h) [ inl f ↦ or_right (nat_eq q s.lit) (has trues q) (w q f) | inr f ↦ or_left (nat_eq q s.lit) (has trues q) (eq-eqb q s.lit f) ]))
  where
    by_reason : (o : Option ℕ) → s.reason ≡ o → Gives (active e.clauses) (s.lit ∷ trues) (literals e.trail) → Gives (active e.clauses) trues (literals e.trail)
    by_reason None r g = absurd (level_after-assumed before after s r (sym (sym (ap level_after at) ∙ z)))
    by_reason (Some t) r g = let y = (k.entries before after s at).reason t r in
        gives-cons (active e.clauses) trues (literals e.trail) y.1 s.lit (Contains-active e.clauses y.0 y.1 y.3) (unit-within (literals before) trues y.1 s.lit w y.4) g

pub forced_without_assumption : (e : EngineView) (l : ℕ) → IsEngine e → level_after e.trail ≡ 0 → has (literals e.trail) l ≡ true → Forced (active e.clauses) l
forced_without_assumption e l k z h = let g = gives_along e k z [] e.trail refl [] (λ q f. f) in (g.entries, g.right, g.each l h)

pub forced_at_zero : (e : EngineView) (l : ℕ) → IsEngine e → has (literals (up_to_level 0 e.trail)) l ≡ true → Forced (active e.clauses) l
forced_at_zero e l k h =
    let p = up_to_level-prefix 0 e.trail in let z = level_after-up_to_level 0 e.trail in
    forced_without_assumption (with_trail e (up_to_level 0 e.trail)) l (IsEngine-prefix e (up_to_level 0 e.trail) p.0 k p.1) (omega (arith, z)) h

all_found : (cs : List (List ℕ)) (all : List ℕ) → ((c : List ℕ) → Contains cs c → IsQuiet all c) → (ps : List (List ℕ × ℕ)) (trues : List ℕ) → Within trues all → Propagates cs trues ps → Within (trues_after trues ps) all
all_found cs all q [] trues w h = w
all_found cs all q (p ∷ ps) trues w h =
    let found = quiet_unit all p.0 p.1 (q p.0 h.0) (unit-within trues all p.0 p.1 w h.1) in
    all_found cs all q ps (p.1 ∷ trues) (λ x k. elim (or_cases (nat_eq x p.1) (has trues x) k) [
      | inl f ↦ subst (λ z. has all z ≡ true) (sym (eqb-true x p.1 f)) found
      | inr f ↦ w x f
    ]) h.2

pub forced_found : (e : EngineView) (l : ℕ) → IsPropagated e → Forced (active e.clauses) l → has (literals e.trail) l ≡ true
forced_found e l p f = all_found (active e.clauses) (literals e.trail) (λ c m. let a = at_active e.clauses c m in p a.0 c a.1) f.0 [] (λ q h. cc h) f.1 l f.2

pub lacks : (b : Bool) → (b ≡ true → ⊥) → b ≡ false
lacks b h = elim (cases_Bool b) [ inl y ↦ absurd (h y) | inr n ↦ n ]
