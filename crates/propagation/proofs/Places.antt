-- The place, the level and the reason of a literal, at its entry of the trail.
use Rattle.std.proofs.Common.{◌≡◌, ℕ, ◌+◌, ◌<◌, List, [], ◌∷◌, ◌++◌, length, Some, None, refl, sym, ap, ◌∙◌, subst, inl, inr, arith, true, false, nat_eq, eq-eqb, eqb-true, append_assoc, zero-add}
use Rattle.std.specs.List.{position_from}
use Rattle.std.proofs.lemmas.Iterator.Adapters.{position_from-zero}
use Rattle.std.proofs.lemmas.List.{map-append}
use Rattle.std.proofs.lemmas.Bool.{cases_Bool, both_ways, or_left}
use Rattle.std.proofs.lemmas.List.Quantifiers.{position-Some}
use Rattle.std.proofs.lemmas.Option.{none-some}
use Rattle.session_rules.specs.Logic.{has}
use Rattle.propagation.specs.declared.TrailEntry.{TrailEntry}
use Rattle.propagation.specs.Assigned.{IsAt, AreNew, raised}
use Rattle.propagation.specs.Engine.{EngineView, IsEngine, literals, level_after, level_behind, reason_in, place_in}
use Rattle.propagation.proofs.Assigning.{level-kept, level-new, level_after-push, reason_at}
use Rattle.propagation.proofs.Closing.{has-push_new}
use Rattle.propagation.proofs.Cuts.{at_index}
use Rattle.propagation.proofs.Trail.{new_entries, length-literals}

from-at : (before after : List ℕ) (l n : ℕ) → has before l ≡ false → position_from (nat_eq l) n (before ++ l ∷ after) ≡ Some (n + length before)
from-at [] after l n h = rw (eq-eqb l l refl) (ap Some (omega arith))
from-at (x ∷ before) after l n h = elim (cases_Bool (nat_eq l x)) [
  | inl y ↦ absurd (both_ways _ h (or_left (nat_eq l x) (has before l) y))
  | inr o ↦ let f : has before l ≡ false = rw o at h in rw o (from-at before after l (n + 1) f ∙ ap Some (omega arith))
]

from-none : (ls : List ℕ) (l n : ℕ) → has ls l ≡ false → position_from (nat_eq l) n ls ≡ None
from-none [] l n h = refl
from-none (x ∷ ls) l n h = elim (cases_Bool (nat_eq l x)) [
  | inl y ↦ absurd (both_ways _ h (or_left (nat_eq l x) (has ls l) y))
  | inr o ↦ let f : has ls l ≡ false = rw o at h in rw o (from-none ls l (n + 1) f)
]

from-some : (ls : List ℕ) (l n : ℕ) → has ls l ≡ true → (p : ℕ) × (position_from (nat_eq l) n ls ≡ Some p)
from-some [] l n h = cc h
from-some (x ∷ ls) l n h = elim (cases_Bool (nat_eq l x)) [
  | inl y ↦ (n, rw y refl)
  | inr o ↦ let f : has ls l ≡ true = rw o at h in let r = from-some ls l (n + 1) f in (r.0, rw o r.1)
]

-- a literal that isn't there has no place
pub place-none : (trues : List ℕ) (l : ℕ) → has trues l ≡ false → place_in trues l ≡ None
place-none trues l h = position_from-zero (nat_eq l) trues ∙ from-none trues l 0 h

-- the place of an entry's literal that doesn't come before
pub place-at : (before after : List TrailEntry) (s : TrailEntry) → has (literals before) s.lit ≡ false → place_in (literals (before ++ s ∷ after)) s.lit ≡ Some (length before)
place-at before after s h =
    ap (λ z. place_in z s.lit) (map-append (λ (t : TrailEntry). t.lit) before (s ∷ after))
    ∙ position_from-zero (nat_eq s.lit) (literals before ++ s.lit ∷ literals after)
    ∙ from-at (literals before) (literals after) s.lit 0 h ∙ ap Some (zero-add (length (literals before)) ∙ length-literals before)

pub place-read : (n : ℕ) (ss : List TrailEntry) (l place : ℕ) → AreNew n ss → IsAt ss l place → Some place ≡ place_in (literals ss) l
place-read n ss l place k at =
    sym ((λ i. place_in (literals (at.cut i)) (sym at.lit i)) ∙ place-at at.before at.after at.entry (k at.before at.after at.entry at.cut).free.0 ∙ ap Some (sym at.counted))

-- ---- At an entry of an engine's trail

pub entry_place : (e : EngineView) (before after : List TrailEntry) (s : TrailEntry) → IsEngine e → e.trail ≡ before ++ s ∷ after → place_in (literals e.trail) s.lit ≡ Some (length before)
entry_place e before after s k at = ap (λ z. place_in (literals z) s.lit) at ∙ place-at before after s (k.entries before after s at).free.0

pub entry_level : (e : EngineView) (before after : List TrailEntry) (s : TrailEntry) → IsEngine e → e.trail ≡ before ++ s ∷ after → level_behind 0 e.trail s.lit ≡ Some (level_after (before ++ s ∷ []))
entry_level e before after s k at =
    ap (λ z. level_behind 0 z s.lit) (at ∙ sym (append_assoc before (s ∷ []) after))
    ∙ level-kept 0 (before ++ s ∷ []) after s.lit (has-push_new before s) ∙ level-new 0 before s (k.entries before after s at).free ∙ ap (λ n. Some (raised n s.reason)) (zero-add (level_after before)) ∙ ap Some (sym (level_after-push before s))

pub entry_reason : (e : EngineView) (before after : List TrailEntry) (s : TrailEntry) → IsEngine e → e.trail ≡ before ++ s ∷ after → reason_in e.trail s.lit ≡ s.reason
entry_reason e before after s k at = ap (λ z. reason_in z s.lit) at ∙ reason_at e.vars before after s (subst (AreNew e.vars) at (new_entries e k))

-- ---- A literal with a place, and one without

pub place-below : (ss : List TrailEntry) (l place : ℕ) → Some place ≡ place_in (literals ss) l → place < length ss
place-below ss l place e = let r = position-Some (nat_eq l) (literals ss) place 0 (sym e) in omega (arith, r.0, length-literals ss)

pub place-entry : (ss : List TrailEntry) (l place : ℕ) → Some place ≡ place_in (literals ss) l → IsAt ss l place
place-entry ss l place e = let r = position-Some (nat_eq l) (literals ss) place 0 (sym e) in at_index ss l place (place-below ss l place e) (sym (eqb-true l _ r.1))

pub no_place-absent : (ss : List TrailEntry) (l : ℕ) → None ≡ place_in (literals ss) l → has (literals ss) l ≡ false
no_place-absent ss l e = elim (cases_Bool (has (literals ss) l)) [
  | inl y ↦ let r = from-some (literals ss) l 0 y in absurd (none-some r.0 (e ∙ position_from-zero (nat_eq l) (literals ss) ∙ r.1))
  | inr o ↦ o
]
