-- The laws of proofs without own faults, from what each step keeps.
use Rattle.std.proofs.Common.{◌≡◌, ℕ, suc, ◌<◌, ◌⊎◌, Bool, true, false, List, [], ◌∷◌, ◌++◌, length, map, filter, filter_map, Option, Some, IsTrue, refl, sym, ap, ◌∙◌, subst, inl, inr, append_assoc, append-nil}
use Rattle.std.proofs.lemmas.Bool.{and_parts, and_from, or_cases, cases_Bool}
use Rattle.std.proofs.lemmas.List.Sums.{length-filter}
use Rattle.lits.specs.Literal.{neg}
use Rattle.session_rules.specs.declared.Rule.{Rule}
use Rattle.session_rules.specs.declared.Rule.TheVariants as rules
use Rattle.session_rules.specs.declared.Standing.TheVariants.{Active, Weakened, Absent}
use Rattle.session_rules.specs.declared.Event.{Event}
use Rattle.session_rules.specs.declared.Event.TheVariants as events
use Rattle.session_rules.specs.declared.Step.{Step}
use Rattle.session_rules.specs.declared.Step.TheVariants as steps
use Rattle.session_rules.specs.declared.LStep.{LStep}
use Rattle.session_rules.specs.declared.LStep.TheVariants as lsteps
use Rattle.session_rules.specs.Logic.{has, is_part, same_set, satisfies, satisfies_clause, satisfies_each, Implies, Contradicts, IsSatisfiable}
use Rattle.session_rules.specs.History.{inputs, assumed, order_faults, model_faults, core_faults}
use Rattle.session_rules.specs.Own.{added_clause, removed_clause, weakened_clause, restored_clause, copies, active_copies, weakened_copies, events_of, own_faults, standing_after, clause_of, id_events_of, own_id_faults}
use Rattle.lits.proofs.Members.{all_at, all_from, has_at}
use Rattle.session_rules.proofs.Closing.{satisfies-neg}
use Rattle.session_laws.specs.Keeping.{WithoutOwnFaults}
use Rattle.session_laws.proofs.Justified.{Entails, Justified, justified-push}
use Rattle.session_laws.proofs.IdsJustified.{IdsJustified, ids-justified-push, none_broken, first_nil}
use Rattle.session_laws.proofs.Certify.{missing_none, own_part, same_history, model_certified}
use Rattle.session_laws.proofs.Accepted.{nothing_justified, no_ids_justified, sound_event, sound_with_ids}

-- ---- From step to step

module _ {S : Type 0} (faults : List S → S → List Rule) (Holds : List S → Type 0)
    (push : (ps : List S) (p : S) → faults ps p ≡ [] → Holds ps → Holds (ps ++ p ∷ [])) where
  kept_along : (before rest : List S) → Holds before → WithoutOwnFaults faults (before ++ rest) → Holds (before ++ rest)
  kept_along before [] j w = subst Holds (sym (append-nil before)) j
  kept_along before (p ∷ rest) j w =
      let joined = append_assoc before (p ∷ []) rest in
      subst Holds joined (kept_along (before ++ p ∷ []) rest (push before p (w before rest p refl) j) (subst (WithoutOwnFaults faults) (sym joined) w))

pub justified : (ps : List Step) → WithoutOwnFaults own_faults ps → Justified ps
justified ps w = kept_along own_faults Justified justified-push [] ps nothing_justified w

pub ids_justified : (ps : List LStep) → WithoutOwnFaults own_id_faults ps → IdsJustified ps
ids_justified ps w = kept_along own_id_faults IdsJustified ids-justified-push [] ps no_ids_justified w

-- ---- Nothing is lost

-- an assignment that satisfies a clause doesn't satisfy all its negations
not_both : (v : ℕ → Bool) (c : List ℕ) → satisfies_clause v c ≡ true → satisfies_each v (map neg c) ≡ true → ⊥
not_both v [] h k = cc h
not_both v (l ∷ ls) h k = let parts = and_parts (satisfies v (neg l)) (satisfies_each v (map neg ls)) k in
    elim (or_cases (satisfies v l) (satisfies_clause v ls) h) [
      | inl e ↦ satisfies-neg v l e parts.0
      | inr e ↦ not_both v ls e parts.1
    ]

implied : (cs : List (List ℕ)) (c : List ℕ) → Entails cs c → Implies cs c
implied cs c h = λ v f t. not_both v c (h v f) t

pub sets_kept : (ps : List Step) → WithoutOwnFaults own_faults ps → (c : List ℕ) → (0 < active_copies ps c) ⊎ (0 < weakened_copies ps c) → Implies (inputs (events_of ps)) c
sets_kept ps w c h = implied (inputs (events_of ps)) c (justified ps w c h)

pub ids_kept : (ps : List LStep) → WithoutOwnFaults own_id_faults ps → (id : ℕ) (c : List ℕ) → (standing_after ps id ≡ Active) ⊎ (standing_after ps id ≡ Weakened)
    → clause_of ps id ≡ Some c → Implies (inputs (id_events_of ps)) c
ids_kept ps w id c h is = implied (inputs (id_events_of ps)) c (ids_justified ps w id c (λ a. elim h [ inl e ↦ not_absent (sym e ∙ a) | inr e ↦ weak_not_absent (sym e ∙ a) ]) is)
  where
    not_absent : Active ≡ Absent → ⊥
    not_absent e = cc

    weak_not_absent : Weakened ≡ Absent → ⊥
    weak_not_absent e = cc

-- ---- Models and cores

model_of : (es : List Event) (m : List ℕ) → model_faults es m ≡ [] → IsSatisfiable (inputs es) (assumed es ++ m)
model_of es m kept = model_certified es es m m (same_history es) kept (own_part m)

pub model_satisfies : (ps : List Step) (m : List ℕ) → own_faults ps (steps.Event (events.Model m)) ≡ [] → IsSatisfiable (inputs (events_of ps)) (assumed (events_of ps) ++ m)
unfolding own_faults
model_satisfies ps m h = model_of (events_of ps) m (first_nil (order_faults (events_of ps) (events.Model m)) _ h).1

pub model_with_ids_satisfies : (ps : List LStep) (m : List ℕ) → own_id_faults ps (lsteps.Model m) ≡ [] → IsSatisfiable (inputs (id_events_of ps)) (assumed (id_events_of ps) ++ m)
unfolding own_id_faults
model_with_ids_satisfies ps m h = model_of (id_events_of ps) m (first_nil (order_faults (id_events_of ps) (events.Model m)) _ h).1

-- a core without a stranger has assumptions alone
core_assumed : (es : List Event) (u : List ℕ) → core_faults es u ≡ [] → is_part u (assumed es) ≡ true
core_assumed es u h = missing_none u (assumed es) (none_broken rules.CoreStranger _ h)

pub core_contradicts : (ps : List Step) (u : List ℕ) → WithoutOwnFaults own_faults ps → own_faults ps (steps.Event (events.Core u)) ≡ []
    → IsTrue (is_part u (assumed (events_of ps))) × Contradicts (inputs (events_of ps)) u
core_contradicts ps u w h = let r = sound_event ps (events.Core u) h (justified ps w) in (core_assumed (events_of ps) u r.1.0, r.1.1)

pub core_with_ids_contradicts : (ps : List LStep) (u hs : List ℕ) → WithoutOwnFaults own_id_faults ps → own_id_faults ps (lsteps.Core u hs) ≡ []
    → IsTrue (is_part u (assumed (id_events_of ps))) × Contradicts (inputs (id_events_of ps)) u
core_with_ids_contradicts ps u hs w h = let r = sound_with_ids ps (lsteps.Core u hs) (events.Core u) refl h (ids_justified ps w) in
    (core_assumed (id_events_of ps) u r.1.0, r.1.1)

-- ---- Copies of sets

same_sets_pass : (c d e : List ℕ) → same_set c d ≡ true → same_set c e ≡ same_set d e
same_sets_pass c d e h = let back : same_set d c ≡ true = same_set-sym c d h in
    equal_tests _ _ (λ k. same_set-trans d c e back k) (λ k. same_set-trans c d e h k)
  where
    part-trans : (ls ms ns : List ℕ) → is_part ls ms ≡ true → is_part ms ns ≡ true → is_part ls ns ≡ true
    part-trans ls ms ns p q = all_from (has ns) ls (λ l k. all_at (has ns) ms l q (has_at ms l (all_at (has ms) ls l p k)))

    same_set-sym : (c d : List ℕ) → same_set c d ≡ true → same_set d c ≡ true
    same_set-sym c d h = let parts = and_parts (is_part c d) (is_part d c) h in and_from _ _ parts.1 parts.0

    same_set-trans : (c d e : List ℕ) → same_set c d ≡ true → same_set d e ≡ true → same_set c e ≡ true
    same_set-trans c d e h k = let a = and_parts (is_part c d) (is_part d c) h in let b = and_parts (is_part d e) (is_part e d) k in
        and_from _ _ (part-trans c d e a.0 b.0) (part-trans e d c b.1 a.1)

    equal_tests : (a b : Bool) → (a ≡ true → b ≡ true) → (b ≡ true → a ≡ true) → a ≡ b
    equal_tests true b f g = sym (f refl)
    equal_tests false true f g = g refl
    equal_tests false false f g = refl

copies_same : (given : Step → Option (List ℕ)) (ps : List Step) (c d : List ℕ) → same_set c d ≡ true → copies given ps c ≡ copies given ps d
copies_same given ps c d h = sym (length-filter (same_set c) (filter_map given ps)) ∙ counted (filter_map given ps) ∙ length-filter (same_set d) (filter_map given ps)
  where
    counted : (es : List (List ℕ)) → length (filter (same_set c) es) ≡ length (filter (same_set d) es)
    counted [] = refl
    counted (e ∷ es) = let same = same_sets_pass c d e h in elim (cases_Bool (same_set d e)) [
      | inl q ↦ let p : same_set c e ≡ true = same ∙ q in rw (p, q) (ap suc (counted es))
      | inr q ↦ let p : same_set c e ≡ false = same ∙ q in rw (p, q) (counted es)
    ]

pub active_same : (ps : List Step) (c d : List ℕ) → same_set c d ≡ true → active_copies ps c ≡ active_copies ps d
active_same ps c d h = rw (copies_same added_clause ps c d h, copies_same removed_clause ps c d h) refl

pub weakened_same : (ps : List Step) (c d : List ℕ) → same_set c d ≡ true → weakened_copies ps c ≡ weakened_copies ps d
weakened_same ps c d h = rw (copies_same weakened_clause ps c d h, copies_same restored_clause ps c d h) refl
