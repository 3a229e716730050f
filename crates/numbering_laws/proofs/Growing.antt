-- Steps that are known stay translated so when more variables come, and a core's first stranger is found literal by literal.
use Rattle.std.proofs.Common.{◌≡◌, ℕ, true, List, [], ◌∷◌, ◌++◌, Some, None, refl, ap, ◌∙◌, inl, inr}
use Rattle.std.specs.Prelude.{false}
use Rattle.std.proofs.lemmas.Bool.{cases_Bool, both_ways, and_parts, and_from}
use Rattle.lits.specs.Clause.{has}
use Rattle.lits.specs.Numbering.{is_known, are_known}
use Rattle.lits.proofs.Translated.{dense_lits-append, are_known-append, known_at}
use Rattle.session_rules.specs.declared.Event.{Event}
use Rattle.session_rules.specs.declared.Event.TheVariants as events
use Rattle.session_rules.specs.declared.Step.{Step}
use Rattle.session_rules.specs.declared.Step.TheVariants as steps
use Rattle.session_rules.specs.declared.LStep.{LStep}
use Rattle.session_rules.specs.declared.LStep.TheVariants as lsteps
use Rattle.session_rules.specs.History.{first_missing}
use Rattle.numbering_laws.specs.Dense.{dense_event, dense_step, dense_steps, dense_id_step, dense_id_steps, is_known_step, are_known_steps, is_known_id_step, are_known_id_steps, step_literals, id_step_literals}
use Rattle.numbering_laws.proofs.Events.{is_known_event}

module _ (vars more : List ℕ) where
  event-stays : (e : Event) → is_known_event vars e ≡ true → dense_event (vars ++ more) e ≡ dense_event vars e
  event-stays (events.Input c) k = ap events.Input (dense_lits-append vars more c k)
  event-stays (events.Query c) k = ap events.Query (dense_lits-append vars more c k)
  event-stays (events.Status s) k = refl
  event-stays (events.Model m) k = ap events.Model (dense_lits-append vars more m k)
  event-stays (events.Core u) k = ap events.Core (dense_lits-append vars more u k)
  event-stays (events.Values m) k = ap events.Values (dense_lits-append vars more m k)
  event-stays (events.Failed u) k = ap events.Failed (dense_lits-append vars more u k)

  step-stays : (p : Step) → is_known_step vars p ≡ true → dense_step (vars ++ more) p ≡ dense_step vars p
  step-stays (steps.Event e) k = ap steps.Event (event-stays e k)
  step-stays (steps.Lemma c) k = ap steps.Lemma (dense_lits-append vars more c k)
  step-stays (steps.Delete c) k = ap steps.Delete (dense_lits-append vars more c k)
  step-stays (steps.Weaken c) k = ap steps.Weaken (dense_lits-append vars more c k)
  step-stays (steps.Restore c) k = ap steps.Restore (dense_lits-append vars more c k)

  pub steps-stay : (ps : List Step) → are_known_steps vars ps ≡ true → dense_steps (vars ++ more) ps ≡ dense_steps vars ps
  steps-stay [] k = refl
  steps-stay (p ∷ ps) k = let parts = and_parts (is_known_step vars p) (are_known_steps vars ps) k in
      ap (λ z. z ∷ dense_steps (vars ++ more) ps) (step-stays p parts.0) ∙ ap (λ zs. dense_step vars p ∷ zs) (steps-stay ps parts.1)

  pub known-stay : (ps : List Step) → are_known_steps vars ps ≡ true → are_known_steps (vars ++ more) ps ≡ true
  known-stay [] k = refl
  known-stay (p ∷ ps) k = let parts = and_parts (is_known_step vars p) (are_known_steps vars ps) k in
      and_from _ _ (are_known-append vars more (step_literals p) parts.0) (known-stay ps parts.1)

  id_step-stays : (p : LStep) → is_known_id_step vars p ≡ true → dense_id_step (vars ++ more) p ≡ dense_id_step vars p
  id_step-stays (lsteps.Input id c) k = ap (lsteps.Input id) (dense_lits-append vars more c k)
  id_step-stays (lsteps.Lemma id c hs) k = ap (λ d. lsteps.Lemma id d hs) (dense_lits-append vars more c k)
  id_step-stays (lsteps.Delete is) k = refl
  id_step-stays (lsteps.Weaken is) k = refl
  id_step-stays (lsteps.Restore is) k = refl
  id_step-stays (lsteps.Query c) k = ap lsteps.Query (dense_lits-append vars more c k)
  id_step-stays (lsteps.Status s) k = refl
  id_step-stays (lsteps.Model m) k = ap lsteps.Model (dense_lits-append vars more m k)
  id_step-stays (lsteps.Core u hs) k = ap (λ d. lsteps.Core d hs) (dense_lits-append vars more u k)

  pub id_steps-stay : (ps : List LStep) → are_known_id_steps vars ps ≡ true → dense_id_steps (vars ++ more) ps ≡ dense_id_steps vars ps
  id_steps-stay [] k = refl
  id_steps-stay (p ∷ ps) k = let parts = and_parts (is_known_id_step vars p) (are_known_id_steps vars ps) k in
      ap (λ z. z ∷ dense_id_steps (vars ++ more) ps) (id_step-stays p parts.0) ∙ ap (λ zs. dense_id_step vars p ∷ zs) (id_steps-stay ps parts.1)

  pub ids-known-stay : (ps : List LStep) → are_known_id_steps vars ps ≡ true → are_known_id_steps (vars ++ more) ps ≡ true
  ids-known-stay [] k = refl
  ids-known-stay (p ∷ ps) k = let parts = and_parts (is_known_id_step vars p) (are_known_id_steps vars ps) k in
      and_from _ _ (are_known-append vars more (id_step_literals p) parts.0) (ids-known-stay ps parts.1)

-- ---- The first stranger of a core

-- what is missing at the front of a list is the first that is missing
pub missing-front : (ls after ms : List ℕ) (l : ℕ) → first_missing ls ms ≡ Some l → first_missing (ls ++ after) ms ≡ Some l
missing-front [] after ms l e = cc
missing-front (x ∷ xs) after ms l e = elim (cases_Bool (has ms x)) [
  | inl q ↦ let f : first_missing xs ms ≡ Some l = rw q at e in rw q (missing-front xs after ms l f)
  | inr q ↦ let f : Some x ≡ Some l = rw q at e in rw q f
]

-- behind literals that a known list has, one without a number is the first that it lacks
pub missing-unknown : (vars before : List ℕ) (l : ℕ) (after ms : List ℕ) → are_known vars ms ≡ true → is_known vars l ≡ false
    → first_missing before ms ≡ None → first_missing (before ++ l ∷ after) ms ≡ Some l
missing-unknown vars [] l after ms k n e = elim (cases_Bool (has ms l)) [
  | inl q ↦ absurd (both_ways _ n (known_at vars ms l k q))
  | inr q ↦ rw q refl
]
missing-unknown vars (x ∷ xs) l after ms k n e = elim (cases_Bool (has ms x)) [
  | inl q ↦ let f : first_missing xs ms ≡ None = rw q at e in rw q (missing-unknown vars xs l after ms k n f)
  | inr q ↦ let f : Some x ≡ None = rw q at e in absurd (cc f)
]
