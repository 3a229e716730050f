-- Each proof without own faults has a conversion.
use Rattle.std.proofs.Common.{◌≡◌, ℕ, true, false, List, [], ◌∷◌, ◌++◌, map, refl, subst}
use Rattle.lits.specs.Literal.{neg}
use Rattle.session_rules.specs.declared.Form.TheVariants.{Idrup}
use Rattle.session_rules.specs.declared.Phase.{Phase}
use Rattle.session_rules.specs.declared.Event.{Event}
use Rattle.session_rules.specs.declared.Event.TheVariants as events
use Rattle.session_rules.specs.declared.Rule.{Rule}
use Rattle.session_rules.specs.declared.Rule.TheVariants as rules
use Rattle.session_rules.specs.declared.Step.{Step}
use Rattle.session_rules.specs.declared.Step.TheVariants as steps
use Rattle.session_rules.specs.declared.LStep.{LStep}
use Rattle.session_rules.specs.declared.LStep.TheVariants as lsteps
use Rattle.session_rules.specs.Logic.{closes}
use Rattle.session_rules.specs.History.{phase, fits_phase, order_faults, core_faults, broken_unless}
use Rattle.session_rules.specs.Own.{events_of, active_clauses, own_faults}
use Rattle.session_rules.specs.Verdicts.{OwnFault}
use Rattle.session_rules.proofs.Closing.{Closes-from_closes}
use Rattle.side_laws.specs.Sets.{given_by, next_id, all_find}
use Rattle.side_laws.proofs.Given.{find-push}
use Rattle.elimination_laws.proofs.Accepting.{faultless_at}
use Rattle.conversion_laws.specs.Converted.{IsConvertedStep, input, lemma, deletion, weakening, restoring, query, status, model, core, AreConverted, IsConverted}
use Rattle.conversion_laws.proofs.Joined.{parts_nil}
use Rattle.conversion_laws.proofs.Converting.{AreClean, clean-from}
use Rattle.conversion_laws.proofs.Growing.{kept_is, position_found, step_finds, nothing_sought}
use Rattle.conversion_laws.proofs.Finding.{hints_are_there}

never_fits : (ps : List Step) (e : Event) → fits_phase e (phase (events_of ps)) ≡ false → order_faults (events_of ps) e ≡ [] → ⊥
never_fits ps e f h = let g : broken_unless false rules.Order ≡ [] = subst (λ b. broken_unless b rules.Order ≡ []) f h in cc g

module _ (ps : List Step) (found : all_find [] ps ≡ true) where
  lemma_converted : (c : List ℕ) → broken_unless (closes (active_clauses ps) (map neg c)) rules.Lemma ≡ [] → (q : LStep) × IsConvertedStep ps (steps.Lemma c) q
  lemma_converted c h = let r = hints_are_there ps found (map neg c) (Closes-from_closes (active_clauses ps) (map neg c) (kept_is _ rules.Lemma h)) in
      (lsteps.Lemma (next_id ps) c r.0, lemma c r.0 r.1)

  core_converted : (u : List ℕ) → order_faults (events_of ps) (events.Core u) ++ core_faults (events_of ps) u ++ broken_unless (closes (active_clauses ps) u) rules.CoreOpen ≡ []
      → (q : LStep) × IsConvertedStep ps (steps.Event (events.Core u)) q
  core_converted u h = let parts = parts_nil (order_faults (events_of ps) (events.Core u) ++ core_faults (events_of ps) u) _ h in
      let r = hints_are_there ps found u (Closes-from_closes (active_clauses ps) u (kept_is _ rules.CoreOpen parts.1)) in (lsteps.Core u r.0, core u r.0 r.1)

  never_values : (c : List ℕ) (p : Phase) → fits_phase (events.Values c) p ≡ false
  never_values c p = refl

  never_failed : (c : List ℕ) (p : Phase) → fits_phase (events.Failed c) p ≡ false
  never_failed c p = refl

  step_converted : (p : Step) → own_faults ps p ≡ [] → (q : LStep) × IsConvertedStep ps p q
  unfolding own_faults
  step_converted (steps.Event (events.Input c)) h = (lsteps.Input (next_id ps) c, input c)
  step_converted (steps.Event (events.Query c)) h = (lsteps.Query c, query c)
  step_converted (steps.Event (events.Status w)) h = (lsteps.Status w, status w)
  step_converted (steps.Event (events.Model m)) h = (lsteps.Model m, model m)
  step_converted (steps.Event (events.Core u)) h = core_converted u h
  step_converted (steps.Event (events.Values c)) h = absurd (never_fits ps (events.Values c) (never_values c (phase (events_of ps))) h)
  step_converted (steps.Event (events.Failed c)) h = absurd (never_fits ps (events.Failed c) (never_failed c (phase (events_of ps))) h)
  step_converted (steps.Lemma c) h = lemma_converted c h
  step_converted (steps.Delete c) h = let r = position_found _ 1 (given_by ps) (step_finds ps (steps.Delete c) found h) in (lsteps.Delete (r.0 ∷ []), deletion c r.0 r.1)
  step_converted (steps.Weaken c) h = let r = position_found _ 1 (given_by ps) (step_finds ps (steps.Weaken c) found h) in (lsteps.Weaken (r.0 ∷ []), weakening c r.0 r.1)
  step_converted (steps.Restore c) h = let r = position_found _ 1 (given_by ps) (step_finds ps (steps.Restore c) found h) in (lsteps.Restore (r.0 ∷ []), restoring c r.0 r.1)

all_converted : (ps before : List Step) → all_find [] before ≡ true → AreClean own_faults before ps → (qs : List LStep) × AreConverted before ps qs
all_converted [] before found c = ([], tt)
all_converted (p ∷ ps) before found c = let q = step_converted before found p c.0 in
    let rest = all_converted ps (before ++ p ∷ []) (find-push before p found (step_finds before p found c.0)) c.1 in (q.0 ∷ rest.0, (q.1, rest.1))

pub conversion_exists : (ps : List Step) → ((k : ℕ) (rule : Rule) → OwnFault Idrup ps k rule → ⊥) → (qs : List LStep) × IsConverted ps qs
conversion_exists ps none = all_converted ps [] nothing_sought (clean-from own_faults ps [] (faultless_at Idrup ps none))
