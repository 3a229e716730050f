-- A conversion grows by a step and its conversion, and a step without own faults finds the id that it names.
use Rattle.std.proofs.Common.{◌≡◌, ◌<◌, ℕ, ◌+◌, Bool, true, false, nat_lt, List, [], ◌∷◌, ◌++◌, Some, refl, sym, ◌∙◌, subst, inl, inr, append_assoc, append-nil, ltb-true}
use Rattle.std.specs.List.{list_any, position_from}
use Rattle.std.proofs.lemmas.Bool.{cases_Bool}
use Rattle.session_rules.specs.declared.Form.TheVariants.{Idrup}
use Rattle.session_rules.specs.declared.Rule.{Rule}
use Rattle.session_rules.specs.declared.Rule.TheVariants as rules
use Rattle.session_rules.specs.declared.Standing.{Standing}
use Rattle.session_rules.specs.declared.Step.{Step}
use Rattle.session_rules.specs.declared.Step.TheVariants as steps
use Rattle.session_rules.specs.declared.LStep.{LStep}
use Rattle.session_rules.specs.History.{broken_unless}
use Rattle.session_rules.specs.Own.{is_active, is_weakened, active_copies, weakened_copies, own_faults}
use Rattle.session_rules.specs.Verdicts.{OwnFault}
use Rattle.side_laws.specs.Sets.{is_such, given_by, named_id, how_many, finds, all_find}
use Rattle.side_laws.proofs.Given.{find-push, first-found, many-some, count-active, count-weakened}
use Rattle.elimination_laws.proofs.Accepting.{faultless_at}
use Rattle.conversion_laws.specs.Converted.{IsConvertedStep, AreConverted, IsConverted}

-- ---- One more step

grows_from : (ps before : List Step) (qs : List LStep) (p : Step) (q : LStep) → AreConverted before ps qs → IsConvertedStep (before ++ ps) p q → AreConverted before (ps ++ p ∷ []) (qs ++ q ∷ [])
grows_from [] before [] p q k c = (subst (λ z. IsConvertedStep z p q) (append-nil before) c, tt)
grows_from [] before (r ∷ qs) p q k c = absurd k
grows_from (o ∷ ps) before [] p q k c = absurd k
grows_from (o ∷ ps) before (r ∷ qs) p q k c = (k.0, grows_from ps (before ++ o ∷ []) qs p q k.1 (subst (λ z. IsConvertedStep z p q) (sym (append_assoc before (o ∷ []) ps)) c))

pub conversion_grows : (ps : List Step) (qs : List LStep) (p : Step) (q : LStep) → IsConverted ps qs → IsConvertedStep ps p q → IsConverted (ps ++ p ∷ []) (qs ++ q ∷ [])
conversion_grows ps qs p q k c = grows_from ps [] qs p q k c

-- ---- What is named is there

pub position_found : {X : Type 0} (test : X → Bool) (i : ℕ) (xs : List X) → list_any test xs ≡ true → (id : ℕ) × (position_from test i xs ≡ Some id)
position_found test i [] h = cc h
position_found test i (x ∷ xs) h = elim (cases_Bool (test x)) [
  | inl y ↦ (i, rw y refl)
  | inr n ↦ let r = position_found test (i + 1) xs (rw n at h) in (r.0, rw n r.1)
]

pub kept_is : (b : Bool) (r : Rule) → broken_unless b r ≡ [] → b ≡ true
kept_is true r h = refl
kept_is false r h = cc h

module _ (ps : List Step) (found : all_find [] ps ≡ true) (c : List ℕ) where
  some_such : (is_so : Standing → Bool) → 0 < how_many is_so c (given_by ps) → list_any (is_such is_so c) (given_by ps) ≡ true
  some_such is_so lt = let r = many-some is_so c (given_by ps) lt in first-found is_so c (given_by ps) r.0 r.1 r.2 r.3

  active_there : (rule : Rule) → broken_unless (nat_lt 0 (active_copies ps c)) rule ≡ [] → list_any (is_such is_active c) (given_by ps) ≡ true
  active_there rule h = some_such is_active (subst (λ z. 0 < z) (count-active ps found c) (ltb-true _ _ (kept_is _ rule h)))

  weakened_there : (rule : Rule) → broken_unless (nat_lt 0 (weakened_copies ps c)) rule ≡ [] → list_any (is_such is_weakened c) (given_by ps) ≡ true
  weakened_there rule h = some_such is_weakened (subst (λ z. 0 < z) (count-weakened ps found c) (ltb-true _ _ (kept_is _ rule h)))

pub step_finds : (ps : List Step) (p : Step) → all_find [] ps ≡ true → own_faults ps p ≡ [] → finds (given_by ps) p ≡ true
unfolding own_faults
step_finds ps (steps.Event e) found h = refl
step_finds ps (steps.Lemma c) found h = refl
step_finds ps (steps.Delete c) found h = active_there ps found c (rules.NotActive 1) h
step_finds ps (steps.Weaken c) found h = active_there ps found c (rules.NotActive 1) h
step_finds ps (steps.Restore c) found h = weakened_there ps found c (rules.NotWeakened 1) h

finds_along : (ps before : List Step) → all_find [] before ≡ true → ((front : List Step) (p : Step) (after : List Step) → before ++ ps ≡ front ++ p ∷ after → own_faults front p ≡ []) → all_find [] (before ++ ps) ≡ true
finds_along [] before found none = subst (λ z. all_find [] z ≡ true) (sym (append-nil before)) found
finds_along (p ∷ ps) before found none = let joined = append_assoc before (p ∷ []) ps in
    subst (λ z. all_find [] z ≡ true) joined (finds_along ps (before ++ p ∷ []) (find-push before p found (step_finds before p found (none before p ps refl)))
    (λ front q after e. none front q after (sym joined ∙ e)))

pub nothing_sought : all_find [] [] ≡ true
unfolding all_find
nothing_sought = refl

module _ (ps : List Step) (none : (k : ℕ) (rule : Rule) → OwnFault Idrup ps k rule → ⊥) where
  all_found : all_find [] ps ≡ true
  all_found = finds_along ps [] nothing_sought (faultless_at Idrup ps none)

  pub deletion_named : (c : List ℕ) → own_faults ps (steps.Delete c) ≡ [] → (id : ℕ) × (named_id ps (steps.Delete c) ≡ Some id)
  deletion_named c h = position_found (is_such is_active c) 1 (given_by ps) (step_finds ps (steps.Delete c) all_found h)

  pub weakening_named : (c : List ℕ) → own_faults ps (steps.Weaken c) ≡ [] → (id : ℕ) × (named_id ps (steps.Weaken c) ≡ Some id)
  weakening_named c h = position_found (is_such is_active c) 1 (given_by ps) (step_finds ps (steps.Weaken c) all_found h)

  pub restoring_named : (c : List ℕ) → own_faults ps (steps.Restore c) ≡ [] → (id : ℕ) × (named_id ps (steps.Restore c) ≡ Some id)
  restoring_named c h = position_found (is_such is_weakened c) 1 (given_by ps) (step_finds ps (steps.Restore c) all_found h)
