-- The steps before the first fault are the first steps of a proof, and have no own fault.
use Rattle.std.proofs.Common.{◌≡◌, ℕ, List, [], ◌∷◌, ◌++◌, Contains, Result, Ok, Err, refl, sym, ◌∙◌, ap, subst, inl, inr, append_assoc, append-nil}
use Rattle.std.proofs.lemmas.Bool.{cases_Bool}
use Rattle.lits.proofs.Members.{not_in_nil}
use Rattle.session_rules.specs.declared.Form.{Form}
use Rattle.session_rules.specs.declared.Rule.{Rule}
use Rattle.session_rules.specs.Lines.{Line, is_nil}
use Rattle.session_rules.specs.Reading.{value_of, values_of}
use Rattle.session_rules.specs.Verdicts.{StepOf, rules_of, body, steps_in, OwnFault}
use Rattle.session_rules.proofs.Positions.{said}
use Rattle.conversion_laws.specs.Judged.{kept_from, kept_steps, IsJudged}
use Rattle.conversion_laws.proofs.Joined.{said-ok}
use Rattle.conversion_laws.proofs.Matching.{nil_from}
use Rattle.conversion_laws.proofs.Converting.{AreClean, clean-at}
use Rattle.conversion_laws.proofs.Judging.{kept-ok, kept-err}

module _ (form : Form) where
  abbrev faults : List (StepOf form) → StepOf form → List Rule
  faults = (rules_of form).faults

  clean-push : (ps before : List (StepOf form)) (p : StepOf form) → AreClean faults before ps → faults (before ++ ps) p ≡ [] → AreClean faults before (ps ++ p ∷ [])
  clean-push [] before p c h = (subst (λ z. faults z p ≡ []) (append-nil before) h, tt)
  clean-push (q ∷ ps) before p c h = (c.0, clean-push ps (before ++ q ∷ []) p c.1 (subst (λ z. faults z p ≡ []) (sym (append_assoc before (q ∷ []) ps)) h))

  -- what is kept behind these steps
  record KeptBehind (steps : List (StepOf form)) (ls : List Line) : Type 0 where
    more : List (StepOf form)
    is_first : steps ++ said (rules_of form).read ls ≡ kept_from form steps ls ++ more
    clean : AreClean faults [] (kept_from form steps ls)

  kept_end : (steps : List (StepOf form)) → AreClean faults [] steps → KeptBehind steps []
  unfolding kept_from values_of
  kept_end steps c = record { more = []; is_first = refl; clean = c }

  stops : (steps : List (StepOf form)) (ls : List Line) → AreClean faults [] steps → kept_from form steps ls ≡ steps → KeptBehind steps ls
  stops steps ls c e = record {
    more = said (rules_of form).read ls;
    is_first = ap (λ z. z ++ said (rules_of form).read ls) (sym e);
    clean = subst (AreClean faults []) (sym e) c;
  }

  kept_more : (b : List ℕ) (steps : List (StepOf form)) (line : Line) (ls : List Line) → AreClean faults [] steps
      → ((p : StepOf form) → AreClean faults [] (steps ++ p ∷ []) → KeptBehind (steps ++ p ∷ []) ls)
      → (v : Result (StepOf form) Rule) → value_of (rules_of form).read line ≡ v → KeptBehind steps (line ∷ ls)
  kept_more b steps line ls c next (Err r) e = stops steps (line ∷ ls) c (kept-err form b steps line ls r e)
  kept_more b steps line ls c next (Ok p) e = elim (cases_Bool (is_nil (faults steps p))) [
    | inl y ↦ let r = next p (clean-push steps [] p c (nil_from (faults steps p) y)) in
        let k : kept_from form steps (line ∷ ls) ≡ kept_from form (steps ++ p ∷ []) ls = kept-ok form b steps line ls p e ∙ rw y refl in record {
          more = r.more;
          is_first = ap (λ z. steps ++ z) (said-ok (rules_of form).read line ls p e) ∙ sym (append_assoc steps (p ∷ []) (said (rules_of form).read ls)) ∙ r.is_first ∙ ap (λ z. z ++ r.more) (sym k);
          clean = subst (AreClean faults []) (sym k) r.clean;
        }
    | inr n ↦ stops steps (line ∷ ls) c (kept-ok form b steps line ls p e ∙ rw n refl)
  ]

  kept_behind : (b : List ℕ) (ls : List Line) (steps : List (StepOf form)) → AreClean faults [] steps → KeptBehind steps ls
  kept_behind b [] steps c = kept_end steps c
  kept_behind b (l ∷ ls) steps c = kept_more b steps l ls c (λ p d. kept_behind b ls (steps ++ p ∷ []) d) (value_of (rules_of form).read l) refl

  module _ (b : List ℕ) where
    all_kept : KeptBehind [] (body b)
    all_kept = kept_behind b (body b) [] tt

    pub kept_are_first : (more : List (StepOf form)) × (steps_in form b ≡ kept_steps form b ++ more)
    kept_are_first = (all_kept.more, all_kept.is_first)

    pub kept_have_none : (k : ℕ) (rule : Rule) → OwnFault form (kept_steps form b) k rule → ⊥
    kept_have_none k rule f = not_in_nil rule (subst (λ z. Contains z rule) (clean-at faults (kept_steps form b) [] all_kept.clean k f.step f.is_step) f.breaks)

-- ---- Steps that are judged

kept_nothing : (form : Form) (steps : List (StepOf form)) → kept_from form steps [] ≡ steps
unfolding kept_from
kept_nothing form steps = refl

begins_more : (form : Form) (b : List ℕ) (line : Line) (ls : List Line) (steps : List (StepOf form)) → ((p : StepOf form) → (more : List (StepOf form)) × (kept_from form (steps ++ p ∷ []) ls ≡ (steps ++ p ∷ []) ++ more))
    → (v : Result (StepOf form) Rule) → value_of (rules_of form).read line ≡ v → (more : List (StepOf form)) × (kept_from form steps (line ∷ ls) ≡ steps ++ more)
begins_more form b line ls steps next (Err r) e = ([], kept-err form b steps line ls r e ∙ sym (append-nil steps))
begins_more form b line ls steps next (Ok p) e = elim (cases_Bool (is_nil ((rules_of form).faults steps p))) [
  | inl y ↦ let r = next p in (p ∷ r.0, kept-ok form b steps line ls p e ∙ rw y (r.1 ∙ append_assoc steps (p ∷ []) r.0))
  | inr n ↦ ([], kept-ok form b steps line ls p e ∙ rw n (sym (append-nil steps)))
]

-- what is kept begins with the steps behind which it is sought
kept_begins : (form : Form) (b : List ℕ) (ls : List Line) (steps : List (StepOf form)) → (more : List (StepOf form)) × (kept_from form steps ls ≡ steps ++ more)
kept_begins form b [] steps = ([], nothing_left)
  where
    nothing_left : kept_from form steps [] ≡ steps ++ []
    nothing_left = kept_nothing form steps ∙ sym (append-nil steps)
kept_begins form b (l ∷ ls) steps = begins_more form b l ls steps (λ p. kept_begins form b ls (steps ++ p ∷ [])) (value_of (rules_of form).read l) refl

-- steps that are judged are the first of those that are kept
pub judged_are_first : (form : Form) (b : List ℕ) (steps : List (StepOf form)) (left : List Line) → IsJudged form b steps left → (more : List (StepOf form)) × (kept_steps form b ≡ steps ++ more)
judged_are_first form b steps left h = let r = kept_begins form b left steps in (r.0, h.kept ∙ r.1)
