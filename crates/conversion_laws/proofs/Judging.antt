-- A proof is judged by itself line by line: the first line at fault decides.
use Rattle.std.proofs.Common.{◌≡◌, ℕ, false, if◌then◌else◌, List, [], ◌∷◌, ◌++◌, Some, None, Ok, Err, refl, sym, ◌∙◌, ap, append_assoc, append-nil}
use Rattle.session_rules.specs.declared.Form.{Form}
use Rattle.session_rules.specs.declared.Side.TheVariants.{Proof}
use Rattle.session_rules.specs.declared.Phase.{Phase}
use Rattle.session_rules.specs.declared.Phase.TheVariants.{Idle, Asked, Told}
use Rattle.session_rules.specs.declared.Rule.{Rule}
use Rattle.session_rules.specs.declared.Rule.TheVariants as rules
use Rattle.session_rules.specs.Lines.{Line, is_nil, end_line}
use Rattle.session_rules.specs.Reading.{value_of, values_of, header_fault}
use Rattle.session_rules.specs.History.{phase, broken_unless}
use Rattle.session_rules.specs.Pair.{Refusal, refusal, refusals, is_idle, one_refusal, own_faults_from, own_refusals}
use Rattle.session_rules.specs.Verdicts.{StepOf, rules_of, body, steps_in, events_among, first_refusal, own_verdict}
use Rattle.session_rules.proofs.Positions.{said}
use Rattle.conversion_laws.specs.Judged.{kept_line, with_said, kept_from, kept_steps, IsJudged}
use Rattle.conversion_laws.proofs.Joined.{said-ok}

module _ (form : Form) (b : List ℕ) where
  -- ---- The header

  pub header_decides : (number : ℕ) (rule : Rule) → header_fault (rules_of form).name b ≡ Some (number, rule) → own_verdict form b ≡ Some (number, rule)
  unfolding own_verdict own_refusals
  header_decides number rule e = rw e refl

  own_begins : header_fault (rules_of form).name b ≡ None → own_refusals (rules_of form) b ≡ own_faults_from (rules_of form) [] (end_line b) (body b)
  unfolding own_refusals
  own_begins e = ap (λ o. one_refusal Proof o ++ own_faults_from (rules_of form) [] (end_line b) (body b)) e

  pub judging_begins : header_fault (rules_of form).name b ≡ None → IsJudged form b [] (body b)
  judging_begins e = record { header_spells = e; faults_left = own_begins e; kept = refl; said = refl }

  -- ---- A line

  module _ (steps : List (StepOf form)) (line : Line) (more : List Line) where
    own-ok : (p : StepOf form) → value_of (rules_of form).read line ≡ Ok p → own_faults_from (rules_of form) steps (end_line b) (line ∷ more)
        ≡ refusals Proof line.number ((rules_of form).faults steps p) ++ own_faults_from (rules_of form) (steps ++ p ∷ []) (end_line b) more
    unfolding own_faults_from
    own-ok p v = rw v refl

    own-err : (r : Rule) → value_of (rules_of form).read line ≡ Err r → own_faults_from (rules_of form) steps (end_line b) (line ∷ more) ≡ refusal Proof line.number r ∷ []
    unfolding own_faults_from
    own-err r v = rw v refl

    pub kept-ok : (p : StepOf form) → value_of (rules_of form).read line ≡ Ok p → kept_from form steps (line ∷ more) ≡ kept_line form steps (Ok p) (kept_from form (steps ++ p ∷ []) more)
    unfolding kept_from
    kept-ok p v = ap (λ o. kept_line form steps o (kept_from form (with_said form steps o) more)) v

    pub kept-err : (r : Rule) → value_of (rules_of form).read line ≡ Err r → kept_from form steps (line ∷ more) ≡ steps
    unfolding kept_from
    kept-err r v = ap (λ o. kept_line form steps o (kept_from form (with_said form steps o) more)) v

    pub judging_goes_on : (p : StepOf form) → value_of (rules_of form).read line ≡ Ok p → (rules_of form).faults steps p ≡ [] → IsJudged form b steps (line ∷ more) → IsJudged form b (steps ++ p ∷ []) more
    judging_goes_on p v none h = record {
      header_spells = h.header_spells;
      faults_left = h.faults_left ∙ own-ok p v ∙ ap (λ rs. refusals Proof line.number rs ++ own_faults_from (rules_of form) (steps ++ p ∷ []) (end_line b) more) none;
      kept = h.kept ∙ kept-ok p v ∙ ap (λ rs. if is_nil rs then kept_from form (steps ++ p ∷ []) more else steps) none;
      said = h.said ∙ ap (λ z. steps ++ z) (said-ok (rules_of form).read line more p v) ∙ sym (append_assoc steps (p ∷ []) (said (rules_of form).read more));
    }

    own_is : (r : Refusal) (rs : List Refusal) → IsJudged form b steps (line ∷ more) → own_faults_from (rules_of form) steps (end_line b) (line ∷ more) ≡ r ∷ rs → own_verdict form b ≡ Some (r.line, r.rule)
    unfolding own_verdict
    own_is r rs h e = ap first_refusal (h.faults_left ∙ e)

    pub broken_line_decides : (r : Rule) → value_of (rules_of form).read line ≡ Err r → IsJudged form b steps (line ∷ more) → (own_verdict form b ≡ Some (line.number, r)) × (kept_steps form b ≡ steps)
    broken_line_decides r v h = (own_is (refusal Proof line.number r) [] h (own-err r v), h.kept ∙ kept-err r v)

    pub own_rule_decides : (p : StepOf form) (r : Rule) (rs : List Rule) → value_of (rules_of form).read line ≡ Ok p → (rules_of form).faults steps p ≡ r ∷ rs → IsJudged form b steps (line ∷ more)
        → (own_verdict form b ≡ Some (line.number, r)) × (kept_steps form b ≡ steps)
    own_rule_decides p r rs v some h = (
      own_is (refusal Proof line.number r) (refusals Proof line.number rs ++ own_faults_from (rules_of form) (steps ++ p ∷ []) (end_line b) more) h
          (own-ok p v ∙ ap (λ zs. refusals Proof line.number zs ++ own_faults_from (rules_of form) (steps ++ p ∷ []) (end_line b) more) some),
      h.kept ∙ kept-ok p v ∙ ap (λ zs. if is_nil zs then kept_from form (steps ++ p ∷ []) more else steps) some,
    )

  -- ---- The end

  module _ (steps : List (StepOf form)) (h : IsJudged form b steps []) where
    kept_whole : kept_steps form b ≡ steps
    unfolding kept_from
    kept_whole = h.kept

    said_whole : steps_in form b ≡ steps
    unfolding values_of
    said_whole = h.said ∙ append-nil steps

    own_end : own_refusals (rules_of form) b ≡ refusals Proof (end_line b) (broken_unless (is_idle (phase (events_among form steps))) rules.Unfinished)
    unfolding own_faults_from
    own_end = h.faults_left

    busy : (p : Phase) → (p ≡ Idle → ⊥) → is_idle p ≡ false
    busy Idle n = absurd (n refl)
    busy Asked n = refl
    busy (Told w) n = refl

    pub open_query_decides : (phase (events_among form steps) ≡ Idle → ⊥) → (own_verdict form b ≡ Some (end_line b, rules.Unfinished)) × (kept_steps form b ≡ steps)
    unfolding own_verdict
    open_query_decides n = (
      ap first_refusal own_end ∙ ap (λ k. first_refusal (refusals Proof (end_line b) (broken_unless k rules.Unfinished))) (busy (phase (events_among form steps)) n),
      kept_whole,
    )

    pub finished_keeps : phase (events_among form steps) ≡ Idle → (own_verdict form b ≡ None) × (steps_in form b ≡ steps) × (kept_steps form b ≡ steps)
    unfolding own_verdict
    finished_keeps e = (
      ap first_refusal own_end ∙ ap (λ p. first_refusal (refusals Proof (end_line b) (broken_unless (is_idle p) rules.Unfinished))) e,
      said_whole,
      kept_whole,
    )
