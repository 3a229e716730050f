-- A proof that is judged by itself line by line, and the steps that it has before its first fault.
use Rattle.std.specs.Prelude.{◌≡◌, ℕ, if◌then◌else◌, List, [], ◌∷◌, ◌++◌, map, None, Result, Ok, Err}
use Rattle.session_rules.specs.declared.Form.{Form}
use Rattle.session_rules.specs.declared.Rule.{Rule}
use Rattle.session_rules.specs.Lines.{Line, is_nil, end_line}
use Rattle.session_rules.specs.Reading.{value_of, values_of, header_fault}
use Rattle.session_rules.specs.Pair.{own_faults_from, own_refusals}
use Rattle.session_rules.specs.Verdicts.{StepOf, rules_of, body, steps_in}

-- behind these steps what a line says, and those after it, unless the line is broken or its step breaks a rule by itself
abbrev pub kept_line : (form : Form) → List (StepOf form) → Result (StepOf form) Rule → List (StepOf form) → List (StepOf form)
kept_line form steps (Err rule) more = steps
kept_line form steps (Ok p) more = if is_nil ((rules_of form).faults steps p) then more else steps

abbrev pub with_said : (form : Form) → List (StepOf form) → Result (StepOf form) Rule → List (StepOf form)
with_said form steps (Err rule) = steps
with_said form steps (Ok p) = steps ++ p ∷ []

-- these steps, and those that the lines say before the first fault
unfoldable pub kept_from : (form : Form) → List (StepOf form) → List Line → List (StepOf form)
kept_from form steps [] = steps
kept_from form steps (line ∷ more) = let value = value_of (rules_of form).read line in
    kept_line form steps value (kept_from form (with_said form steps value) more)

-- the steps of a proof before its first fault by itself
abbrev pub kept_steps : (form : Form) → List ℕ → List (StepOf form)
kept_steps form b = kept_from form [] (body b)

-- a proof is judged up to some line: its header is spelled, the lines before say these steps, and these lines are left; what they
-- break decides, since no line before has a fault
pub record IsJudged (form : Form) (b : List ℕ) (steps : List (StepOf form)) (left : List Line) : Type 0 where
  pub header_spells : header_fault (rules_of form).name b ≡ None
  pub faults_left : own_refusals (rules_of form) b ≡ own_faults_from (rules_of form) steps (end_line b) left
  pub kept : kept_steps form b ≡ kept_from form steps left
  pub said : steps_in form b ≡ steps ++ map (λ p. p.1) (values_of (rules_of form).read left)
