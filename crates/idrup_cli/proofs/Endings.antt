-- What a status says of the verdict.
use Rattle.std.proofs.Common.{◌≡◌, ℕ, ◌≤◌, List, sym, ap, subst, ◌∙◌, arith, None, Some}
use Rattle.std.specs.declared.option.Option.{Option}
use Rattle.std.specs.Io.KnownBytes.{Appends}
use Rattle.session_rules.specs.declared.Form.{Form}
use Rattle.session_rules.specs.declared.Side.{Side}
use Rattle.session_rules.specs.declared.Rule.{Rule}
use Rattle.session_rules.specs.declared.Verdict.{Verdict}
use Rattle.session_rules.specs.declared.Verdict.TheVariants.{Accepted, Refused}
use Rattle.session_rules.specs.Pair.{verdict, Certified, events_in}
use Rattle.session_rules.specs.Verdicts.{events_among, steps_in}
use Rattle.session_laws.specs.Refusals.{IsWhole}
use Rattle.session_laws.proofs.Accepted.{verdict_certifies, verdict_whole}
use Rattle.pair_matcher.specs.Taken.{TakenBy}
use Rattle.idrup_cli.specs.declared.plan.Places.{Places}
use Rattle.idrup_cli.specs.declared.ending.Ending.{Ending}
use Rattle.idrup_cli.specs.declared.ending.Ending.TheVariants.{Checked, Usage, ReadInteraction, ReadProof, NoMemory}
use Rattle.idrup_cli.specs.Plan.{IfCheck}
use Rattle.outside.specs.Faults.{Rose}
use Rattle.idrup_cli.specs.Report.{Cause, Takes, line_of, status_of, verdict_status}

-- what holds of a check gives what it implies
IfCheck-map : (P Q : Form → List ℕ → List ℕ → Type 0) → ((form : Form) (a b : List ℕ) → P form a b → Q form a b)
    → (places : Option Places) (left right : Option (List ℕ)) → IfCheck places left right P → IfCheck places left right Q
IfCheck-map P Q implies None left right holds = tt
IfCheck-map P Q implies (Some places) None right holds = tt
IfCheck-map P Q implies (Some places) (Some a) None holds = tt
IfCheck-map P Q implies (Some places) (Some a) (Some b) holds = λ check. implies places.form a b (holds check)

IfCheck-both : (P Q R : Form → List ℕ → List ℕ → Type 0) → ((form : Form) (a b : List ℕ) → P form a b → Q form a b → R form a b)
    → (places : Option Places) (left right : Option (List ℕ)) → IfCheck places left right P → IfCheck places left right Q → IfCheck places left right R
IfCheck-both P Q R implies None left right p q = tt
IfCheck-both P Q R implies (Some places) None right p q = tt
IfCheck-both P Q R implies (Some places) (Some a) None p q = tt
IfCheck-both P Q R implies (Some places) (Some a) (Some b) p q = λ check. implies places.form a b (p check) (q check)

IfCheck-all : (P : Form → List ℕ → List ℕ → Type 0) → ((form : Form) (a b : List ℕ) → P form a b)
    → (places : Option Places) (left right : Option (List ℕ)) → IfCheck places left right P
IfCheck-all P all None left right = tt
IfCheck-all P all (Some places) None right = tt
IfCheck-all P all (Some places) (Some a) None = tt
IfCheck-all P all (Some places) (Some a) (Some b) = λ check. all places.form a b

module _ (status : ℕ) (old new : Option (List ℕ)) (places : Option Places) (left right : Option (List ℕ)) (first second : ℕ × ℕ) where
  abbrev IsCertified : Form → List ℕ → List ℕ → Type 0
  IsCertified form a b = status ≡ 0 → Certified (events_in a) (events_among form (steps_in form b)) × IsWhole a

  abbrev IsRefused : Form → List ℕ → List ℕ → Type 0
  IsRefused form a b = status ≡ 1 → (side : Side) × (line : ℕ) × (rule : Rule) × (verdict form a b ≡ Refused side line rule)
      × Appends old new (line_of (Checked (Refused side line rule)))

  -- another status says nothing of these
  not_certified : (of : ℕ) → ¬ (of ≡ 0) → (¬ (status ≡ 4) → status ≡ of) → IfCheck places left right IsCertified
  not_certified of other same = IfCheck-all IsCertified (λ form a b zero. absurd (other (sym (same (λ four. omega arith)) ∙ zero))) places left right

  not_refused : (of : ℕ) → ¬ (of ≡ 1) → (¬ (status ≡ 4) → status ≡ of) → IfCheck places left right IsRefused
  not_refused of other same = IfCheck-all IsRefused (λ form a b one. absurd (other (sym (same (λ four. omega arith)) ∙ one))) places left right

  -- with 0 the interaction is certified, and whole
  pub certifies : (ending : Ending) → Cause places left right first second ending → (¬ (status ≡ 4) → status ≡ status_of ending)
      → IfCheck places left right IsCertified
  certifies (Checked (Accepted queries)) cause same =
      IfCheck-map (λ form a b. Accepted queries ≡ verdict form a b) IsCertified (λ form a b is zero. (verdict_certifies form a b queries (sym is), verdict_whole form a b queries (sym is))) places left right cause.1
  certifies (Checked (Refused side line rule)) cause same = not_certified 1 (omega arith) same
  certifies Usage cause same = not_certified 2 (omega arith) same
  certifies ReadInteraction cause same = not_certified 3 (omega arith) same
  certifies ReadProof cause same = not_certified 3 (omega arith) same
  certifies NoMemory cause same = not_certified 5 (omega arith) same

  -- with 1 the verdict is a refusal, and its line was written
  pub refuses : (ending : Ending) → Cause places left right first second ending → (¬ (status ≡ 4) → status ≡ status_of ending)
      → (status ≤ 1 → Appends old new (line_of ending))
      → IfCheck places left right (λ form a b. status ≡ 1 → (side : Side) × (line : ℕ) × (rule : Rule) × (verdict form a b ≡ Refused side line rule)
      × Appends old new (line_of (Checked (Refused side line rule))))
  refuses (Checked (Refused side line rule)) cause same whole =
      IfCheck-map (λ form a b. Refused side line rule ≡ verdict form a b) IsRefused (λ form a b is one. (side, line, rule, sym is, whole (omega arith))) places left right cause.1
  refuses (Checked (Accepted queries)) cause same whole = not_refused 0 (omega arith) same
  refuses Usage cause same whole = not_refused 2 (omega arith) same
  refuses ReadInteraction cause same whole = not_refused 3 (omega arith) same
  refuses ReadProof cause same whole = not_refused 3 (omega arith) same
  refuses NoMemory cause same whole = not_refused 5 (omega arith) same

  abbrev IsAccepted : Form → List ℕ → List ℕ → Type 0
  IsAccepted form a b = status ≡ 0 → (queries : ℕ) × (verdict form a b ≡ Accepted queries) × Appends old new (line_of (Checked (Accepted queries)))

  not_accepted : (of : ℕ) → ¬ (of ≡ 0) → (¬ (status ≡ 4) → status ≡ of) → IfCheck places left right IsAccepted
  not_accepted of other same = IfCheck-all IsAccepted (λ form a b zero. absurd (other (sym (same (λ four. omega arith)) ∙ zero))) places left right

  -- with 0 it accepts, and its line was written
  pub accepts : (ending : Ending) → Cause places left right first second ending → (¬ (status ≡ 4) → status ≡ status_of ending)
      → (status ≤ 1 → Appends old new (line_of ending))
      → IfCheck places left right (λ form a b. status ≡ 0 → (queries : ℕ) × (verdict form a b ≡ Accepted queries) × Appends old new (line_of (Checked (Accepted queries))))
  accepts (Checked (Accepted queries)) cause same whole =
      IfCheck-map (λ form a b. Accepted queries ≡ verdict form a b) IsAccepted (λ form a b is zero. (queries, sym is, whole (omega arith))) places left right cause.1
  accepts (Checked (Refused side line rule)) cause same whole = not_accepted 1 (omega arith) same
  accepts Usage cause same whole = not_accepted 2 (omega arith) same
  accepts ReadInteraction cause same whole = not_accepted 3 (omega arith) same
  accepts ReadProof cause same whole = not_accepted 3 (omega arith) same
  accepts NoMemory cause same whole = not_accepted 5 (omega arith) same

  module _ (first_rest second_rest : Option (List ℕ)) where
    abbrev IsTaken : Form → List ℕ → List ℕ → Type 0
    IsTaken form a b = status ≡ 1 → TakenBy (verdict form a b) a b first_rest second_rest

    not_taken : (of : ℕ) → ¬ (of ≡ 1) → (¬ (status ≡ 4) → status ≡ of) → IfCheck places left right IsTaken
    not_taken of other same = IfCheck-all IsTaken (λ form a b one. absurd (other (sym (same (λ four. omega arith)) ∙ one))) places left right

    -- with 1 no more is taken than the verdict lets
    pub takes : (ending : Ending) → Cause places left right first second ending → (¬ (status ≡ 4) → status ≡ status_of ending) → Takes places left right first_rest second_rest ending
        → IfCheck places left right (λ form a b. status ≡ 1 → TakenBy (verdict form a b) a b first_rest second_rest)
    takes (Checked v) cause same taken = IfCheck-both (λ form a b. v ≡ verdict form a b) (λ form a b. TakenBy v a b first_rest second_rest) IsTaken
        (λ form a b is t one. subst (λ u. TakenBy u a b first_rest second_rest) is t) places left right cause.1 taken
    takes Usage cause same taken = not_taken 2 (omega arith) same
    takes ReadInteraction cause same taken = not_taken 3 (omega arith) same
    takes ReadProof cause same taken = not_taken 3 (omega arith) same
    takes NoMemory cause same taken = not_taken 5 (omega arith) same

  not_four : (v : Verdict) → ¬ (verdict_status v ≡ 4)
  not_four (Accepted queries) = omega arith
  not_four (Refused side line rule) = omega arith

  module _ (report : ℕ × ℕ) where
    abbrev IsComplete : Form → List ℕ → List ℕ → Type 0
    IsComplete form a b = ¬ Rose first.0 first.1 → ¬ Rose second.0 second.1 → ¬ Rose report.0 report.1 → ¬ (status ≡ 5) → status ≡ verdict_status (verdict form a b)

    -- where no count rose and memory was there the status is that of the verdict
    pub completes : (ending : Ending) → Cause places left right first second ending → (¬ (status ≡ 4) → status ≡ status_of ending)
        → (status ≡ 4 → ¬ (status_of ending ≡ 4) → (status_of ending ≤ 1) × Rose report.0 report.1)
        → IfCheck places left right (λ form a b. ¬ Rose first.0 first.1 → ¬ Rose second.0 second.1 → ¬ Rose report.0 report.1 → ¬ (status ≡ 5) → status ≡ verdict_status (verdict form a b))
    completes (Checked v) cause same fault = IfCheck-map (λ form a b. v ≡ verdict form a b) IsComplete
        (λ form a b is f s r five. same (λ four. r ((fault four (not_four v)).1)) ∙ ap verdict_status is) places left right cause.1
    completes Usage cause same fault = subst (λ p. IfCheck p left right IsComplete) (sym cause) tt
    completes ReadInteraction cause same fault = IfCheck-all IsComplete (λ form a b f s r five. absurd (f cause.1)) places left right
    completes ReadProof cause same fault = IfCheck-all IsComplete (λ form a b f s r five. absurd (s cause.1)) places left right
    completes NoMemory cause same fault = IfCheck-all IsComplete (λ form a b f s r five. absurd (five (same (λ four. let low = (fault four (omega arith)).0 in omega arith)))) places left right
