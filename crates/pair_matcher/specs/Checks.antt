-- How far the check of a pair has come, and what its parts answer.
use Rattle.std.specs.Prelude.{◌≡◌, ℕ, ◌+◌, ⊤, true, if◌then◌else◌, List, [], ◌∷◌, ◌++◌, map, drop, count_by, filter_map, Option, None, Some, is_some, IsSome, option_and_then}
use Rattle.session_rules.specs.declared.Side.TheVariants.{Interaction, Proof}
use Rattle.session_rules.specs.declared.Event.{Event}
use Rattle.session_rules.specs.declared.Rule.{Rule}
use Rattle.session_rules.specs.declared.Verdict.{Verdict}
use Rattle.session_rules.specs.declared.Verdict.TheVariants.{Accepted, Refused}
use Rattle.session_rules.specs.Lines.{Line, lines, end_line}
use Rattle.session_rules.specs.Reading.{values_of, steps_of, header_fault}
use Rattle.session_rules.specs.History.{query_of, assumed}
use Rattle.session_rules.specs.Pair.{ProofForm, refusals, step_partners, step_matches, faults_from, pair_refusals, is_query, unfinished, surplus, verdict_by}
use Rattle.pair_matcher.specs.declared.checking.Position.{Position}
use Rattle.slice_tokens.specs.Place.{Place, WhereTold, ahead, later, is_cut}
use Rattle.pair_matcher.specs.Taken.{IsWithin}

-- ---- The bytes of both streams

-- where the bytes of two streams are told, those still to come are too, and the four lists are so related
abbrev pub BothTold : (all ahead others ahead_others : Option (List ℕ)) → (List ℕ → List ℕ → List ℕ → List ℕ → Type 0) → Type 0
BothTold all ahead others ahead_others P = WhereTold all ahead (λ a ta. WhereTold others ahead_others (λ b tb. P a ta b tb))

-- both streams tell their bytes, which are these
pub record BothTell (left others : Option (List ℕ)) (a b : List ℕ) : Type 0 where
  pub interaction : left ≡ Some a
  pub proof : others ≡ Some b

-- the last of some lines is the one that the bound cuts
abbrev pub EndsCut : List Line → Type 0
EndsCut [] = ⊥
EndsCut (line ∷ []) = line.cut ≡ true
EndsCut (line ∷ next ∷ more) = EndsCut (next ∷ more)

-- a line that the bound cuts is still to come, if there is one
pub record CutComes (place : Place) (bytes : List ℕ) : Type 0 where
  pub comes : is_cut place bytes ≡ true → EndsCut (later place bytes)

-- ---- Headers

-- the header of this name was read, and the lines behind it are still to come
pub record IsBehindHeader (name : List ℕ) (all : List ℕ) (place : Place) (bytes : List ℕ) : Type 0 where
  pub kept : header_fault name all ≡ None
  pub lines : drop 1 (lines all) ≡ later place bytes
  pub within : IsWithin all place bytes
  pub cut : CutComes place bytes

-- what passing over a header answers: the rule that it breaks at the window's line, or none
abbrev pub PassesHeader : List ℕ → Option Rule → List ℕ → Place → List ℕ → Type 0
PassesHeader name None all place bytes = IsBehindHeader name all place bytes
PassesHeader name (Some r) all place bytes = (header_fault name all ≡ Some (place.line, r)) × IsWithin all place bytes

-- the stream tells its bytes, and its header is broken
pub record HasBrokenHeader (name : List ℕ) (left : Option (List ℕ)) : Type 0 where
  pub bytes : List ℕ
  pub told : left ≡ Some bytes
  pub broken : IsSome (header_fault name bytes)

-- ---- The check

-- so many queries were passed, and the windows stand at these places
abbrev pub at : ℕ → Place → Place → Position
at queries interaction proof = record { interaction = interaction; proof = proof; queries = queries }

-- where the bytes of both streams are told there, this is known of them
abbrev pub Knows : (all others left others_left : Option (List ℕ)) → Position → (Position → List ℕ → List ℕ → List ℕ → List ℕ → Type 0) → Type 0
Knows all others left others_left at P = BothTold all (ahead at.interaction left) others (ahead at.proof others_left) (P at)

-- one for a query
abbrev pub query_count : Option Event → ℕ
query_count event = if is_some (option_and_then query_of event) then 1 else 0

module _ {S : Type 0} (form : ProofForm S) where
  -- how many steps of some lines are queries
  abbrev pub queries_in : List Line → ℕ
  queries_in ls = count_by (is_query form) (map (λ p. p.1) (values_of form.read ls))

  abbrev pub all_queries : List ℕ → ℕ
  all_queries b = count_by (is_query form) (map (λ p. p.1) (steps_of form.read b))

-- some lines were passed over without a fault: the side stands for their steps, and the faults and the queries of the pair are
-- those counted, and those to come
pub record Checking {S : Type 0} (form : ProofForm S) (stands : List S → Type 0) (at : Position) (a ta b tb : List ℕ) : Type 0 where
  pub steps : List S
  pub behind : stands steps
  pub faults : pair_refusals form a b ≡ faults_from form steps (end_line b) (later at.proof tb) (later at.interaction ta)
  pub count : all_queries form b ≡ at.queries + queries_in form (later at.proof tb)
  pub interaction_within : IsWithin a at.interaction ta
  pub proof_within : IsWithin b at.proof tb
  pub interaction_cut : CutComes at.interaction ta
  pub proof_cut : CutComes at.proof tb

-- a line of the proof was read, which says this step
pub record AtStep {S : Type 0} (form : ProofForm S) (stands : List S → Type 0) (at : Position) (step : S) (a ta b tb : List ℕ) : Type 0 where
  pub steps : List S
  pub behind : stands steps
  pub faults : pair_refusals form a b ≡ refusals Proof at.proof.line (form.faults steps step)
      ++ step_matches form (assumed (filter_map form.event steps)) at.proof.line (form.event step) (later at.interaction ta)
      ++ faults_from form (steps ++ step ∷ []) (end_line b) (later at.proof tb) (drop (step_partners form (form.event step) (later at.interaction ta)) (later at.interaction ta))
  pub count : all_queries form b ≡ at.queries + (query_count (form.event step) + queries_in form (later at.proof tb))
  pub interaction_within : IsWithin a at.interaction ta
  pub proof_within : IsWithin b at.proof tb
  pub interaction_cut : CutComes at.interaction ta
  pub proof_cut : CutComes at.proof tb

-- its step breaks no own rule, and the side stands for it too; its event, where it is one, is still to be held against its
-- partner
pub record AtEvent {S : Type 0} (form : ProofForm S) (stands : List S → Type 0) (at : Position) (event : Option Event) (a ta b tb : List ℕ) : Type 0 where
  pub steps : List S
  pub behind : stands steps
  pub faults : pair_refusals form a b ≡ step_matches form (assumed (filter_map form.event steps)) at.proof.line event (later at.interaction ta)
      ++ faults_from form steps (end_line b) (later at.proof tb) (drop (step_partners form event (later at.interaction ta)) (later at.interaction ta))
  pub count : all_queries form b ≡ at.queries + (query_count event + queries_in form (later at.proof tb))
  pub interaction_within : IsWithin a at.interaction ta
  pub proof_within : IsWithin b at.proof tb
  pub interaction_cut : CutComes at.interaction ta
  pub proof_cut : CutComes at.proof tb

-- the proof has ended
pub record AtProofEnd {S : Type 0} (form : ProofForm S) (stands : List S → Type 0) (at : Position) (a ta b tb : List ℕ) : Type 0 where
  pub steps : List S
  pub behind : stands steps
  pub faults : pair_refusals form a b ≡ unfinished (filter_map form.event steps) at.proof.line ++ surplus (later at.interaction ta)
  pub count : all_queries form b ≡ at.queries
  pub interaction_within : IsWithin a at.interaction ta
  pub proof_within : IsWithin b at.proof tb
  pub interaction_cut : CutComes at.interaction ta

-- and no query is open
pub record AtSurplus {S : Type 0} (form : ProofForm S) (at : Position) (a ta b tb : List ℕ) : Type 0 where
  pub faults : pair_refusals form a b ≡ surplus (later at.interaction ta)
  pub count : all_queries form b ≡ at.queries
  pub interaction_within : IsWithin a at.interaction ta
  pub interaction_cut : CutComes at.interaction ta

-- the window over the stream that a refusal names stands in the line that it names
abbrev pub StandsNamed : Verdict → Position → List ℕ → List ℕ → List ℕ → List ℕ → Type 0
StandsNamed (Accepted queries) at a ta b tb = ⊤
StandsNamed (Refused Interaction line rule) at a ta b tb = IsWithin a at.interaction ta × (line ≡ at.interaction.line)
StandsNamed (Refused Proof line rule) at a ta b tb = IsWithin b at.proof tb × (line ≡ at.proof.line)

-- the verdict, and where it leaves the windows
pub record IsVerdictOf {S : Type 0} (form : ProofForm S) (v : Verdict) (at : Position) (a ta b tb : List ℕ) : Type 0 where
  pub is : v ≡ verdict_by form a b
  pub named : StandsNamed v at a ta b tb

-- what one turn of the check answers: the verdict, or none, and the check goes on
abbrev pub Turns : {S : Type 0} → ProofForm S → (List S → Type 0) → Option Verdict → Position → List ℕ → List ℕ → List ℕ → List ℕ → Type 0
Turns form stands None at a ta b tb = Checking form stands at a ta b tb
Turns form stands (Some v) at a ta b tb = IsVerdictOf form v at a ta b tb
