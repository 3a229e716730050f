-- How a run ends: its status, its line, and the cause of both.
use Rattle.std.specs.Prelude.{◌≡◌, ℕ, ◌≤◌, ⊤, Bool, true, List, [], ◌∷◌, ◌++◌, None, IsSome, codes, decimal}
use Rattle.std.specs.declared.option.Option.{Option}
use Rattle.std.specs.Io.KnownBytes.{Appends}
use Rattle.outside.specs.Faults.{Rose}
use Rattle.outside.specs.Streams.{AppendsPart, Becomes}
use Rattle.lits.specs.Word.{literal_text}
use Rattle.session_rules.specs.declared.Side.{Side}
use Rattle.session_rules.specs.declared.Side.TheVariants.{Interaction, Proof}
use Rattle.session_rules.specs.declared.Rule.{Rule}
use Rattle.session_rules.specs.declared.Rule.TheVariants as rules
use Rattle.session_rules.specs.declared.Verdict.{Verdict}
use Rattle.session_rules.specs.declared.Verdict.TheVariants.{Accepted, Refused}
use Rattle.session_rules.specs.Pair.{verdict}
use Rattle.session_rules.specs.Spelling.{line_text}
use Rattle.pair_matcher.specs.Taken.{TakenBy}
use Rattle.idrup_cli.specs.declared.plan.Places.{Places}
use Rattle.idrup_cli.specs.declared.ending.Ending.{Ending}
use Rattle.idrup_cli.specs.declared.ending.Ending.TheVariants.{Checked, Usage, ReadInteraction, ReadProof, NoMemory}
use Rattle.idrup_cli.specs.Plan.{IsCheck, IfCheck}

-- ---- The status

abbrev pub verdict_status : Verdict → ℕ
verdict_status (Accepted queries) = 0
verdict_status (Refused side line rule) = 1

-- the status of an ending that can be told
abbrev pub status_of : Ending → ℕ
status_of (Checked v) = verdict_status v
status_of Usage = 2
status_of ReadInteraction = 3
status_of ReadProof = 3
status_of NoMemory = 5

-- ---- The line

abbrev pub side_name : Side → List ℕ
side_name Interaction = codes "interaction"
side_name Proof = codes "proof"

abbrev pub rule_name : Rule → List ℕ
rule_name rules.Header = codes "Header"
rule_name rules.Letter = codes "Letter"
rule_name rules.Number = codes "Number"
rule_name rules.Range = codes "Range"
rule_name rules.Unclosed = codes "Unclosed"
rule_name rules.Excess = codes "Excess"
rule_name rules.Word = codes "Word"
rule_name rules.Length = codes "Length"
rule_name rules.Order = codes "Order"
rule_name rules.IdTaken = codes "IdTaken"
rule_name (rules.NotActive position) = codes "NotActive"
rule_name (rules.NotWeakened position) = codes "NotWeakened"
rule_name rules.Lemma = codes "Lemma"
rule_name (rules.Hint position) = codes "Hint"
rule_name (rules.ModelClash l) = codes "ModelClash"
rule_name (rules.ModelAssumption l) = codes "ModelAssumption"
rule_name (rules.ModelInput number) = codes "ModelInput"
rule_name (rules.CoreStranger l) = codes "CoreStranger"
rule_name rules.CoreOpen = codes "CoreOpen"
rule_name rules.Ended = codes "Ended"
rule_name rules.Kind = codes "Kind"
rule_name rules.Content = codes "Content"
rule_name rules.Status = codes "Status"
rule_name (rules.ModelPart l) = codes "ModelPart"
rule_name (rules.CorePart l) = codes "CorePart"
rule_name (rules.CoreClaim l) = codes "CoreClaim"
rule_name rules.Unfinished = codes "Unfinished"
rule_name rules.Surplus = codes "Surplus"
rule_name (rules.FailedPart l) = codes "FailedPart"

-- the word of a rule's detail, where it has one
abbrev pub rule_detail : Rule → List (List ℕ)
rule_detail (rules.NotActive position) = decimal position ∷ []
rule_detail (rules.NotWeakened position) = decimal position ∷ []
rule_detail (rules.Hint position) = decimal position ∷ []
rule_detail (rules.ModelClash l) = literal_text l ∷ []
rule_detail (rules.ModelAssumption l) = literal_text l ∷ []
rule_detail (rules.ModelInput number) = decimal number ∷ []
rule_detail (rules.CoreStranger l) = literal_text l ∷ []
rule_detail (rules.ModelPart l) = literal_text l ∷ []
rule_detail (rules.CorePart l) = literal_text l ∷ []
rule_detail (rules.CoreClaim l) = literal_text l ∷ []
rule_detail (rules.FailedPart l) = literal_text l ∷ []
rule_detail _ = []

-- words, each behind a space
abbrev pub spaced : List (List ℕ) → List ℕ
spaced [] = []
spaced (w ∷ ws) = 32 ∷ (w ++ spaced ws)

abbrev pub verdict_words : Verdict → List (List ℕ)
verdict_words (Accepted queries) = codes "accepted" ∷ decimal queries ∷ codes "queries" ∷ []
verdict_words (Refused side line rule) = codes "refused" ∷ side_name side ∷ decimal line ∷ rule_name rule ∷ rule_detail rule

abbrev pub verdict_line : Verdict → List ℕ
verdict_line v = line_text (verdict_words v)

-- the line of an ending, with its line feed
unfoldable pub line_of : Ending → List ℕ
line_of (Checked v) = verdict_line v
line_of Usage = codes "usage: idrup check [--lidrup] ICNF PROOF, solve [--lidrup] SCRIPT ICNF PROOF, convert IDRUP LIDRUP, demo N ICNF PROOF\n"
line_of ReadInteraction = codes "read fault interaction\n"
line_of ReadProof = codes "read fault proof\n"
line_of NoMemory = codes "no memory\n"

-- ---- The cause

-- why a run with this plan ends so, by the bytes of the two sources and the count of each before and now. Want of memory
-- is free.
abbrev pub Cause : Option Places → Option (List ℕ) → Option (List ℕ) → ℕ × ℕ → ℕ × ℕ → Ending → Type 0
Cause places left right first second (Checked v) = IsCheck places × IfCheck places left right (λ form a b. v ≡ verdict form a b)
Cause places left right first second Usage = places ≡ None
Cause places left right first second ReadInteraction = IsCheck places × Rose first.0 first.1
Cause places left right first second ReadProof = IsCheck places × Rose second.0 second.1
Cause places left right first second NoMemory = IsSome places

-- how much of both sources a run with this plan has taken where it ends so, by what they have left
abbrev pub Takes : Option Places → Option (List ℕ) → Option (List ℕ) → Option (List ℕ) → Option (List ℕ) → Ending → Type 0
Takes places left right first_rest second_rest (Checked v) = IfCheck places left right (λ form a b. TakenBy v a b first_rest second_rest)
Takes places left right first_rest second_rest _ = ⊤

-- ---- What the report gets

-- a line: whole where the report's count didn't rise, and else a first part of it
pub record GetsLine (old new : Option (List ℕ)) (before now : ℕ) (line : List ℕ) : Type 0 where
  pub part : AppendsPart old new line
  pub whole : ¬ Rose before now → Appends old new line

-- what is answered, and what is left of the report, where an ending was told
pub record Reports (old new : Option (List ℕ)) (was_finished is_finished : Option Bool) (before now : ℕ) (ending : Ending) (status : ℕ) : Type 0 where
  pub later : before ≤ now
  pub line : GetsLine old new before now (line_of ending)
  -- the status is the ending's, but 4 for a verdict that can't be told
  pub same : ¬ (status ≡ 4) → status ≡ status_of ending
  pub fault : status ≡ 4 → ¬ (status_of ending ≡ 4) → (status_of ending ≤ 1) × Rose before now
  -- with 0 and 1 the line is whole, and the report is finished behind it
  pub verdict : status ≤ 1 → Appends old new (line_of ending) × Becomes was_finished is_finished true
