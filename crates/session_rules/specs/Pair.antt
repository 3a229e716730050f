-- What an interaction and a proof break together, the verdict on a pair, and what an accepted interaction certifies.
use Rattle.std.specs.Prelude.{◌≡◌, ℕ, suc, Bool, true, false, not, ◌&&◌, if◌then◌else◌, List, [], ◌∷◌, ◌++◌, map, take, drop, length, flat_map, count_by, Option, Some, None, is_some, option_and_then, filter_map, Result, Ok, Err, codes, IsTrue}
use Rattle.session_rules.specs.declared.Form.{Form}
use Rattle.session_rules.specs.declared.Form.TheVariants.{Idrup, Lidrup}
use Rattle.session_rules.specs.declared.Side.{Side}
use Rattle.session_rules.specs.declared.Side.TheVariants.{Interaction, Proof}
use Rattle.session_rules.specs.declared.StatusWord.{StatusWord}
use Rattle.session_rules.specs.declared.StatusWord.TheVariants.{Satisfiable, Unsatisfiable, Unknown}
use Rattle.session_rules.specs.declared.Phase.{Phase}
use Rattle.session_rules.specs.declared.Phase.TheVariants.{Idle}
use Rattle.session_rules.specs.declared.Event.{Event}
use Rattle.session_rules.specs.declared.Event.TheVariants as events
use Rattle.session_rules.specs.declared.Letter.{Letter}
use Rattle.session_rules.specs.declared.Letter.TheVariants as letters
use Rattle.session_rules.specs.declared.Step.{Step}
use Rattle.session_rules.specs.declared.LStep.{LStep}
use Rattle.session_rules.specs.declared.Rule.{Rule}
use Rattle.session_rules.specs.declared.Rule.TheVariants as rules
use Rattle.session_rules.specs.declared.Verdict.{Verdict}
use Rattle.session_rules.specs.declared.Verdict.TheVariants.{Accepted, Refused}
use Rattle.session_rules.specs.Logic.{same_set, is_part, IsSatisfiable, Contradicts}
use Rattle.session_rules.specs.Lines.{Line, is_nil, lines, lines_within, end_line, end_line_within, has_content, judged_words}
use Rattle.session_rules.specs.Reading.{Fault, value_of, values_of, icnf_line, idrup_line, lidrup_line, letter_of, first_fault, header_fault, steps_of}
use Rattle.session_rules.specs.History.{phase, assumed, inputs, query_of, broken_at, broken_unless, first_missing}
use Rattle.session_rules.specs.Own.{event_of, own_faults, id_event_of, own_id_faults}

-- ---- An event of the proof and its partners

abbrev pub same_status : StatusWord → StatusWord → Bool
same_status Satisfiable Satisfiable = true
same_status Unsatisfiable Unsatisfiable = true
same_status Unknown Unknown = true
same_status _ _ = false

-- the rules that a proof's event and the interaction's break, under these assumptions, in the order of their numbers
unfoldable pub pair_faults : List ℕ → Event → Event → List Rule
pair_faults qs (events.Input c) (events.Input d) = broken_unless (same_set c d) rules.Content
pair_faults qs (events.Query c) (events.Query d) = broken_unless (same_set c d) rules.Content
pair_faults qs (events.Status s) (events.Status t) = broken_unless (same_status s t) rules.Status
pair_faults qs (events.Model m) (events.Model n) = broken_at rules.ModelPart (first_missing n m)
pair_faults qs (events.Model m) (events.Values n) = broken_at rules.ModelPart (first_missing n m)
pair_faults qs (events.Core u) (events.Core v) = broken_at rules.CorePart (first_missing u v) ++ broken_at rules.CoreClaim (first_missing v qs)
pair_faults qs (events.Core u) (events.Failed v) = broken_at rules.FailedPart (first_missing v u)
pair_faults qs _ _ = rules.Kind ∷ []

-- ---- The verdict

-- a rule that a line breaks, and its file
pub record Refusal : Type 0 where
  pub side : Side
  pub line : ℕ
  pub rule : Rule

abbrev pub refusal : Side → ℕ → Rule → Refusal
refusal side line rule = record { side = side; line = line; rule = rule }

abbrev pub refusals : Side → ℕ → List Rule → List Refusal
refusals side line rs = map (refusal side line) rs

-- a form of proofs: how a line is read, which steps are events, and the rules that a step breaks behind others
pub record ProofForm (S : Type 0) : Type 0 where
  pub name : List ℕ
  pub read : List (List ℕ) → Result S Fault
  pub event : S → Option Event
  pub faults : List S → S → List Rule

abbrev pub without_ids : ProofForm Step
without_ids = record { name = codes "idrup"; read = idrup_line; event = event_of; faults = own_faults }

abbrev pub with_ids : ProofForm LStep
with_ids = record { name = codes "lidrup"; read = lidrup_line; event = id_event_of; faults = own_id_faults }

-- the letter with which a line begins, of a cut line among the words that are judged
abbrev pub first_letter : List (List ℕ) → Letter
first_letter [] = letters.NoLetter
first_letter (w ∷ ws) = letter_of w

abbrev pub line_letter : Line → Letter
line_letter line = first_letter (judged_words line)

-- a line that the bound cuts before any word of it is judged
abbrev pub is_cut_early : Line → Bool
is_cut_early line = line.cut && is_nil (judged_words line)

abbrev pub same_letter : Letter → Letter → Bool
same_letter letters.Model letters.Model = true
same_letter letters.Core letters.Core = true
same_letter letters.Values letters.Values = true
same_letter letters.Failed letters.Failed = true
same_letter _ _ = false

-- how many of the lines that are left are a run of lines with this letter, with the cut line behind it that might have been one
unfoldable pub run_length : Letter → List Line → ℕ
run_length part [] = 0
run_length part (line ∷ more) = let rest = run_length part more in
    if same_letter (line_letter line) part then suc rest else (if is_cut_early line then 1 else 0)

-- an answer's partners: the one line that tells it whole, or else the run of lines that tell parts of it
abbrev pub answer_count : Letter → Letter → List Line → ℕ
answer_count whole part [] = 0
answer_count whole part (line ∷ more) = if same_letter (line_letter line) whole then 1 else run_length part (line ∷ more)

abbrev pub next_count : List Line → ℕ
next_count [] = 0
next_count (line ∷ more) = 1

-- how many partners an event has among the lines that are left, of which they are the first: of a model and a core those that
-- tell of it, of any other event the next line
abbrev pub partner_count : Event → List Line → ℕ
partner_count (events.Model m) ls = answer_count letters.Model letters.Values ls
partner_count (events.Core u) ls = answer_count letters.Core letters.Failed ls
partner_count _ ls = next_count ls

-- whether an event owes a partner: a model and a core may have none
abbrev pub owes_partner : Event → Bool
owes_partner (events.Model m) = false
owes_partner (events.Core u) = false
owes_partner _ = true

-- what a partner breaks
abbrev pub partner_rules : List ℕ → Event → Result Event Rule → List Rule
partner_rules qs e (Err r) = r ∷ []
partner_rules qs e (Ok f) = pair_faults qs e f

abbrev pub partner_faults : List ℕ → Event → Line → List Refusal
partner_faults qs e line = refusals Interaction line.number (partner_rules qs e (value_of icnf_line line))

-- what an event on the proof's line breaks where no line is left
abbrev pub missing_partner : ℕ → Event → List Line → List Refusal
missing_partner number e [] = if owes_partner e then refusal Proof number rules.Ended ∷ [] else []
missing_partner number e (line ∷ more) = []

-- what an event on the proof's line breaks with its partners
abbrev pub match_faults : List ℕ → ℕ → Event → List Line → List Refusal
match_faults qs number e ls = missing_partner number e ls ++ flat_map (partner_faults qs e) (take (partner_count e ls) ls)

-- what the two files' ends break: a query is open, and a line is left
abbrev pub is_idle : Phase → Bool
is_idle Idle = true
is_idle _ = false

abbrev pub surplus : List Line → List Refusal
surplus [] = []
surplus (line ∷ more) = refusal Interaction line.number (if line.cut && not (has_content line.words) then rules.Length else rules.Surplus) ∷ []

abbrev pub unfinished : List Event → ℕ → List Refusal
unfinished es end = refusals Proof end (broken_unless (is_idle (phase es)) rules.Unfinished)

-- the faults of a header
abbrev pub one_refusal : Side → Option (ℕ × Rule) → List Refusal
one_refusal side None = []
one_refusal side (Some f) = refusal side f.0 f.1 ∷ []

module _ {S : Type 0} (form : ProofForm S) where
  -- with the partners of the step's event, where it is one
  abbrev pub step_partners : Option Event → List Line → ℕ
  step_partners None ls = 0
  step_partners (Some e) ls = partner_count e ls

  abbrev pub step_matches : List ℕ → ℕ → Option Event → List Line → List Refusal
  step_matches qs number None ls = []
  step_matches qs number (Some e) ls = match_faults qs number e ls

  -- the faults of a line of the proof, and of those after it unless it is broken
  abbrev pub line_faults : List S → ℕ → Result S Rule → List Line → List Refusal → List Refusal
  line_faults ps number (Err r) ls more = refusal Proof number r ∷ []
  line_faults ps number (Ok p) ls more = refusals Proof number (form.faults ps p) ++ step_matches (assumed (filter_map form.event ps)) number (form.event p) ls ++ more

  abbrev pub partners_of : Result S Rule → List Line → ℕ
  partners_of (Err r) ls = 0
  partners_of (Ok p) ls = step_partners (form.event p) ls

  abbrev pub with_step : List S → Result S Rule → List S
  with_step ps (Err r) = ps
  with_step ps (Ok p) = ps ++ p ∷ []

  -- all faults from a line of the proof on, behind these steps, with the interaction's lines that are left, in their order
  unfoldable pub faults_from : List S → ℕ → List Line → List Line → List Refusal
  faults_from ps end [] ls = unfinished (filter_map form.event ps) end ++ surplus ls
  faults_from ps end (line ∷ more) ls = let value = value_of form.read line in
      line_faults ps line.number value ls (faults_from (with_step ps value) end more (drop (partners_of value ls) ls))

  -- all faults of a pair, in the order in which they count
  unfoldable pub pair_refusals : List ℕ → List ℕ → List Refusal
  pair_refusals a b = one_refusal Interaction (header_fault (codes "icnf") a) ++ one_refusal Proof (header_fault form.name b)
      ++ faults_from [] (end_line b) (drop 1 (lines b)) (drop 1 (lines a))

  -- the proof's own faults among these
  abbrev pub own_line_faults : List S → ℕ → Result S Rule → List Refusal → List Refusal
  own_line_faults ps number (Err r) more = refusal Proof number r ∷ []
  own_line_faults ps number (Ok p) more = refusals Proof number (form.faults ps p) ++ more

  unfoldable pub own_faults_from : List S → ℕ → List Line → List Refusal
  own_faults_from ps end [] = unfinished (filter_map form.event ps) end
  own_faults_from ps end (line ∷ more) = let value = value_of form.read line in
      own_line_faults ps line.number value (own_faults_from (with_step ps value) end more)

  unfoldable pub own_refusals : List ℕ → List Refusal
  own_refusals b = one_refusal Proof (header_fault form.name b) ++ own_faults_from [] (end_line b) (drop 1 (lines b))

  -- whether a step is a query
  abbrev pub is_query : S → Bool
  is_query p = is_some (option_and_then query_of (form.event p))

abbrev pub verdict_of : ℕ → List Refusal → Verdict
verdict_of queries [] = Accepted queries
verdict_of queries (r ∷ more) = Refused r.side r.line r.rule

-- the verdict on an interaction's bytes and a proof's: the first of all faults, or the number of queries
unfoldable pub verdict_by : {S : Type 0} → ProofForm S → List ℕ → List ℕ → Verdict
verdict_by form a b = verdict_of (count_by (is_query form) (map (λ p. p.1) (steps_of form.read b))) (pair_refusals form a b)

unfoldable pub verdict : Form → List ℕ → List ℕ → Verdict
verdict Idrup a b = verdict_by without_ids a b
verdict Lidrup a b = verdict_by with_ids a b

-- the same of streams of which no more than `bound` bytes are read
abbrev pub verdict_by_within : {S : Type 0} → ℕ → ProofForm S → List ℕ → List ℕ → Verdict
verdict_by_within bound form a b = verdict_of (count_by (is_query form) (map (λ p. p.1) (values_of form.read (drop 1 (lines_within bound b)))))
    (one_refusal Interaction (first_fault (codes "icnf") (end_line_within bound a) (lines_within bound a)) ++ one_refusal Proof (first_fault form.name (end_line_within bound b) (lines_within bound b))
    ++ faults_from form [] (end_line_within bound b) (drop 1 (lines_within bound b)) (drop 1 (lines_within bound a)))

unfoldable pub verdict_within : ℕ → Form → List ℕ → List ℕ → Verdict
verdict_within bound Idrup a b = verdict_by_within bound without_ids a b
verdict_within bound Lidrup a b = verdict_by_within bound with_ids a b

-- ---- What an accepted pair certifies

abbrev pub values_before : Event → List ℕ → List ℕ
values_before (events.Values ls) more = ls ++ more
values_before _ more = []

abbrev pub failed_before : Event → List ℕ → List ℕ
failed_before (events.Failed ls) more = ls ++ more
failed_before _ more = []

-- the literals of the run of `v` lines, or of `f` lines, that stands first
unfoldable pub values_told : List Event → List ℕ
values_told [] = []
values_told (e ∷ es) = let more = values_told es in values_before e more

unfoldable pub failed_told : List Event → List ℕ
failed_told [] = []
failed_told (e ∷ es) = let more = failed_told es in failed_before e more

-- the literals that the lines behind an answer tell of a model: those of an `m` line, or of the run of `v` lines
abbrev pub model_told : List Event → List ℕ
model_told (events.Model m ∷ es) = m
model_told es = values_told es

-- a core line, where one stands first
abbrev pub core_told : List Event → Option (List ℕ)
core_told (events.Core u ∷ es) = Some u
core_told _ = None

-- the step of the proof behind the answer to the query that as many others stand before
pub record IsAnswer (es : List Event) (before : List Event) (status : StatusWord) (answer : Event) : Type 0 where
  pub earlier : List Event
  pub later : List Event
  pub parts : es ≡ earlier ++ events.Status status ∷ answer ∷ later
  pub same_query : length (filter_map query_of earlier) ≡ length (filter_map query_of before)

-- the proof's model for a query: with the assumptions and what the interaction tells it satisfies the clauses
pub record ModelHolds (proved before after : List Event) : Type 0 where
  pub model : List ℕ
  pub is_proved : IsAnswer proved before Satisfiable (events.Model model)
  pub satisfies : IsSatisfiable (inputs before) (assumed before ++ (model_told after ++ model))

-- a core line of the interaction, where there is one: it has assumptions alone, all of the proof's core, and contradicts the clauses
abbrev pub ToldCoreHolds : List (List ℕ) → List ℕ → List ℕ → Option (List ℕ) → Type 0
ToldCoreHolds cs under core None = Unit {0}
ToldCoreHolds cs under core (Some u) = IsTrue (is_part u under) × IsTrue (is_part core u) × Contradicts cs u

-- the proof's core for a query: it has assumptions alone and contradicts the clauses, and so does a core that the interaction
-- tells; failed assumptions that it tells are in the proof's core
pub record CoreHolds (proved before after : List Event) : Type 0 where
  pub core : List ℕ
  pub is_proved : IsAnswer proved before Unsatisfiable (events.Core core)
  pub is_assumed : IsTrue (is_part core (assumed before))
  pub contradicts : Contradicts (inputs before) core
  pub told : ToldCoreHolds (inputs before) (assumed before) core (core_told after)
  pub failed : IsTrue (is_part (failed_told after) core)

-- at each satisfiable answer of the interaction's events the proof's model for its query holds, and at each unsatisfiable one its
-- core, with what the interaction tells of them
pub record Certified (es proved : List Event) : Type 0 where
  pub models : (before after : List Event) → es ≡ before ++ events.Status Satisfiable ∷ after → ModelHolds proved before after
  pub cores : (before after : List Event) → es ≡ before ++ events.Status Unsatisfiable ∷ after → CoreHolds proved before after

-- the events of an interaction's bytes
abbrev pub events_in : List ℕ → List Event
events_in a = map (λ p. p.1) (steps_of icnf_line a)
