-- What the words of a line say, read from left to right, with the first fault.
use Rattle.std.specs.Prelude.{ℕ, Bool, ◌&&◌, nat_eq, if◌then◌else◌, List, [], ◌∷◌, length, drop, Option, Some, None, Result, Ok, Err, codes}
use Rattle.std.specs.List.{starts_with}
use Rattle.lits.specs.declared.LitWord.{LitWord}
use Rattle.lits.specs.declared.LitWord.TheVariants as literals
use Rattle.lits.specs.declared.IdWord.{IdWord}
use Rattle.lits.specs.declared.IdWord.TheVariants as ids
use Rattle.lits.specs.Word.{literal_word, id_word}
use Rattle.session_rules.specs.declared.Letter.{Letter}
use Rattle.session_rules.specs.declared.Letter.TheVariants as letters
use Rattle.session_rules.specs.declared.StatusWord.{StatusWord}
use Rattle.session_rules.specs.declared.StatusWord.TheVariants.{Satisfiable, Unsatisfiable, Unknown}
use Rattle.session_rules.specs.declared.Event.{Event}
use Rattle.session_rules.specs.declared.Event.TheVariants as events
use Rattle.session_rules.specs.declared.Step.{Step}
use Rattle.session_rules.specs.declared.Step.TheVariants as steps
use Rattle.session_rules.specs.declared.LStep.{LStep}
use Rattle.session_rules.specs.declared.LStep.TheVariants as lsteps
use Rattle.session_rules.specs.declared.Rule.{Rule}
use Rattle.session_rules.specs.declared.Rule.TheVariants as rules
use Rattle.session_rules.specs.Lines.{Line, lines, end_line, judged_words}

-- a word breaks a rule, or the line ends where a word is due
pub data Fault : Type 0 where
  wrong : Rule → Fault
  missing : Rule → Fault

-- the rule of a fault
abbrev pub rule_of : Fault → Rule
rule_of (wrong r) = r
rule_of (missing r) = r

infixl 10 ◌>>=◌
abbrev pub ◌>>=◌ : {A B : Type 0} → Result A Fault → (A → Result B Fault) → Result B Fault
(Ok x) >>= f = f x
(Err e) >>= f = Err e

-- a part of a line: its value and the words after it
abbrev pub Part : Type 0 → Type 0
Part A = Result (A × List (List ℕ)) Fault

-- ---- Parts

-- the whole line was read, unless a word is left
abbrev pub whole : {A : Type 0} → A → List (List ℕ) → Result A Fault
whole x [] = Ok x
whole x (w ∷ ws) = Err (wrong rules.Excess)

-- a literal and more, or the 0 that ends the list
abbrev pub literals_after : LitWord → List (List ℕ) → Part (List ℕ) → Part (List ℕ)
literals_after literals.Zero ws more = Ok ([], ws)
literals_after (literals.Value l) ws more = more >>= λ m. Ok (l ∷ m.0, m.1)
literals_after literals.NotNumber ws more = Err (wrong rules.Number)
literals_after literals.OutOfRange ws more = Err (wrong rules.Range)

-- literals and a 0
unfoldable pub literal_list : List (List ℕ) → Part (List ℕ)
literal_list [] = Err (missing rules.Unclosed)
literal_list (w ∷ ws) = literals_after (literal_word w) ws (literal_list ws)

abbrev pub ids_after : IdWord → List (List ℕ) → Part (List ℕ) → Part (List ℕ)
ids_after ids.Zero ws more = Ok ([], ws)
ids_after (ids.Value i) ws more = more >>= λ m. Ok (i ∷ m.0, m.1)
ids_after ids.NotNumber ws more = Err (wrong rules.Number)
ids_after ids.OutOfRange ws more = Err (wrong rules.Range)

-- ids and a 0
unfoldable pub id_list : List (List ℕ) → Part (List ℕ)
id_list [] = Err (missing rules.Unclosed)
id_list (w ∷ ws) = ids_after (id_word w) ws (id_list ws)

abbrev pub id_or_fault : IdWord → List (List ℕ) → Part ℕ
id_or_fault ids.Zero ws = Err (wrong rules.Range)
id_or_fault (ids.Value i) ws = Ok (i, ws)
id_or_fault ids.NotNumber ws = Err (wrong rules.Number)
id_or_fault ids.OutOfRange ws = Err (wrong rules.Range)

-- a line's own id
unfoldable pub own_id : List (List ℕ) → Part ℕ
own_id [] = Err (missing rules.Unclosed)
own_id (w ∷ ws) = id_or_fault (id_word w) ws

-- whether two words are the same
unfoldable pub same_word : List ℕ → List ℕ → Bool
same_word v w = nat_eq (length v) (length w) && starts_with nat_eq v w

-- a status
unfoldable pub status_word : List (List ℕ) → Part StatusWord
status_word [] = Err (missing rules.Word)
status_word (w ∷ ws) = if same_word w (codes "SATISFIABLE") then Ok (Satisfiable, ws)
    else (if same_word w (codes "UNSATISFIABLE") then Ok (Unsatisfiable, ws)
    else (if same_word w (codes "UNKNOWN") then Ok (Unknown, ws) else Err (wrong rules.Word)))

-- ---- Lines

-- the letter that a byte is
abbrev pub letter_of_byte : ℕ → Letter
letter_of_byte b = if nat_eq b 105 then letters.Input else (if nat_eq b 113 then letters.Query else (if nat_eq b 115 then letters.Status
    else (if nat_eq b 109 then letters.Model else (if nat_eq b 117 then letters.Core else (if nat_eq b 108 then letters.Lemma
    else (if nat_eq b 100 then letters.Deletion else (if nat_eq b 119 then letters.Weakening else (if nat_eq b 114 then letters.Restoring
    else (if nat_eq b 118 then letters.Values else (if nat_eq b 102 then letters.Failed else letters.NoLetter))))))))))

-- the letter that a word is
abbrev pub letter_of : List ℕ → Letter
letter_of [] = letters.NoLetter
letter_of (b ∷ []) = letter_of_byte b
letter_of (b ∷ c ∷ bs) = letters.NoLetter

-- a line of literals alone, and one of ids alone
abbrev pub of_literals : {A : Type 0} → (List ℕ → A) → List (List ℕ) → Result A Fault
of_literals make ws = literal_list ws >>= λ ls. whole (make ls.0) ls.1

abbrev pub of_ids : {A : Type 0} → (List ℕ → A) → List (List ℕ) → Result A Fault
of_ids make ws = id_list ws >>= λ is. whole (make is.0) is.1

abbrev pub of_status : {A : Type 0} → (StatusWord → A) → List (List ℕ) → Result A Fault
of_status make ws = status_word ws >>= λ s. whole (make s.0) s.1

-- what stands behind the letter of an event
abbrev pub event_at : Letter → List (List ℕ) → Result Event Fault
event_at letters.Input ws = of_literals events.Input ws
event_at letters.Query ws = of_literals events.Query ws
event_at letters.Status ws = of_status events.Status ws
event_at letters.Model ws = of_literals events.Model ws
event_at letters.Core ws = of_literals events.Core ws
event_at letters.Values ws = of_literals events.Values ws
event_at letters.Failed ws = of_literals events.Failed ws
event_at _ ws = Err (wrong rules.Letter)

-- of a script's line
abbrev pub script_at : Letter → List (List ℕ) → Result Event Fault
script_at letters.Input ws = of_literals events.Input ws
script_at letters.Query ws = of_literals events.Query ws
script_at _ ws = Err (wrong rules.Letter)

-- of a line of a proof without ids
abbrev pub step_at : Letter → List (List ℕ) → Result Step Fault
step_at letters.Lemma ws = of_literals steps.Lemma ws
step_at letters.Deletion ws = of_literals steps.Delete ws
step_at letters.Weakening ws = of_literals steps.Weaken ws
step_at letters.Restoring ws = of_literals steps.Restore ws
step_at letters.Values ws = Err (wrong rules.Letter)
step_at letters.Failed ws = Err (wrong rules.Letter)
step_at letter ws = event_at letter ws >>= λ e. Ok (steps.Event e)

-- of a line of a proof with ids
abbrev pub id_step_at : Letter → List (List ℕ) → Result LStep Fault
id_step_at letters.Input ws = own_id ws >>= λ i. literal_list i.1 >>= λ ls. whole (lsteps.Input i.0 ls.0) ls.1
id_step_at letters.Lemma ws = own_id ws >>= λ i. literal_list i.1 >>= λ ls. id_list ls.1 >>= λ hs. whole (lsteps.Lemma i.0 ls.0 hs.0) hs.1
id_step_at letters.Core ws = literal_list ws >>= λ ls. id_list ls.1 >>= λ hs. whole (lsteps.Core ls.0 hs.0) hs.1
id_step_at letters.Query ws = of_literals lsteps.Query ws
id_step_at letters.Status ws = of_status lsteps.Status ws
id_step_at letters.Model ws = of_literals lsteps.Model ws
id_step_at letters.Deletion ws = of_ids lsteps.Delete ws
id_step_at letters.Weakening ws = of_ids lsteps.Weaken ws
id_step_at letters.Restoring ws = of_ids lsteps.Restore ws
id_step_at letters.Values ws = Err (wrong rules.Letter)
id_step_at letters.Failed ws = Err (wrong rules.Letter)
id_step_at letters.NoLetter ws = Err (wrong rules.Letter)

-- the letter, and what stands behind it
abbrev pub by_letter : {A : Type 0} → (Letter → List (List ℕ) → Result A Fault) → List (List ℕ) → Result A Fault
by_letter at [] = Err (missing rules.Letter)
by_letter at (w ∷ ws) = at (letter_of w) ws

-- what the words of a line say, in each form
unfoldable pub icnf_line : List (List ℕ) → Result Event Fault
icnf_line ws = by_letter event_at ws

unfoldable pub script_line : List (List ℕ) → Result Event Fault
script_line ws = by_letter script_at ws

unfoldable pub idrup_line : List (List ℕ) → Result Step Fault
idrup_line ws = by_letter step_at ws

unfoldable pub lidrup_line : List (List ℕ) → Result LStep Fault
lidrup_line ws = by_letter id_step_at ws

-- the words of the header with this name
unfoldable pub header_line : List ℕ → List (List ℕ) → Result (Unit {0}) Fault
header_line name [] = Err (missing rules.Header)
header_line name (w ∷ []) = Err (if same_word w (codes "p") then missing rules.Header else wrong rules.Header)
header_line name (w ∷ x ∷ []) = if same_word w (codes "p") && same_word x name then Ok tt else Err (wrong rules.Header)
header_line name (w ∷ x ∷ y ∷ ws) = Err (wrong rules.Header)

-- ---- What a line says, or the rule that it breaks

abbrev pub of_whole_line : {A : Type 0} → Result A Fault → Result A Rule
of_whole_line (Ok x) = Ok x
of_whole_line (Err f) = Err (rule_of f)

-- of a line that is cut only a wrong word is at fault before the cut
abbrev pub of_cut_line : {A : Type 0} → Result A Fault → Result A Rule
of_cut_line (Err (wrong r)) = Err r
of_cut_line _ = Err rules.Length

abbrev pub value_of : {A : Type 0} → (List (List ℕ) → Result A Fault) → Line → Result A Rule
value_of read line = if line.cut then of_cut_line (read (judged_words line)) else of_whole_line (read line.words)

abbrev pub rule_or_none : {A : Type 0} → Result A Rule → Option Rule
rule_or_none (Ok x) = None
rule_or_none (Err r) = Some r

-- the rule that a line breaks
abbrev pub broken : {A : Type 0} → (List (List ℕ) → Result A Fault) → Line → Option Rule
broken read line = rule_or_none (value_of read line)

abbrev pub value_and_more : {A : Type 0} → ℕ → Result A Rule → List (ℕ × A) → List (ℕ × A)
value_and_more number (Ok x) more = (number, x) ∷ more
value_and_more number (Err r) more = []

-- the values of lines before the first that is broken, each with its line's number
unfoldable pub values_of : {A : Type 0} → (List (List ℕ) → Result A Fault) → List Line → List (ℕ × A)
values_of read [] = []
values_of read (line ∷ more) = value_and_more line.number (value_of read line) (values_of read more)

abbrev pub with_number : ℕ → Option Rule → Option (ℕ × Rule)
with_number number None = None
with_number number (Some r) = Some (number, r)

abbrev pub first_fault : List ℕ → ℕ → List Line → Option (ℕ × Rule)
first_fault name end [] = Some (end, rules.Header)
first_fault name end (line ∷ more) = with_number line.number (broken (header_line name) line)

-- the rule and the line's number where the header is broken
unfoldable pub header_fault : List ℕ → List ℕ → Option (ℕ × Rule)
header_fault name bytes = first_fault name (end_line bytes) (lines bytes)

-- the values of a stream's lines after the header
abbrev pub steps_of : {A : Type 0} → (List (List ℕ) → Result A Fault) → List ℕ → List (ℕ × A)
steps_of read bytes = values_of read (drop 1 (lines bytes))
