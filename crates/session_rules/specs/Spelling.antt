-- The words of each value, and the text of values.
use Rattle.std.specs.Prelude.{◌+◌, ◌≡◌, ℕ, ◌^◌, ◌<◌, List, [], ◌∷◌, ◌++◌, length, map, flat_map, codes, decimal, All}
use Rattle.lits.specs.Literal.{IsLiteral}
use Rattle.lits.specs.Word.{literal_text}
use Rattle.session_rules.specs.declared.StatusWord.{StatusWord}
use Rattle.session_rules.specs.declared.StatusWord.TheVariants.{Satisfiable, Unsatisfiable, Unknown}
use Rattle.session_rules.specs.declared.Event.{Event}
use Rattle.session_rules.specs.declared.Event.TheVariants as events
use Rattle.session_rules.specs.declared.Step.{Step}
use Rattle.session_rules.specs.declared.Step.TheVariants as steps
use Rattle.session_rules.specs.declared.LStep.{LStep}
use Rattle.session_rules.specs.declared.LStep.TheVariants as lsteps
use Rattle.session_rules.specs.Lines.{most_bytes}

-- the words of literals and a 0, and of ids and a 0
abbrev pub literal_words : List ℕ → List (List ℕ)
literal_words ls = map literal_text ls ++ codes "0" ∷ []

abbrev pub id_words : List ℕ → List (List ℕ)
id_words is = map decimal is ++ codes "0" ∷ []

abbrev pub status_text : StatusWord → List ℕ
status_text Satisfiable = codes "SATISFIABLE"
status_text Unsatisfiable = codes "UNSATISFIABLE"
status_text Unknown = codes "UNKNOWN"

-- the words of a line of the interaction
abbrev pub event_words : Event → List (List ℕ)
event_words (events.Input ls) = codes "i" ∷ literal_words ls
event_words (events.Query ls) = codes "q" ∷ literal_words ls
event_words (events.Status s) = codes "s" ∷ status_text s ∷ []
event_words (events.Model ls) = codes "m" ∷ literal_words ls
event_words (events.Core ls) = codes "u" ∷ literal_words ls
event_words (events.Values ls) = codes "v" ∷ literal_words ls
event_words (events.Failed ls) = codes "f" ∷ literal_words ls

-- of a line of a proof without ids
abbrev pub step_words : Step → List (List ℕ)
step_words (steps.Event e) = event_words e
step_words (steps.Lemma ls) = codes "l" ∷ literal_words ls
step_words (steps.Delete ls) = codes "d" ∷ literal_words ls
step_words (steps.Weaken ls) = codes "w" ∷ literal_words ls
step_words (steps.Restore ls) = codes "r" ∷ literal_words ls

-- of a line of a proof with ids
abbrev pub id_step_words : LStep → List (List ℕ)
id_step_words (lsteps.Input id ls) = codes "i" ∷ decimal id ∷ literal_words ls
id_step_words (lsteps.Lemma id ls hs) = codes "l" ∷ decimal id ∷ (literal_words ls ++ id_words hs)
id_step_words (lsteps.Delete is) = codes "d" ∷ id_words is
id_step_words (lsteps.Weaken is) = codes "w" ∷ id_words is
id_step_words (lsteps.Restore is) = codes "r" ∷ id_words is
id_step_words (lsteps.Query ls) = codes "q" ∷ literal_words ls
id_step_words (lsteps.Status s) = codes "s" ∷ status_text s ∷ []
id_step_words (lsteps.Model ls) = codes "m" ∷ literal_words ls
id_step_words (lsteps.Core ls hs) = codes "u" ∷ (literal_words ls ++ id_words hs)

-- the words of a header
abbrev pub header_words : List ℕ → List (List ℕ)
header_words name = codes "p" ∷ name ∷ []

-- a line of these words
abbrev pub line_text : List (List ℕ) → List ℕ
line_text [] = 10 ∷ []
line_text (w ∷ []) = w ++ 10 ∷ []
line_text (w ∷ x ∷ ws) = w ++ 32 ∷ line_text (x ∷ ws)

-- a header and a line for each value
abbrev pub text : {A : Type 0} → (A → List (List ℕ)) → List ℕ → List A → List ℕ
text words_of name values = line_text (header_words name) ++ flat_map (λ v. line_text (words_of v)) values

-- values with the numbers of their lines, from a number on
unfoldable pub numbered_values : {A : Type 0} → ℕ → List A → List (ℕ × A)
numbered_values n [] = []
numbered_values n (x ∷ xs) = (n, x) ∷ numbered_values (n + 1) xs

-- ---- What has a spelling

abbrev pub AreLiterals : List ℕ → Type 0
AreLiterals ls = All IsLiteral ls

abbrev pub IsId : ℕ → Type 0
IsId i = (0 < i) × (i < 2 ^ 63)

abbrev pub AreIds : List ℕ → Type 0
AreIds is = All IsId is

abbrev pub IsEvent : Event → Type 0
IsEvent (events.Input ls) = AreLiterals ls
IsEvent (events.Query ls) = AreLiterals ls
IsEvent (events.Status s) = Unit {0}
IsEvent (events.Model ls) = AreLiterals ls
IsEvent (events.Core ls) = AreLiterals ls
IsEvent (events.Values ls) = AreLiterals ls
IsEvent (events.Failed ls) = AreLiterals ls

-- of a proof: parts of models and of cores are lines of the interaction alone
abbrev pub IsProofEvent : Event → Type 0
IsProofEvent (events.Input ls) = AreLiterals ls
IsProofEvent (events.Query ls) = AreLiterals ls
IsProofEvent (events.Status s) = Unit {0}
IsProofEvent (events.Model ls) = AreLiterals ls
IsProofEvent (events.Core ls) = AreLiterals ls
IsProofEvent (events.Values ls) = ⊥
IsProofEvent (events.Failed ls) = ⊥

-- of a script: inputs and queries alone
abbrev pub IsScriptLine : Event → Type 0
IsScriptLine (events.Input ls) = AreLiterals ls
IsScriptLine (events.Query ls) = AreLiterals ls
IsScriptLine _ = ⊥

abbrev pub IsStep : Step → Type 0
IsStep (steps.Event e) = IsProofEvent e
IsStep (steps.Lemma ls) = AreLiterals ls
IsStep (steps.Delete ls) = AreLiterals ls
IsStep (steps.Weaken ls) = AreLiterals ls
IsStep (steps.Restore ls) = AreLiterals ls

abbrev pub IsIdStep : LStep → Type 0
IsIdStep (lsteps.Input id ls) = IsId id × AreLiterals ls
IsIdStep (lsteps.Lemma id ls hs) = IsId id × AreLiterals ls × AreIds hs
IsIdStep (lsteps.Delete is) = AreIds is
IsIdStep (lsteps.Weaken is) = AreIds is
IsIdStep (lsteps.Restore is) = AreIds is
IsIdStep (lsteps.Query ls) = AreLiterals ls
IsIdStep (lsteps.Status s) = Unit {0}
IsIdStep (lsteps.Model ls) = AreLiterals ls
IsIdStep (lsteps.Core ls hs) = AreLiterals ls × AreIds hs

-- the words spell the value
abbrev pub Spells : {A : Type 0} → (A → Type 0) → (A → List (List ℕ)) → List (List ℕ) → A → Type 0
Spells Fits words_of words value = Fits value × (words ≡ words_of value)

-- ---- Limits

-- the text written so far and the line of a value have more bytes than are read
abbrev pub Overfull : {A : Type 0} → (A → List (List ℕ)) → List ℕ → A → Type 0
Overfull words_of written value = most_bytes < length written + length (line_text (words_of value))
