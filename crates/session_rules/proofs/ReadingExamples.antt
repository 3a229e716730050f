-- Small cases of reading: scripts, headers, and words that begin a line.
use Rattle.std.proofs.Common.{◌≡◌, ℕ, false, [], ◌∷◌, codes, refl, Option, Some, None, All, arith}
use Prim.Native.String.{String}
use Rattle.std.specs.Fmt.{digits}
use Rattle.lits.specs.Literal.{IsLiteral}
use Rattle.lits.specs.Word.{literal_word, id_word, magnitude, numeral}
use Rattle.session_rules.specs.declared.Event.TheVariants as events
use Rattle.session_rules.specs.declared.Step.TheVariants as steps
use Rattle.session_rules.specs.declared.Rule.{Rule}
use Rattle.session_rules.specs.declared.Rule.TheVariants as rules
use Rattle.session_rules.specs.Lines.{lines, lines_within, all_lines, numbered, words, ends_in_word, end_line, end_line_within}
use Rattle.session_rules.specs.Reading.{script_line, idrup_line, lidrup_line, header_line, header_fault, first_fault, literal_list, id_list, own_id, status_word, same_word, broken, values_of, steps_of}
use Rattle.session_rules.specs.Spelling.{text, event_words, step_words, id_step_words, IsStep, IsIdStep}
use Rattle.session_rules.specs.WrongWord.{Begins, BreaksByWord, BreaksAtEnd}
use Rattle.session_rules.proofs.Spelled.{All-cons}
use Rattle.session_rules.proofs.Forms.{idrup_read, lidrup_read}

-- ---- Scripts

script_rule : String → Option Rule
unfolding script_line literal_list literal_word magnitude numeral words
script_rule s = broken script_line record { number = 1; words = words (codes s); cut = false; word_cut = false }

script_input : script_rule "i 1 -2 0" ≡ None
unfolding script_rule
script_input = refl

script_query : script_rule "q 0" ≡ None
unfolding script_rule
script_query = refl

status_in_script : script_rule "s SATISFIABLE" ≡ Some rules.Letter
unfolding script_rule
status_in_script = refl

model_in_script : script_rule "m 1 0" ≡ Some rules.Letter
unfolding script_rule
model_in_script = refl

lemma_in_script : script_rule "l 1 0" ≡ Some rules.Letter
unfolding script_rule
lemma_in_script = refl

script_unclosed : script_rule "q 1" ≡ Some rules.Unclosed
unfolding script_rule
script_unclosed = refl

script_excess : script_rule "i 1 0 0" ≡ Some rules.Excess
unfolding script_rule
script_excess = refl

script_text : text event_words (codes "icnf") (events.Input (1 ∷ 2 ∷ []) ∷ events.Query (0 ∷ 0 ∷ []) ∷ []) ≡ codes "p icnf\ni -1 2 0\nq 1 1 0\n"
unfolding digits
script_text = refl

script_steps : steps_of script_line (codes "c x\np icnf\ni -1 2 0\n\nq 1 1 0") ≡ (3, events.Input (1 ∷ 2 ∷ [])) ∷ (5, events.Query (0 ∷ 0 ∷ [])) ∷ []
unfolding values_of script_line literal_list literal_word magnitude numeral lines lines_within all_lines numbered words ends_in_word
script_steps = refl

-- ---- Headers

header_of : String → Option (ℕ × Rule)
unfolding header_fault header_line same_word lines lines_within all_lines numbered words ends_in_word end_line end_line_within
header_of s = header_fault (codes "icnf") (codes s)

header_whole : header_of "c x\n  p  icnf\r\ni 1 0\n" ≡ None
unfolding header_of
header_whole = refl

header_of_nothing : header_of "" ≡ Some (1, rules.Header)
unfolding header_of
header_of_nothing = refl

header_of_comments : header_of "c x\n\nc p icnf\n" ≡ Some (4, rules.Header)
unfolding header_of
header_of_comments = refl

header_of_another : header_of "\np idrup\n" ≡ Some (2, rules.Header)
unfolding header_of
header_of_another = refl

header_of_one_word : header_of "p\n" ≡ Some (1, rules.Header)
unfolding header_of
header_of_one_word = refl

header_of_three_words : header_of "p icnf 0\n" ≡ Some (1, rules.Header)
unfolding header_of
header_of_three_words = refl

-- a header of which so many bytes may be read
cut_header : ℕ → String → Option (ℕ × Rule)
unfolding header_line same_word lines_within all_lines numbered words ends_in_word
cut_header limit s = first_fault (codes "icnf") 1 (lines_within limit (codes s))

header_cut : cut_header 6 "p icnf \n" ≡ Some (1, rules.Length)
unfolding cut_header
header_cut = refl

header_cut_in_third_word : cut_header 8 "p icnf 00" ≡ Some (1, rules.Length)
unfolding cut_header
header_cut_in_third_word = refl

header_cut_behind_third_word : cut_header 9 "p icnf 0 0" ≡ Some (1, rules.Header)
unfolding cut_header
header_cut_behind_third_word = refl

-- ---- Words that begin a line

one_literal : All IsLiteral (0 ∷ [])
one_literal = All-cons IsLiteral 0 [] (omega arith) (λ i d lt. absurd (omega arith))

lemma_begun : Begins IsStep step_words (codes "l" ∷ codes "1" ∷ [])
unfolding digits
lemma_begun = record { value = steps.Lemma (0 ∷ []); fits = one_literal; more = codes "0" ∷ []; spelled = refl }

-- the rule of these words alone
wrong_number : (r : Rule) → BreaksByWord IsStep step_words (codes "l" ∷ codes "1" ∷ codes "01" ∷ codes "x" ∷ []) r → r ≡ rules.Number
unfolding idrup_line literal_list literal_word magnitude numeral
wrong_number r b = cc ((idrup_read.by_word (codes "l" ∷ codes "1" ∷ codes "01" ∷ codes "x" ∷ []) r).1 b)

number_is_wrong : BreaksByWord IsStep step_words (codes "l" ∷ codes "1" ∷ codes "01" ∷ codes "x" ∷ []) rules.Number
unfolding idrup_line literal_list literal_word magnitude numeral
number_is_wrong = (idrup_read.by_word (codes "l" ∷ codes "1" ∷ codes "01" ∷ codes "x" ∷ []) rules.Number).0 refl

-- 0 is no id of a line
zero_is_wrong : BreaksByWord IsIdStep id_step_words (codes "l" ∷ codes "0" ∷ []) rules.Range
unfolding lidrup_line own_id id_word
zero_is_wrong = (lidrup_read.by_word (codes "l" ∷ codes "0" ∷ []) rules.Range).0 refl

-- hints are due behind the literals
hints_due : BreaksAtEnd IsIdStep id_step_words (codes "u" ∷ codes "0" ∷ []) rules.Unclosed
unfolding lidrup_line literal_list id_list literal_word
hints_due = (lidrup_read.at_end (codes "u" ∷ codes "0" ∷ []) rules.Unclosed).0 refl

status_is_due : BreaksAtEnd IsStep step_words (codes "s" ∷ []) rules.Word
unfolding idrup_line status_word
status_is_due = (idrup_read.at_end (codes "s" ∷ []) rules.Word).0 refl
