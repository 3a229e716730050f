-- Small cases of the definitions, each computed.
use Rattle.std.proofs.Common.{◌≡◌, ℕ, zero, suc, true, false, List, [], ◌∷◌, codes, refl, Option, Some, None}
use Prim.Native.String.{String}
use Rattle.std.specs.Fmt.{digits}
use Rattle.lits.specs.Word.{literal_word, id_word, magnitude, numeral}
use Rattle.lits.specs.declared.LitWord.TheVariants as literals
use Rattle.session_rules.specs.declared.Form.{Form}
use Rattle.session_rules.specs.declared.Form.TheVariants.{Idrup}
use Rattle.session_rules.specs.declared.StatusWord.TheVariants.{Satisfiable, Unknown}
use Rattle.session_rules.specs.declared.Event.TheVariants as events
use Rattle.session_rules.specs.declared.Step.TheVariants as steps
use Rattle.session_rules.specs.declared.LStep.TheVariants as lsteps
use Rattle.session_rules.specs.declared.Standing.TheVariants.{Weakened}
use Rattle.session_rules.specs.declared.Rule.{Rule}
use Rattle.session_rules.specs.declared.Rule.TheVariants as rules
use Rattle.session_rules.specs.declared.Verdict.{Verdict}
use Rattle.session_rules.specs.declared.Verdict.TheVariants.{Accepted}
use Rattle.session_rules.specs.Lines.{Line, lines, lines_within, all_lines, numbered, words, ends_in_word, end_line, end_line_within}
use Rattle.session_rules.specs.Logic.{closes, propagated, propagated_times, hints_fail, hints_fail_from}
use Rattle.session_rules.specs.Reading.{icnf_line, idrup_line, lidrup_line, header_line, header_fault, literal_list, id_list, own_id, status_word, same_word, broken, values_of, steps_of}
use Rattle.session_rules.specs.Spelling.{text, step_words}
use Rattle.session_rules.specs.History.{phase}
use Rattle.session_rules.specs.declared.Phase.TheVariants.{Idle, Asked, Told}
use Rattle.session_rules.specs.Own.{own_faults, own_id_faults, active_copies, weakened_copies, standing_after}
use Rattle.session_rules.specs.Pair.{pair_faults, faults_from, pair_refusals, verdict_by, verdict}

-- ---- Lines and words

-- a line that isn't cut
abbrev plain_line : ℕ → List (List ℕ) → Line
plain_line n ws = record { number = n; words = ws; cut = false; word_cut = false }

words_split : words (codes "i 1  -2 0") ≡ codes "i" ∷ codes "1" ∷ codes "-2" ∷ codes "0" ∷ []
unfolding words
words_split = refl

two_lines : lines (codes "c x\ni 1 0\r\n\nq 0") ≡
    plain_line 2 (codes "i" ∷ codes "1" ∷ codes "0" ∷ []) ∷
    plain_line 4 (codes "q" ∷ codes "0" ∷ []) ∷ []
unfolding lines lines_within all_lines numbered words ends_in_word end_line end_line_within
two_lines = refl

-- a stream that is cut behind 7 bytes: the last word may go on
cut_line_seen : lines_within 7 (codes "q 0\ni 12 0") ≡
    plain_line 1 (codes "q" ∷ codes "0" ∷ []) ∷
    record { number = 2; words = codes "i" ∷ codes "1" ∷ []; cut = true; word_cut = true } ∷ []
unfolding lines_within all_lines numbered words ends_in_word
cut_line_seen = refl

-- ---- Words as literals

literal_minus_12 : literal_word (codes "-12") ≡ literals.Value 23
unfolding literal_word magnitude numeral
literal_minus_12 = refl

greatest_literal : literal_word (codes "2147483647") ≡ literals.Value 4294967292
unfolding literal_word magnitude numeral
greatest_literal = refl

beyond_limit : literal_word (codes "2147483648") ≡ literals.OutOfRange
unfolding literal_word magnitude numeral
beyond_limit = refl

minus_zero : literal_word (codes "-0") ≡ literals.NotNumber
unfolding literal_word magnitude numeral
minus_zero = refl

leading_zero : literal_word (codes "01") ≡ literals.NotNumber
unfolding literal_word magnitude numeral
leading_zero = refl

-- ---- Lines and their faults

-- the rule that a line of a proof without ids breaks
step_rule : String → Option Rule
unfolding idrup_line literal_list status_word same_word literal_word magnitude numeral words
step_rule s = broken idrup_line (plain_line 1 (words (codes s)))

id_step_rule : String → Option Rule
unfolding lidrup_line literal_list id_list own_id status_word same_word literal_word magnitude numeral id_word words
id_step_rule s = broken lidrup_line (plain_line 1 (words (codes s)))

letter_broken : step_rule "x 1 0" ≡ Some rules.Letter
unfolding step_rule
letter_broken = refl

unclosed_broken : step_rule "l 1" ≡ Some rules.Unclosed
unfolding step_rule
unclosed_broken = refl

excess_broken : step_rule "l 1 0 2" ≡ Some rules.Excess
unfolding step_rule
excess_broken = refl

number_broken : step_rule "l 01 0" ≡ Some rules.Number
unfolding step_rule
number_broken = refl

minus_zero_broken : step_rule "l -0 0" ≡ Some rules.Number
unfolding step_rule
minus_zero_broken = refl

word_broken : step_rule "s MAYBE" ≡ Some rules.Word
unfolding step_rule
word_broken = refl

word_missing : step_rule "s" ≡ Some rules.Word
unfolding step_rule
word_missing = refl

status_excess : step_rule "s SATISFIABLE 0" ≡ Some rules.Excess
unfolding step_rule
status_excess = refl

long_number : step_rule "l 111111111111111111111111111111111 0" ≡ Some rules.Number
unfolding step_rule
long_number = refl

id_unclosed : id_step_rule "l 1 2 0" ≡ Some rules.Unclosed
unfolding id_step_rule
id_unclosed = refl

id_zero : id_step_rule "i 0 1 0" ≡ Some rules.Range
unfolding id_step_rule
id_zero = refl

id_negative : id_step_rule "d -1 0" ≡ Some rules.Number
unfolding id_step_rule
id_negative = refl

nothing_broken : id_step_rule "l 4 2 0 1 2 3 0" ≡ None
unfolding id_step_rule
nothing_broken = refl

-- ---- Text

text_of_steps : text step_words (codes "idrup") (steps.Event (events.Input (0 ∷ 3 ∷ [])) ∷ steps.Lemma (2 ∷ []) ∷ steps.Event (events.Status Unknown) ∷ [])
    ≡ codes "p idrup\ni 1 -2 0\nl 2 0\ns UNKNOWN\n"
unfolding digits
text_of_steps = refl

steps_of_text : steps_of idrup_line (codes "p idrup\ni 1 -2 0\nl 2 0\ns UNKNOWN\n")
    ≡ (2, steps.Event (events.Input (0 ∷ 3 ∷ []))) ∷ (3, steps.Lemma (2 ∷ [])) ∷ (4, steps.Event (events.Status Unknown)) ∷ []
unfolding values_of idrup_line literal_list status_word same_word literal_word magnitude numeral lines lines_within all_lines numbered words ends_in_word end_line end_line_within
steps_of_text = refl

-- ---- The verdict

row : Form → String → String → Verdict
unfolding verdict verdict_by pair_refusals faults_from pair_faults own_faults own_id_faults closes propagated propagated_times hints_fail hints_fail_from values_of icnf_line idrup_line lidrup_line literal_list id_list own_id status_word same_word literal_word magnitude numeral id_word header_line header_fault lines lines_within all_lines numbered words ends_in_word end_line end_line_within
row form a b = verdict form (codes a) (codes b)

row_1 : row Idrup "p icnf\ni 1 0\nq 0\ns SATISFIABLE\nm 1 0\n" "p idrup\ni 1 0\nq 0\ns SATISFIABLE\nm 1 0\n" ≡ Accepted 1
unfolding row
row_1 = refl

-- ---- Hints, by themselves: clauses 1 2, -1 3, -1 -3 under the ids 1, 2, 3, and the lemma 2

three : ℕ → Option (List ℕ)
three (suc zero) = Some (0 ∷ 2 ∷ [])
three (suc (suc zero)) = Some (1 ∷ 4 ∷ [])
three (suc (suc (suc zero))) = Some (1 ∷ 5 ∷ [])
three _ = None

hints_of : List ℕ → Option ℕ
unfolding hints_fail hints_fail_from three
hints_of hs = hints_fail three (3 ∷ []) hs

hints_close_in_order : hints_of (1 ∷ 2 ∷ 3 ∷ []) ≡ None
unfolding hints_of
hints_close_in_order = refl

two_open : hints_of (2 ∷ 1 ∷ 3 ∷ []) ≡ Some 1
unfolding hints_of
two_open = refl

later_not_read : hints_of (1 ∷ 2 ∷ 3 ∷ 9 ∷ []) ≡ None
unfolding hints_of
later_not_read = refl

hints_end_open : hints_of (1 ∷ 2 ∷ []) ≡ Some 3
unfolding hints_of
hints_end_open = refl

-- ---- Phases and counts

phase_asked : phase (events.Input (0 ∷ []) ∷ events.Query [] ∷ []) ≡ Asked
phase_asked = refl

phase_told : phase (events.Query [] ∷ events.Status Satisfiable ∷ []) ≡ Told Satisfiable
phase_told = refl

phase_unknown : phase (events.Query [] ∷ events.Status Unknown ∷ []) ≡ Idle
phase_unknown = refl

-- i 1 2, l 2 1, w 1 2: one copy is active and one weakened
one_active : active_copies (steps.Event (events.Input (0 ∷ 2 ∷ [])) ∷ steps.Lemma (2 ∷ 0 ∷ []) ∷ steps.Weaken (0 ∷ 2 ∷ []) ∷ []) (2 ∷ 0 ∷ 2 ∷ []) ≡ 1
one_active = refl

one_weakened : weakened_copies (steps.Event (events.Input (0 ∷ 2 ∷ [])) ∷ steps.Lemma (2 ∷ 0 ∷ []) ∷ steps.Weaken (0 ∷ 2 ∷ []) ∷ []) (2 ∷ 0 ∷ []) ≡ 1
one_weakened = refl

id_weakened : standing_after (lsteps.Input 1 (0 ∷ []) ∷ lsteps.Weaken (1 ∷ []) ∷ []) 1 ≡ Weakened
id_weakened = refl

-- ---- Lines that are cut

-- the first content line of these bytes of which so many may be read, behind a header that isn't looked at
cut_rule : ℕ → String → Option Rule
unfolding idrup_line literal_list status_word same_word literal_word magnitude numeral words lines_within all_lines numbered ends_in_word
cut_rule limit s = rule_of_first (lines_within limit (codes s))
  where
    rule_of_first : List Line → Option Rule
    rule_of_first [] = None
    rule_of_first (line ∷ more) = broken idrup_line line

cut_in_word : cut_rule 4 "l 12 0\n" ≡ Some rules.Length
unfolding cut_rule
cut_in_word = refl

cut_behind_wrong_word : cut_rule 5 "l x 12 0\n" ≡ Some rules.Number
unfolding cut_rule
cut_behind_wrong_word = refl

cut_at_wrong_word : cut_rule 3 "l x 12 0\n" ≡ Some rules.Length
unfolding cut_rule
cut_at_wrong_word = refl

cut_in_long_word : cut_rule 35 "l 1111111111111111111111111111111111111 0\n" ≡ Some rules.Number
unfolding cut_rule
cut_in_long_word = refl

cut_in_comment : cut_rule 3 "c x y\n" ≡ Some rules.Length
unfolding cut_rule
cut_in_comment = refl

not_cut : cut_rule 6 "l 1 0\n" ≡ None
unfolding cut_rule
not_cut = refl
