-- The verdict on small pairs, each computed.
use Rattle.std.proofs.Common.{◌≡◌, ℕ, codes, refl}
use Prim.Native.String.{String}
use Rattle.lits.specs.Word.{literal_word, id_word, magnitude, numeral}
use Rattle.session_rules.specs.declared.Form.{Form}
use Rattle.session_rules.specs.declared.Form.TheVariants.{Idrup, Lidrup}
use Rattle.session_rules.specs.declared.Side.TheVariants.{Interaction, Proof}
use Rattle.session_rules.specs.declared.Rule.TheVariants as rules
use Rattle.session_rules.specs.declared.Verdict.{Verdict}
use Rattle.session_rules.specs.declared.Verdict.TheVariants.{Accepted, Refused}
use Rattle.session_rules.specs.Lines.{lines, lines_within, all_lines, numbered, words, ends_in_word, end_line, end_line_within}
use Rattle.session_rules.specs.Logic.{closes, propagated, propagated_times, hints_fail, hints_fail_from}
use Rattle.session_rules.specs.Reading.{icnf_line, idrup_line, lidrup_line, header_line, header_fault, literal_list, id_list, own_id, status_word, same_word, values_of}
use Rattle.session_rules.specs.Own.{own_faults, own_id_faults}
use Rattle.session_rules.specs.Pair.{pair_faults, run_length, faults_from, pair_refusals, verdict_by, verdict, verdict_within}

unfoldable pub row : Form → String → String → Verdict
unfolding verdict verdict_by pair_refusals faults_from run_length pair_faults own_faults own_id_faults closes propagated propagated_times hints_fail hints_fail_from values_of icnf_line idrup_line lidrup_line literal_list id_list own_id status_word same_word literal_word magnitude numeral id_word header_line header_fault lines lines_within all_lines numbered words ends_in_word end_line end_line_within
row form a b = verdict form (codes a) (codes b)

-- accepted 1 queries
pub one_model : row Idrup "p icnf\ni 1 0\nq 0\ns SATISFIABLE\nm 1 0\n" "p idrup\ni 1 0\nq 0\ns SATISFIABLE\nm 1 0\n" ≡ Accepted 1
unfolding row
one_model = refl

-- refused interaction 1 Header
pub both_empty : row Idrup "" "" ≡ Refused Interaction 1 rules.Header
unfolding row
both_empty = refl

-- refused proof 1 Header
pub proof_empty : row Idrup "p icnf\ni 1 0\nq 0\ns SATISFIABLE\nm 1 0\n" "" ≡ Refused Proof 1 rules.Header
unfolding row
proof_empty = refl

-- accepted 1 queries
pub one_core : row Idrup "p icnf\ni 1 2 0\ni -1 2 0\nq -2 0\ns UNSATISFIABLE\nu -2 0\n" "p idrup\ni 1 2 0\ni -1 2 0\nq -2 0\ns UNSATISFIABLE\nu -2 0\n" ≡ Accepted 1
unfolding row
one_core = refl

-- accepted 1 queries
pub larger_core : row Idrup "p icnf\ni 1 2 0\ni -1 2 0\nq -2 5 0\ns UNSATISFIABLE\nu -2 5 0\n" "p idrup\ni 1 2 0\ni -1 2 0\nq -2 5 0\ns UNSATISFIABLE\nu -2 0\n" ≡ Accepted 1
unfolding row
larger_core = refl

-- refused interaction 6 CorePart 5
pub core_part : row Idrup "p icnf\ni 1 2 0\ni -1 2 0\nq -2 5 0\ns UNSATISFIABLE\nu -2 0\n" "p idrup\ni 1 2 0\ni -1 2 0\nq -2 5 0\ns UNSATISFIABLE\nu -2 5 0\n" ≡ Refused Interaction 6 (rules.CorePart 8)
unfolding row
core_part = refl

-- refused interaction 6 CoreClaim 7
pub core_claim : row Idrup "p icnf\ni 1 2 0\ni -1 2 0\nq -2 5 0\ns UNSATISFIABLE\nu -2 7 0\n" "p idrup\ni 1 2 0\ni -1 2 0\nq -2 5 0\ns UNSATISFIABLE\nu -2 0\n" ≡ Refused Interaction 6 (rules.CoreClaim 12)
unfolding row
core_claim = refl

-- refused proof 6 CoreStranger 7
pub core_stranger : row Idrup "p icnf\ni 1 2 0\ni -1 2 0\nq -2 5 0\ns UNSATISFIABLE\nu -2 7 0\n" "p idrup\ni 1 2 0\ni -1 2 0\nq -2 5 0\ns UNSATISFIABLE\nu -2 7 0\n" ≡ Refused Proof 6 (rules.CoreStranger 12)
unfolding row
core_stranger = refl

-- refused proof 6 CoreOpen
pub core_open : row Idrup "p icnf\ni 1 2 0\ni -1 2 0\nq -2 5 0\ns UNSATISFIABLE\nu 5 0\n" "p idrup\ni 1 2 0\ni -1 2 0\nq -2 5 0\ns UNSATISFIABLE\nu 5 0\n" ≡ Refused Proof 6 rules.CoreOpen
unfolding row
core_open = refl

-- refused proof 5 ModelInput 1
pub model_input : row Idrup "p icnf\ni 1 2 0\nq 0\ns SATISFIABLE\nm -1 -2 0\n" "p idrup\ni 1 2 0\nq 0\ns SATISFIABLE\nm -1 -2 0\n" ≡ Refused Proof 5 (rules.ModelInput 1)
unfolding row
model_input = refl

-- refused proof 6 ModelInput 1
pub model_weakened : row Idrup "p icnf\ni 1 2 0\nq 0\ns SATISFIABLE\nm -1 -2 0\n" "p idrup\ni 1 2 0\nw 1 2 0\nq 0\ns SATISFIABLE\nm -1 -2 0\n" ≡ Refused Proof 6 (rules.ModelInput 1)
unfolding row
model_weakened = refl

-- refused proof 5 Lemma
pub lemma_of_weakened : row Idrup "p icnf\ni 1 2 0\ni -1 2 0\n" "p idrup\ni 1 2 0\ni -1 2 0\nw 1 2 0\nl 2 0\n" ≡ Refused Proof 5 rules.Lemma
unfolding row
lemma_of_weakened = refl

-- accepted 0 queries
pub lemma_of_restored : row Idrup "p icnf\ni 1 2 0\ni -1 2 0\n" "p idrup\ni 1 2 0\ni -1 2 0\nw 1 2 0\nr 1 2 0\nl 2 0\n" ≡ Accepted 0
unfolding row
lemma_of_restored = refl

-- refused proof 3 NotWeakened 1
pub not_weakened : row Idrup "p icnf\ni 1 2 0\n" "p idrup\ni 1 2 0\nr 1 2 0\n" ≡ Refused Proof 3 (rules.NotWeakened 1)
unfolding row
not_weakened = refl

-- accepted 0 queries
pub one_copy_left : row Idrup "p icnf\ni 1 2 0\ni 2 1 0\n" "p idrup\ni 1 2 0\ni 2 1 0\nd 1 2 0\nl 1 2 3 0\n" ≡ Accepted 0
unfolding row
one_copy_left = refl

-- refused proof 6 Lemma
pub no_copy_left : row Idrup "p icnf\ni 1 2 0\ni 2 1 0\n" "p idrup\ni 1 2 0\ni 2 1 0\nd 1 2 0\nd 1 2 0\nl 1 2 3 0\n" ≡ Refused Proof 6 rules.Lemma
unfolding row
no_copy_left = refl

-- refused proof 6 NotActive 1
pub not_active : row Idrup "p icnf\ni 1 2 0\ni 2 1 0\n" "p idrup\ni 1 2 0\ni 2 1 0\nd 1 2 0\nd 1 2 0\nd 2 1 0\n" ≡ Refused Proof 6 (rules.NotActive 1)
unfolding row
not_active = refl

-- accepted 0 queries
pub hints_close : row Lidrup "p icnf\ni 1 2 0\ni -1 3 0\ni -1 -3 0\n" "p lidrup\ni 1 1 2 0\ni 2 -1 3 0\ni 3 -1 -3 0\nl 4 2 0 1 2 3 0\n" ≡ Accepted 0
unfolding row
hints_close = refl

-- refused proof 5 Hint 1
pub hint_two_open : row Lidrup "p icnf\ni 1 2 0\ni -1 3 0\ni -1 -3 0\n" "p lidrup\ni 1 1 2 0\ni 2 -1 3 0\ni 3 -1 -3 0\nl 4 2 0 2 1 3 0\n" ≡ Refused Proof 5 (rules.Hint 1)
unfolding row
hint_two_open = refl

-- accepted 0 queries
pub hint_not_looked_at : row Lidrup "p icnf\ni 1 2 0\ni -1 3 0\ni -1 -3 0\n" "p lidrup\ni 1 1 2 0\ni 2 -1 3 0\ni 3 -1 -3 0\nl 4 2 0 1 2 3 9 0\n" ≡ Accepted 0
unfolding row
hint_not_looked_at = refl

-- refused proof 5 Hint 3
pub hints_end : row Lidrup "p icnf\ni 1 2 0\ni -1 3 0\ni -1 -3 0\n" "p lidrup\ni 1 1 2 0\ni 2 -1 3 0\ni 3 -1 -3 0\nl 4 2 0 1 2 0\n" ≡ Refused Proof 5 (rules.Hint 3)
unfolding row
hints_end = refl

-- refused proof 5 IdTaken
pub id_taken : row Lidrup "p icnf\ni 1 2 0\ni -1 3 0\ni -1 -3 0\n" "p lidrup\ni 1 1 2 0\ni 2 -1 3 0\ni 3 -1 -3 0\nl 3 2 0 1 2 3 0\n" ≡ Refused Proof 5 rules.IdTaken
unfolding row
id_taken = refl

-- refused proof 5 NotActive 2
pub id_not_active : row Lidrup "p icnf\ni 1 2 0\ni -1 3 0\ni -1 -3 0\n" "p lidrup\ni 1 1 2 0\ni 2 -1 3 0\ni 3 -1 -3 0\nd 2 9 0\n" ≡ Refused Proof 5 (rules.NotActive 2)
unfolding row
id_not_active = refl

-- refused proof 5 NotActive 2
pub id_twice : row Lidrup "p icnf\ni 1 2 0\ni -1 3 0\ni -1 -3 0\n" "p lidrup\ni 1 1 2 0\ni 2 -1 3 0\ni 3 -1 -3 0\nd 2 2 0\n" ≡ Refused Proof 5 (rules.NotActive 2)
unfolding row
id_twice = refl

-- refused proof 6 Hint 2
pub hint_weakened : row Lidrup "p icnf\ni 1 2 0\ni -1 3 0\ni -1 -3 0\n" "p lidrup\ni 1 1 2 0\ni 2 -1 3 0\ni 3 -1 -3 0\nw 2 0\nl 4 2 0 1 2 3 0\n" ≡ Refused Proof 6 (rules.Hint 2)
unfolding row
hint_weakened = refl

-- accepted 0 queries
pub tautology : row Idrup "p icnf\n" "p idrup\nl 4 -4 0\n" ≡ Accepted 0
unfolding row
tautology = refl

-- accepted 0 queries
pub tautology_with_id : row Lidrup "p icnf\n" "p lidrup\nl 1 4 -4 0 0\n" ≡ Accepted 0
unfolding row
tautology_with_id = refl

-- refused proof 5 ModelClash -1
pub model_clash : row Idrup "p icnf\ni 1 0\nq 0\ns SATISFIABLE\nm 1 -1 0\n" "p idrup\ni 1 0\nq 0\ns SATISFIABLE\nm 1 -1 0\n" ≡ Refused Proof 5 (rules.ModelClash 1)
unfolding row
model_clash = refl

-- refused proof 5 ModelAssumption 2
pub model_assumption : row Idrup "p icnf\ni 1 0\nq 2 0\ns SATISFIABLE\nm 1 0\n" "p idrup\ni 1 0\nq 2 0\ns SATISFIABLE\nm 1 0\n" ≡ Refused Proof 5 (rules.ModelAssumption 2)
unfolding row
model_assumption = refl

-- accepted 1 queries
pub clashing_assumptions : row Idrup "p icnf\nq 3 -3 0\ns UNSATISFIABLE\nu 3 -3 0\n" "p idrup\nq 3 -3 0\ns UNSATISFIABLE\nu 3 -3 0\n" ≡ Accepted 1
unfolding row
clashing_assumptions = refl

-- accepted 1 queries
pub no_last_line_end : row Idrup "p icnf\ni 1 2 0\ni -1 2 0\nq -2 0\ns UNSATISFIABLE\nu -2 0" "p idrup\ni 1 2 0\ni -1 2 0\nq -2 0\ns UNSATISFIABLE\nu -2 0" ≡ Accepted 1
unfolding row
no_last_line_end = refl

-- accepted 0 queries
pub greatest_variable : row Idrup "p icnf\ni 2147483647 0\n" "p idrup\ni 2147483647 0\n" ≡ Accepted 0
unfolding row
greatest_variable = refl

-- refused proof 2 Range
pub beyond_variables : row Idrup "p icnf\ni 2147483648 0\n" "p idrup\ni 2147483648 0\n" ≡ Refused Proof 2 rules.Range
unfolding row
beyond_variables = refl

-- refused interaction 2 Range
pub beyond_in_interaction : row Idrup "p icnf\ni 2147483648 0\n" "p idrup\ni 2147483647 0\n" ≡ Refused Interaction 2 rules.Range
unfolding row
beyond_in_interaction = refl

-- refused proof 2 Number
pub long_word : row Idrup "p icnf\ni 111111111111111111111111111111111 0\n" "p idrup\ni 111111111111111111111111111111111 0\n" ≡ Refused Proof 2 rules.Number
unfolding row
long_word = refl

-- refused interaction 3 Surplus
pub surplus : row Idrup "p icnf\ni 1 0\ni 2 0\n" "p idrup\ni 1 0\n" ≡ Refused Interaction 3 rules.Surplus
unfolding row
surplus = refl

-- refused proof 3 Ended
pub ended : row Idrup "p icnf\ni 1 0\n" "p idrup\ni 1 0\ni 2 0\n" ≡ Refused Proof 3 rules.Ended
unfolding row
ended = refl

-- refused proof 3 Unfinished
pub unfinished : row Idrup "p icnf\nq 0\n" "p idrup\nq 0\n" ≡ Refused Proof 3 rules.Unfinished
unfolding row
unfinished = refl

-- accepted 2 queries
pub two_queries : row Idrup "p icnf\ni 0\nq 0\ns UNSATISFIABLE\nu 0\ni 1 0\nq 1 0\ns UNSATISFIABLE\nu 0\n" "p idrup\ni 0\nq 0\ns UNSATISFIABLE\nu 0\ni 1 0\nq 1 0\ns UNSATISFIABLE\nu 0\n" ≡ Accepted 2
unfolding row
two_queries = refl

-- refused interaction 2 Kind
pub kind : row Idrup "p icnf\nq 0\n" "p idrup\ni 1 0\n" ≡ Refused Interaction 2 rules.Kind
unfolding row
kind = refl

-- refused interaction 2 Content
pub content : row Idrup "p icnf\ni 1 0\n" "p idrup\ni 2 0\n" ≡ Refused Interaction 2 rules.Content
unfolding row
content = refl

-- accepted 0 queries
pub same_sets : row Idrup "p icnf\ni 1 2 1 0\n" "p idrup\ni 2 1 0\n" ≡ Accepted 0
unfolding row
same_sets = refl

-- refused proof 2 Order
pub order : row Idrup "p icnf\nq 0\n" "p idrup\nm 1 0\n" ≡ Refused Proof 2 rules.Order
unfolding row
order = refl

-- accepted 1 queries
pub unknown : row Idrup "p icnf\nq 0\ns UNKNOWN\n" "p idrup\nq 0\ns UNKNOWN\n" ≡ Accepted 1
unfolding row
unknown = refl

-- refused interaction 3 Status
pub status : row Idrup "p icnf\nq 0\ns SATISFIABLE\n" "p idrup\nq 0\ns UNKNOWN\n" ≡ Refused Interaction 3 rules.Status
unfolding row
status = refl

-- refused interaction 5 ModelPart 2
pub model_part : row Idrup "p icnf\ni 1 0\nq 0\ns SATISFIABLE\nm 1 2 0\n" "p idrup\ni 1 0\nq 0\ns SATISFIABLE\nm 1 0\n" ≡ Refused Interaction 5 (rules.ModelPart 2)
unfolding row
model_part = refl

-- refused proof 2 Letter
pub letter : row Idrup "p icnf\n" "p idrup\nx 1 0\n" ≡ Refused Proof 2 rules.Letter
unfolding row
letter = refl

-- refused proof 2 Unclosed
pub unclosed : row Idrup "p icnf\n" "p idrup\nl 1\n" ≡ Refused Proof 2 rules.Unclosed
unfolding row
unclosed = refl

-- refused proof 2 Excess
pub excess : row Idrup "p icnf\n" "p idrup\nl 1 0 2\n" ≡ Refused Proof 2 rules.Excess
unfolding row
excess = refl

-- refused proof 2 Number
pub leading_zero : row Idrup "p icnf\n" "p idrup\nl 01 0\n" ≡ Refused Proof 2 rules.Number
unfolding row
leading_zero = refl

-- refused proof 2 Number
pub minus_zero : row Idrup "p icnf\n" "p idrup\nl -0 0\n" ≡ Refused Proof 2 rules.Number
unfolding row
minus_zero = refl

-- refused proof 2 Word
pub maybe : row Idrup "p icnf\n" "p idrup\ns MAYBE\n" ≡ Refused Proof 2 rules.Word
unfolding row
maybe = refl

-- refused proof 2 Word
pub no_word : row Idrup "p icnf\n" "p idrup\ns\n" ≡ Refused Proof 2 rules.Word
unfolding row
no_word = refl

-- refused proof 2 Excess
pub status_excess : row Idrup "p icnf\n" "p idrup\ns SATISFIABLE 0\n" ≡ Refused Proof 2 rules.Excess
unfolding row
status_excess = refl

-- refused proof 2 Unclosed
pub hints_unclosed : row Lidrup "p icnf\n" "p lidrup\nl 1 2 0\n" ≡ Refused Proof 2 rules.Unclosed
unfolding row
hints_unclosed = refl

-- refused proof 2 Range
pub id_zero : row Lidrup "p icnf\n" "p lidrup\ni 0 1 0\n" ≡ Refused Proof 2 rules.Range
unfolding row
id_zero = refl

-- refused proof 2 Number
pub id_negative : row Lidrup "p icnf\n" "p lidrup\nd -1 0\n" ≡ Refused Proof 2 rules.Number
unfolding row
id_negative = refl

-- refused proof 1 Header
pub header_excess : row Idrup "p icnf\n" "p idrup 2\n" ≡ Refused Proof 1 rules.Header
unfolding row
header_excess = refl

-- accepted 4 queries
pub model_checker : row Idrup "p icnf\nc two steps\ni 1 0\ni -1 2 0\nq -2 0\ns UNSATISFIABLE\nu -2 0\ni -2 3 4 0\nq -3 0\ns SATISFIABLE\nm 1 2 -3 4 0\nq -3 -4 0\ns UNSATISFIABLE\nu -3 -4 0\ni -4 0\nq -3 0\ns UNSATISFIABLE\nu -3 0\n" "p idrup\ni 1 0\ni -1 2 0\nq -2 0\ns UNSATISFIABLE\nu -2 0\nl 2 0\nd -1 2 0\nw 1 0\ni -2 3 4 0\nq -3 0\ns SATISFIABLE\nm 1 2 -3 4 0\nq -3 -4 0\ns UNSATISFIABLE\nu -3 -4 0\ni -4 0\nq -3 0\ns UNSATISFIABLE\nu -3 0\n" ≡ Accepted 4
unfolding row
model_checker = refl

-- ---- With ids: queries, models, cores and their hints

-- accepted 2 queries
pub core_and_model_with_ids : row Lidrup "p icnf\ni 1 2 0\ni -1 2 0\nq -2 0\ns UNSATISFIABLE\nu -2 0\nq 1 0\ns SATISFIABLE\nm 1 2 0\n" "p lidrup\ni 1 1 2 0\ni 2 -1 2 0\nq -2 0\ns UNSATISFIABLE\nu -2 0 1 2 0\nq 1 0\ns SATISFIABLE\nm 1 2 0\n" ≡ Accepted 2
unfolding row
core_and_model_with_ids = refl

-- refused proof 6 Hint 2: the hints end before a clause is false
pub core_hints_end : row Lidrup "p icnf\ni 1 2 0\ni -1 2 0\nq -2 0\ns UNSATISFIABLE\nu -2 0\n" "p lidrup\ni 1 1 2 0\ni 2 -1 2 0\nq -2 0\ns UNSATISFIABLE\nu -2 0 1 0\n" ≡ Refused Proof 6 (rules.Hint 2)
unfolding row
core_hints_end = refl

-- refused proof 7 Hint 1: the clause is weakened
pub core_hint_weakened : row Lidrup "p icnf\ni 1 2 0\ni -1 2 0\nq -2 0\ns UNSATISFIABLE\nu -2 0\n" "p lidrup\ni 1 1 2 0\ni 2 -1 2 0\nw 1 0\nq -2 0\ns UNSATISFIABLE\nu -2 0 1 2 0\n" ≡ Refused Proof 7 (rules.Hint 1)
unfolding row
core_hint_weakened = refl

-- refused proof 5 ModelInput 1
pub model_input_with_ids : row Lidrup "p icnf\ni 1 2 0\nq 0\ns SATISFIABLE\nm -1 -2 0\n" "p lidrup\ni 1 1 2 0\nq 0\ns SATISFIABLE\nm -1 -2 0\n" ≡ Refused Proof 5 (rules.ModelInput 1)
unfolding row
model_input_with_ids = refl

-- ---- Values of a model and failed assumptions in place of the whole model and core

-- accepted 1 queries
pub values : row Idrup "p icnf\ni 1 2 0\nq -1 0\ns SATISFIABLE\nv 2 0\nv -1 0\n" "p idrup\ni 1 2 0\nq -1 0\ns SATISFIABLE\nm -1 2 0\n" ≡ Accepted 1
unfolding row
values = refl

-- accepted 1 queries: an interaction may say nothing of a model
pub no_model_told : row Idrup "p icnf\ni 1 2 0\nq -1 0\ns SATISFIABLE\n" "p idrup\ni 1 2 0\nq -1 0\ns SATISFIABLE\nm -1 2 0\n" ≡ Accepted 1
unfolding row
no_model_told = refl

-- refused interaction 5 ModelPart 3
pub value_not_in_model : row Idrup "p icnf\ni 1 2 0\nq -1 0\ns SATISFIABLE\nv 2 3 0\n" "p idrup\ni 1 2 0\nq -1 0\ns SATISFIABLE\nm -1 2 0\n" ≡ Refused Interaction 5 (rules.ModelPart 4)
unfolding row
value_not_in_model = refl

-- refused interaction 6 ModelPart 1: each line of a run is held against the model
pub second_line_not_in_model : row Idrup "p icnf\ni 1 2 0\nq -1 0\ns SATISFIABLE\nv 2 0\nv 1 0\n" "p idrup\ni 1 2 0\nq -1 0\ns SATISFIABLE\nm -1 2 0\n" ≡ Refused Interaction 6 (rules.ModelPart 0)
unfolding row
second_line_not_in_model = refl

-- refused interaction 6 Surplus
pub model_behind_values : row Idrup "p icnf\ni 1 2 0\nq -1 0\ns SATISFIABLE\nv 2 0\nm -1 2 0\n" "p idrup\ni 1 2 0\nq -1 0\ns SATISFIABLE\nm -1 2 0\n" ≡ Refused Interaction 6 rules.Surplus
unfolding row
model_behind_values = refl

-- refused interaction 6 Surplus
pub values_behind_model : row Idrup "p icnf\ni 1 2 0\nq -1 0\ns SATISFIABLE\nm -1 2 0\nv 2 0\n" "p idrup\ni 1 2 0\nq -1 0\ns SATISFIABLE\nm -1 2 0\n" ≡ Refused Interaction 6 rules.Surplus
unfolding row
values_behind_model = refl

-- accepted 1 queries: a line without a value
pub no_values : row Idrup "p icnf\ni 1 2 0\nq -1 0\ns SATISFIABLE\nv 0\n" "p idrup\ni 1 2 0\nq -1 0\ns SATISFIABLE\nm -1 2 0\n" ≡ Accepted 1
unfolding row
no_values = refl

-- refused interaction 6 Number: the second line of a run is broken
pub broken_value : row Idrup "p icnf\ni 1 2 0\nq -1 0\ns SATISFIABLE\nv 2 0\nv x 0\n" "p idrup\ni 1 2 0\nq -1 0\ns SATISFIABLE\nm -1 2 0\n" ≡ Refused Interaction 6 rules.Number
unfolding row
broken_value = refl

-- refused proof 4 Ended
pub ended_before_status : row Idrup "p icnf\ni 1 2 0\nq -1 0\n" "p idrup\ni 1 2 0\nq -1 0\ns SATISFIABLE\nm -1 2 0\n" ≡ Refused Proof 4 rules.Ended
unfolding row
ended_before_status = refl

-- accepted 1 queries
pub failed : row Idrup "p icnf\ni 1 0\nq -1 0\ns UNSATISFIABLE\nf -1 0\n" "p idrup\ni 1 0\nq -1 0\ns UNSATISFIABLE\nu -1 0\n" ≡ Accepted 1
unfolding row
failed = refl

-- accepted 1 queries: a literal may be told again
pub failed_again : row Idrup "p icnf\ni 1 0\nq -1 0\ns UNSATISFIABLE\nf -1 0\nf -1 0\n" "p idrup\ni 1 0\nq -1 0\ns UNSATISFIABLE\nu -1 0\n" ≡ Accepted 1
unfolding row
failed_again = refl

-- accepted 1 queries
pub no_core_told : row Idrup "p icnf\ni 1 0\nq -1 0\ns UNSATISFIABLE\n" "p idrup\ni 1 0\nq -1 0\ns UNSATISFIABLE\nu -1 0\n" ≡ Accepted 1
unfolding row
no_core_told = refl

-- refused interaction 5 FailedPart -2
pub failed_not_in_core : row Idrup "p icnf\ni 1 0\nq -1 0\ns UNSATISFIABLE\nf -1 -2 0\n" "p idrup\ni 1 0\nq -1 0\ns UNSATISFIABLE\nu -1 0\n" ≡ Refused Interaction 5 (rules.FailedPart 3)
unfolding row
failed_not_in_core = refl

-- refused interaction 6 Surplus
pub failed_behind_core : row Idrup "p icnf\ni 1 0\nq -1 0\ns UNSATISFIABLE\nu -1 0\nf -1 0\n" "p idrup\ni 1 0\nq -1 0\ns UNSATISFIABLE\nu -1 0\n" ≡ Refused Interaction 6 rules.Surplus
unfolding row
failed_behind_core = refl

-- refused interaction 5 Surplus: no partner of a core, and the proof has ended
pub values_behind_unsatisfiable : row Idrup "p icnf\ni 1 0\nq -1 0\ns UNSATISFIABLE\nv 1 0\n" "p idrup\ni 1 0\nq -1 0\ns UNSATISFIABLE\nu -1 0\n" ≡ Refused Interaction 5 rules.Surplus
unfolding row
values_behind_unsatisfiable = refl

-- refused interaction 5 Kind: no partner of the model, but held against the next query
pub failed_behind_satisfiable : row Idrup "p icnf\ni 1 2 0\nq -1 0\ns SATISFIABLE\nf -1 0\n" "p idrup\ni 1 2 0\nq -1 0\ns SATISFIABLE\nm -1 2 0\nq 0\ns UNKNOWN\n" ≡ Refused Interaction 5 rules.Kind
unfolding row
failed_behind_satisfiable = refl

-- accepted 2 queries: the next event begins behind the run
pub two_queries_with_parts : row Idrup "p icnf\ni 1 2 0\nq -1 0\ns SATISFIABLE\nv 2 0\nv -1 0\ni -2 0\nq -1 0\ns UNSATISFIABLE\nf -1 0\n" "p idrup\ni 1 2 0\nq -1 0\ns SATISFIABLE\nm -1 2 0\ni -2 0\nq -1 0\ns UNSATISFIABLE\nu -1 0\n" ≡ Accepted 2
unfolding row
two_queries_with_parts = refl

-- refused proof 5 Letter: parts are lines of the interaction alone
pub values_in_proof : row Idrup "p icnf\ni 1 2 0\nq -1 0\ns SATISFIABLE\nv 2 0\n" "p idrup\ni 1 2 0\nq -1 0\ns SATISFIABLE\nv 2 0\n" ≡ Refused Proof 5 rules.Letter
unfolding row
values_in_proof = refl

-- accepted 2 queries
pub parts_with_ids : row Lidrup "p icnf\ni 1 2 0\nq -1 0\ns SATISFIABLE\nv 2 0\nv -1 0\ni -2 0\nq -1 0\ns UNSATISFIABLE\nf -1 0\n" "p lidrup\ni 1 1 2 0\nq -1 0\ns SATISFIABLE\nm -1 2 0\ni 2 -2 0\nq -1 0\ns UNSATISFIABLE\nu -1 0 1 2 0\n" ≡ Accepted 2
unfolding row
parts_with_ids = refl

-- ---- Where no more than some bytes are read

unfoldable pub row_within : ℕ → String → String → Verdict
unfolding verdict_within faults_from run_length pair_faults own_faults closes propagated propagated_times values_of icnf_line idrup_line literal_list status_word same_word literal_word magnitude numeral header_line lines_within all_lines numbered words ends_in_word end_line_within
row_within bound a b = verdict_within bound Idrup (codes a) (codes b)

-- refused proof 2 Length: the 14th byte of the proof isn't read
pub proof_too_long : row_within 13 "p icnf\ni 1 0\n" "p idrup\ni 1 0\n" ≡ Refused Proof 2 rules.Length
unfolding row_within
proof_too_long = refl

-- accepted 0 queries, with a byte more
pub proof_long_enough : row_within 14 "p icnf\ni 1 0\n" "p idrup\ni 1 0\n" ≡ Accepted 0
unfolding row_within
proof_long_enough = refl

-- refused proof 2 Number: a word that ended before the bound is at fault first
pub wrong_before_bound : row_within 13 "p icnf\ni 1 0\n" "p idrup\ni x 10\n" ≡ Refused Proof 2 rules.Number
unfolding row_within
wrong_before_bound = refl

-- refused interaction 3 Length: the bound stands in a comment behind the last partner
pub interaction_too_long : row_within 16 "p icnf\ni 1 0\nc comment\n" "p idrup\ni 1 0\n" ≡ Refused Interaction 3 rules.Length
unfolding row_within
interaction_too_long = refl

-- refused interaction 5 Length: a line behind values whose first word goes on behind the bound counts as one of them
pub values_cut : row_within 32 "p icnf\nq 0\ns SATISFIABLE\nv 1 0\nv 1 0\n" "p idrup\nq 0\ns SATISFIABLE\nm 1 0\n" ≡ Refused Interaction 5 rules.Length
unfolding row_within
values_cut = refl
