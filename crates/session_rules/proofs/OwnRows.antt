-- The verdict on small proofs by themselves, each computed.
use Rattle.std.proofs.Common.{◌≡◌, ℕ, codes, refl, Option, Some, None}
use Prim.Native.String.{String}
use Rattle.lits.specs.Word.{literal_word, id_word, magnitude, numeral}
use Rattle.session_rules.specs.declared.Form.{Form}
use Rattle.session_rules.specs.declared.Form.TheVariants.{Idrup, Lidrup}
use Rattle.session_rules.specs.declared.Rule.{Rule}
use Rattle.session_rules.specs.declared.Rule.TheVariants as rules
use Rattle.session_rules.specs.Lines.{lines, lines_within, all_lines, numbered, words, ends_in_word, end_line, end_line_within}
use Rattle.session_rules.specs.Logic.{closes, propagated, propagated_times, hints_fail, hints_fail_from}
use Rattle.session_rules.specs.Reading.{idrup_line, lidrup_line, header_line, header_fault, literal_list, id_list, own_id, status_word, same_word}
use Rattle.session_rules.specs.Own.{own_faults, own_id_faults}
use Rattle.session_rules.specs.Pair.{own_faults_from, own_refusals}
use Rattle.session_rules.specs.Verdicts.{own_verdict}

own_row : Form → String → Option (ℕ × Rule)
unfolding own_verdict own_refusals own_faults_from own_faults own_id_faults closes propagated propagated_times hints_fail hints_fail_from idrup_line lidrup_line literal_list id_list own_id status_word same_word literal_word magnitude numeral id_word header_line header_fault lines lines_within all_lines numbered words ends_in_word end_line end_line_within
own_row form b = own_verdict form (codes b)

all_rules_kept : own_row Idrup "p idrup\ni 1 0\nq 0\ns SATISFIABLE\nm 1 0\n" ≡ None
unfolding own_row
all_rules_kept = refl

no_header : own_row Idrup "c no content\n" ≡ Some (2, rules.Header)
unfolding own_row
no_header = refl

query_open_at_the_end : own_row Lidrup "p lidrup\ni 1 1 0\nq 0\n" ≡ Some (4, rules.Unfinished)
unfolding own_row
query_open_at_the_end = refl

broken_line_before_open_query : own_row Idrup "p idrup\nq 0\nl 1\n" ≡ Some (3, rules.Unclosed)
unfolding own_row
broken_line_before_open_query = refl

own_rule_before_later_broken_line : own_row Lidrup "p lidrup\ni 1 1 0\ni 1 2 0\nx\n" ≡ Some (3, rules.IdTaken)
unfolding own_row
own_rule_before_later_broken_line = refl

lemma_refused : own_row Idrup "p idrup\ni 1 2 0\ni -1 2 0\nw 1 2 0\nl 2 0\n" ≡ Some (5, rules.Lemma)
unfolding own_row
lemma_refused = refl

deletion_refused : own_row Idrup "p idrup\ni 1 2 0\nw 2 1 0\nd 1 2 0\n" ≡ Some (4, rules.NotActive 1)
unfolding own_row
deletion_refused = refl

restoring_refused : own_row Idrup "p idrup\ni 1 2 0\nr 1 2 0\n" ≡ Some (3, rules.NotWeakened 1)
unfolding own_row
restoring_refused = refl
