use Rattle.session_rules.proofs.Judged.{broken-some}
use Rattle.session_rules.proofs.Forms.{icnf_read, script_read, idrup_read, lidrup_read, header_read}
use Rattle.session_rules.specs.Spelling.{event_words, step_words, id_step_words, IsEvent, IsScriptLine, IsStep, IsIdStep}
use Rattle.session_rules.specs.WrongWord.{BreaksByWord, BreaksAtEnd, HeaderBreaksByWord, HeaderBreaksAtEnd, IsHeader, words_of_header}
use Rattle.session_rules.specs.Reading.{icnf_line, script_line, idrup_line, lidrup_line, header_line}
use Rattle.session_rules.proofs.reading_laws.broken_lines_break_a_rule.Goals as goal

pub returns-clause-interaction : goal.returns-clause-interaction
returns-clause-interaction c = broken-some IsEvent event_words icnf_line (BreaksByWord IsEvent event_words) (BreaksAtEnd IsEvent event_words) icnf_read

pub returns-clause-script : goal.returns-clause-script
returns-clause-script c = broken-some IsScriptLine event_words script_line (BreaksByWord IsScriptLine event_words) (BreaksAtEnd IsScriptLine event_words) script_read

pub returns-clause-proof : goal.returns-clause-proof
returns-clause-proof c = broken-some IsStep step_words idrup_line (BreaksByWord IsStep step_words) (BreaksAtEnd IsStep step_words) idrup_read

pub returns-clause-proof_with_ids : goal.returns-clause-proof_with_ids
returns-clause-proof_with_ids c = broken-some IsIdStep id_step_words lidrup_line (BreaksByWord IsIdStep id_step_words) (BreaksAtEnd IsIdStep id_step_words) lidrup_read

pub returns-clause-header : goal.returns-clause-header
returns-clause-header c = λ name. broken-some IsHeader (words_of_header name) (header_line name) (HeaderBreaksByWord name) (HeaderBreaksAtEnd name) (header_read name)
