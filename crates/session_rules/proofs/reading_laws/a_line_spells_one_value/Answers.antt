use Rattle.session_rules.proofs.Forms.{icnf_read, script_read, idrup_read, lidrup_read}
use Rattle.session_rules.proofs.FirstWrong.{one_value}
use Rattle.session_rules.specs.Spelling.{event_words, step_words, id_step_words, IsEvent, IsScriptLine, IsStep, IsIdStep}
use Rattle.session_rules.specs.WrongWord.{BreaksByWord, BreaksAtEnd}
use Rattle.session_rules.specs.Reading.{icnf_line, script_line, idrup_line, lidrup_line}
use Rattle.session_rules.proofs.reading_laws.a_line_spells_one_value.Goals as goal

pub returns-clause-interaction : goal.returns-clause-interaction
returns-clause-interaction c = one_value IsEvent event_words icnf_line (BreaksByWord IsEvent event_words) (BreaksAtEnd IsEvent event_words) icnf_read

pub returns-clause-script : goal.returns-clause-script
returns-clause-script c = one_value IsScriptLine event_words script_line (BreaksByWord IsScriptLine event_words) (BreaksAtEnd IsScriptLine event_words) script_read

pub returns-clause-proof : goal.returns-clause-proof
returns-clause-proof c = one_value IsStep step_words idrup_line (BreaksByWord IsStep step_words) (BreaksAtEnd IsStep step_words) idrup_read

pub returns-clause-proof_with_ids : goal.returns-clause-proof_with_ids
returns-clause-proof_with_ids c = one_value IsIdStep id_step_words lidrup_line (BreaksByWord IsIdStep id_step_words) (BreaksAtEnd IsIdStep id_step_words) lidrup_read
