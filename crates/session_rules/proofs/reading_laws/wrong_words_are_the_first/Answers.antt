use Rattle.session_rules.proofs.Forms.{icnf_read, script_read, idrup_read, lidrup_read, header_read}
use Rattle.session_rules.proofs.reading_laws.wrong_words_are_the_first.Goals as goal

pub returns-clause-interaction : goal.returns-clause-interaction
returns-clause-interaction c = icnf_read.by_word

pub returns-clause-script : goal.returns-clause-script
returns-clause-script c = script_read.by_word

pub returns-clause-proof : goal.returns-clause-proof
returns-clause-proof c = idrup_read.by_word

pub returns-clause-proof_with_ids : goal.returns-clause-proof_with_ids
returns-clause-proof_with_ids c = lidrup_read.by_word

pub returns-clause-header : goal.returns-clause-header
returns-clause-header c = λ name. (header_read name).by_word
