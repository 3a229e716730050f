use Rattle.session_rules.proofs.Spelled.{icnf_text_back, script_text_back, idrup_text_back, lidrup_text_back}
use Rattle.session_rules.proofs.laws.texts_are_read_back.Goals as goal

pub returns-clause-interaction : goal.returns-clause-interaction
returns-clause-interaction c = icnf_text_back

pub returns-clause-script : goal.returns-clause-script
returns-clause-script c = script_text_back

pub returns-clause-proof : goal.returns-clause-proof
returns-clause-proof c = idrup_text_back

pub returns-clause-proof_with_ids : goal.returns-clause-proof_with_ids
returns-clause-proof_with_ids c = lidrup_text_back
