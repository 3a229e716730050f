use Rattle.session_rules.proofs.Forms.{icnf_read, script_read, idrup_read, lidrup_read, header_read}
use Rattle.session_rules.proofs.reading_laws.what_is_read_is_spelled.Goals as goal

pub returns-clause-interaction : goal.returns-clause-interaction
returns-clause-interaction c = icnf_read.spelled

pub returns-clause-script : goal.returns-clause-script
returns-clause-script c = script_read.spelled

pub returns-clause-proof : goal.returns-clause-proof
returns-clause-proof c = idrup_read.spelled

pub returns-clause-proof_with_ids : goal.returns-clause-proof_with_ids
returns-clause-proof_with_ids c = lidrup_read.spelled

pub returns-clause-header : goal.returns-clause-header
returns-clause-header c = λ name ws. let h = (header_read name).spelled ws tt in (λ e. let s = h.0 e in s.1, λ e. h.1 (tt, e))
