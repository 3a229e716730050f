use Rattle.icnf_lines.proofs.Finding.{same_met, same_fails}
use Rattle.icnf_lines.proofs.meeting.meet_same.Goals as goal

pub returns-in-Ok-clause-met : goal.returns-in-Ok-clause-met
returns-in-Ok-clause-met g c = λ start read. same_met c.args.held.now start _ _ read c.in-Ok.field-0 c.first_literal.result c.first_literal.ensures c.in-Ok.ensures.end

pub returns-in-Err-clause-met : goal.returns-in-Err-clause-met
returns-in-Err-clause-met g c = λ start read. same_fails c.args.held.now start _ _ read c.in-Err.fault c.in-Err.ensures.end
