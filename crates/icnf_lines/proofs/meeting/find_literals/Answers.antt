use Rattle.std.proofs.Common.{refl}
use Rattle.icnf_lines.proofs.Finding.{finding_none, finding_more, found_all, not_ended, not_found}
use Rattle.icnf_lines.proofs.meeting.find_literals.Goals as goal

pub literals-preserved : goal.literals-preserved
literals-preserved g c = finding_more c.args.dense.now c.args.table.now c.literals.table c.literals.stranger c.literals.claim _ _ c.literals.invariant c.meet_literal-mark.new.table c.first_of-stranger.result c.first_of-claim.result _
    c.in-Ok-Some.l c.meet_literal-mark.result (rw c.in-Ok-Some.field-0-is at c.in-Ok-Some.ensures.part) _ refl c.meet_literal-mark.ensures.mark c.first_of-stranger.ensures c.first_of-claim.ensures c.meet_literal-mark.ensures.met

pub returns-in-Ok-clause-found : goal.returns-in-Ok-clause-found
returns-in-Ok-clause-found g c = found_all c.args.dense.now c.args.table.now c.literals.table c.literals.stranger c.literals.claim _ _ c.literals.invariant _ _
    (rw c.in-Ok-None.field-0-is at c.in-Ok-None.ensures.part) c.in-Ok.field-0 c.in-Ok.ensures.end

pub returns-in-Err-end_line-clause-found : goal.returns-in-Err-end_line-clause-found
returns-in-Err-end_line-clause-found g c = not_ended c.args.dense.now c.args.table.now c.literals.table c.literals.stranger c.literals.claim _ _ c.literals.invariant _ _
    (rw c.in-Ok-None.field-0-is at c.in-Ok-None.ensures.part) c.in-Err-end_line.fault c.in-Err-end_line.ensures.end

pub returns-in-Err-clause-found : goal.returns-in-Err-clause-found
returns-in-Err-clause-found g c = not_found c.args.dense.now c.args.table.now c.literals.table c.literals.stranger c.literals.claim _ _ c.literals.invariant _ c.in-Err.fault c.in-Err.ensures.part

pub literals-init : goal.literals-init
literals-init g c = finding_none c.args.dense.now c.args.table.now _

pub returns-in-Ok-clause-kept : goal.returns-in-Ok-clause-kept
returns-in-Ok-clause-kept g c = c.literals.invariant.kept

pub returns-in-Err-end_line-clause-kept : goal.returns-in-Err-end_line-clause-kept
returns-in-Err-end_line-clause-kept g c = c.literals.invariant.kept

pub returns-in-Err-clause-kept : goal.returns-in-Err-clause-kept
returns-in-Err-clause-kept g c = c.literals.invariant.kept
