use Rattle.std.proofs.Common.{Err, ap}
use Rattle.icnf_lines.proofs.Pairing.{matches, not_entered}
use Rattle.icnf_lines.proofs.matching.match_next.Goals as goal

pub returns-in-Ok-Some-clause-line : goal.returns-in-Ok-Some-clause-line
returns-in-Ok-Some-clause-line g c = rw c.answer_of.ensures (matches c.args.event.now c.args.assumed.now c.in-Ok-Some.letter c.partner_rule.result _ _ _ c.partner_rule.ensures.memory
    (rw c.in-Ok-Some.field-0-is at c.in-Ok-Some.ensures.letter) c.partner_rule.ensures.rule)

pub returns-in-Err-clause-line : goal.returns-in-Err-clause-line
returns-in-Err-clause-line g c = rw c.match_fault.ensures (not_entered c.args.event.now c.args.assumed.now c.in-Err.fault _ _ (λ e. c.in-Err.ensures.memory (ap (λ z. Err z) e)) c.in-Err.ensures.letter)
