use Rattle.std.proofs.Common.{refl}
use Rattle.session_rules.specs.declared.Event.TheVariants as events
use Rattle.icnf_lines.proofs.EventLines.{status_fault}
use Rattle.icnf_lines.proofs.Pairing.{status_meets}
use Rattle.icnf_lines.proofs.matching.partner_rule.Goals as goal

pub returns-in-Ok-clause-rule : goal.returns-in-Ok-clause-rule
returns-in-Ok-clause-rule g c = rw c.in-Status.is (status_meets c.args.event.now c.args.assumed.now c.status_rule.result c.in-Ok.status _ _ (c.status_rule.ensures c.args.assumed.now) c.in-Ok.ensures.body)

pub returns-in-Err-clause-rule : goal.returns-in-Err-clause-rule
returns-in-Err-clause-rule g c = rw c.in-Status.is (status_fault events.Status (λ ws. refl) c.in-Err.fault _ _ c.in-Err.ensures.body)
