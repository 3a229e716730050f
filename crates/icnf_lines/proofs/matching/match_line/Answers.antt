use Rattle.std.proofs.Common.{sym, ◌∙◌}
use Rattle.icnf_lines.proofs.Running.{owed_matched}
use Rattle.icnf_lines.proofs.matching.match_line.Goals as goal

pub returns-then-owes_partner-clause-line : goal.returns-then-owes_partner-clause-line
returns-then-owes_partner-clause-line g c = owed_matched c.args.event.now c.args.assumed.now _ _ c.match_next.result (sym c.owes_partner.ensures ∙ c.if-owes_partner.true) c.match_next.ensures.line
