use Rattle.std.proofs.Common.{refl, subst}
use Rattle.line_reading.specs.Readers.{reader}
use Rattle.icnf_lines.specs.Partners.{LiteralsMet}
use Rattle.icnf_lines.proofs.Finding.{literals_met}
use Rattle.icnf_lines.proofs.meeting.meet.Goals as goal

pub returns-in-Ok-clause-met : goal.returns-in-Ok-clause-met
returns-in-Ok-clause-met g c =
    let at = reader g.S.Source.left g.S.Source.faults in
    let m = c.in-Ok.found in
    let n = at c.find_literals-found.new.window c.find_literals-found.new.src in
    subst (λ w. LiteralsMet c.args.held.now c.args.assumed.now (record { stranger = m.stranger; unmet = c.first_unmet-unmet.result; claim = m.claim }) (at w c.args.src.now) n)
    (c.if-pass_same.ensures.no refl)
    (literals_met c.args.dense.now c.args.held.now c.args.assumed.now c.args.table.now c.mark_held.new.table c.mark_assumed.new.table c.requires.blank c.requires.held c.requires.assumed c.mark_held.ensures c.mark_assumed.ensures
    c.find_literals-found.new.table m c.first_unmet-unmet.result (at c.pass_same.new.window c.args.src.now) n c.in-Ok.ensures.found c.first_unmet-unmet.ensures)
