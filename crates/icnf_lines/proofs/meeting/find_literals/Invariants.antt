use Rattle.std.proofs.Common.{◌-◌, ◌^◌}
use Rattle.line_reading.specs.Readers.{reader}
use Rattle.icnf_lines.proofs.Finding.{Finding}
use Rattle.icnf_lines.proofs.meeting.find_literals.Given as goal

abbrev pub invariant-literals : goal.invariant-literals
invariant-literals g l = let at = reader g.S.Source.left g.S.Source.faults in Finding l.dense l.fn.table l.table l.stranger l.claim (at l.fn.window l.fn.src) (at l.window l.src)

abbrev pub decreases-literals : goal.decreases-literals
decreases-literals g l = 2 ^ 62 - l.window.passed
