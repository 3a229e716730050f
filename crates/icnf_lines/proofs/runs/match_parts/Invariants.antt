use Rattle.std.proofs.Common.{ℕ, ◌-◌, ◌^◌, List}
use Rattle.session_rules.specs.History.{event_literals}
use Rattle.line_reading.specs.Readers.{reader}
use Rattle.icnf_lines.specs.Partners.{KeepsBlank}
use Rattle.icnf_lines.specs.Parts.{AreHeld}
use Rattle.icnf_lines.proofs.Running.{Ran}
use Rattle.icnf_lines.proofs.runs.match_parts.Given as goal

abbrev pub invariant-lines : goal.invariant-lines
invariant-lines g l = let at = reader g.S.Source.left g.S.Source.faults in
    ((qs : List ℕ) → Ran l.event qs (at l.fn.window l.fn.src) (at l.window l.src)) × AreHeld l.dense l.table (event_literals l.event) × KeepsBlank l.fn.table l.table

abbrev pub decreases-lines : goal.decreases-lines
decreases-lines g l = 2 ^ 62 - l.window.passed
