use Rattle.std.proofs.Common.{◌-◌, ◌^◌}
use Rattle.session_rules.specs.Reading.{literal_list}
use Rattle.line_reading.specs.Readers.{reader}
use Rattle.line_reading.proofs.Collecting.{Collecting}
use Rattle.line_reading.proofs.lists.read_literals.Given as goal

abbrev pub invariant-literals : goal.invariant-literals
invariant-literals g l = let at = reader g.S.Source.left g.S.Source.faults in Collecting literal_list l.lits (at l.fn.window l.fn.src) (at l.window l.src)

abbrev pub decreases-literals : goal.decreases-literals
decreases-literals g l = 2 ^ 62 - l.window.passed
