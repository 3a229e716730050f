use Rattle.std.proofs.Common.{◌-◌, ◌^◌}
use Rattle.session_rules.specs.Reading.{id_list}
use Rattle.line_reading.specs.Readers.{reader}
use Rattle.line_reading.proofs.Collecting.{Collecting}
use Rattle.line_reading.proofs.lists.read_ids.Given as goal

abbrev pub invariant-ids : goal.invariant-ids
invariant-ids g l = let at = reader g.S.Source.left g.S.Source.faults in Collecting id_list l.ids (at l.fn.window l.fn.src) (at l.window l.src)

abbrev pub decreases-ids : goal.decreases-ids
decreases-ids g l = 2 ^ 62 - l.window.passed
