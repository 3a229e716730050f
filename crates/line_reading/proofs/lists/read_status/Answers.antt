use Rattle.line_reading.proofs.Collecting.{status_read}
use Rattle.line_reading.proofs.lists.read_status.Goals as goal

pub returns-clause-part : goal.returns-clause-part
returns-clause-part g c = status_read c.next_word.result _ _ c.next_word.ensures.part
