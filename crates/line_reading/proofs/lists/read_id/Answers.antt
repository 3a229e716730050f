use Rattle.line_reading.proofs.Collecting.{own_id_read}
use Rattle.line_reading.proofs.lists.read_id.Goals as goal

pub returns-clause-part : goal.returns-clause-part
returns-clause-part g c = own_id_read c.next_word.result _ _ c.next_word.ensures.part
