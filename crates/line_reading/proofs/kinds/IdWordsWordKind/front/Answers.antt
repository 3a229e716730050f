use Rattle.line_reading.proofs.Fronts.{id_front}
use Rattle.line_reading.proofs.kinds.IdWordsWordKind.front.Goals as goal

pub returns-in-Some : goal.returns-in-Some
returns-in-Some c = id_front c.args.bytes.now c.in-Some.count c.in-Some.id c.in-Some.ensures.some.0 c.in-Some.ensures.some.1
