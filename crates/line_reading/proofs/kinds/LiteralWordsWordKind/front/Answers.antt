use Rattle.std.proofs.Common.{arith}
use Rattle.line_reading.proofs.Fronts.{literal_front}
use Rattle.line_reading.proofs.kinds.LiteralWordsWordKind.front.Goals as goal

pub returns-in-Some : goal.returns-in-Some
returns-in-Some c =
    let at = literal_front c.args.bytes.now c.in-Some.count c.in-Some.l c.in-Some.ensures.some.0 c.in-Some.ensures.some.1 in
    (at.0, grind (at.1, arith, c.in-Some.l-is))
