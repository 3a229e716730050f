use Rattle.std.proofs.Common.{arith}
use Rattle.line_reading.proofs.Running.{pushing-more}
use Rattle.line_reading.proofs.runs.push_run.Goals as goal

pub words-preserved : goal.words-preserved
words-preserved c =
    pushing-more c.args.bytes.now c.args.lits.now c.words.lits c.push.new.self c.words.at c.in-Some.count c.in-Some.l c.words.invariant
    (rw c.in-Some.l-is c.in-Some.ensures.some) (grind (c.in_ok-push-in-Some.ensures.ok, arith, c.in-Some.l-is))
