use Rattle.conflict_analysis.proofs.Marking.{noted_code, noted_none}
use Rattle.conflict_analysis.proofs.marks.take_off.Goals as goal

pub loop-l-preserved : goal.loop-l-preserved
loop-l-preserved c = noted_code c.loop-l.items c.take_one.new.items c.args.noted.now c.loop-l.l-index c.l-item.result c.code.result c.loop-l-test.true c.l-item.is c.code.ensures.code c.take_one.ensures.others c.take_one.ensures.at c.loop-l.invariant

pub returns : goal.returns
returns c = noted_none c.loop-l.items c.args.noted.now c.loop-l.l-index c.loop-l-test.false c.loop-l.invariant
