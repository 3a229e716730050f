use Rattle.idrup_cli.proofs.Endings.{certifies, refuses, accepts, takes, completes}
use Rattle.idrup_cli.proofs.top.run.Goals as goal

pub returns-clause-certified : goal.returns-clause-certified
returns-clause-certified g c =
    certifies c.tell.result (g.E.Sink.written c.args.report.now) (g.E.Sink.written c.tell.new.report) _ _ _ _ _ c.ending_of-ending.result c.ending_of-ending.ensures.cause c.tell.ensures.same

pub returns-clause-refused : goal.returns-clause-refused
returns-clause-refused g c =
    refuses c.tell.result _ _ _ _ _ _ _ c.ending_of-ending.result c.ending_of-ending.ensures.cause c.tell.ensures.same (λ low. (c.tell.ensures.verdict low).0)

pub returns-clause-accepted : goal.returns-clause-accepted
returns-clause-accepted g c =
    accepts c.tell.result _ _ _ _ _ _ _ c.ending_of-ending.result c.ending_of-ending.ensures.cause c.tell.ensures.same (λ low. (c.tell.ensures.verdict low).0)

pub returns-clause-complete : goal.returns-clause-complete
returns-clause-complete g c =
    completes c.tell.result (g.E.Sink.written c.args.report.now) (g.E.Sink.written c.tell.new.report) _ _ _ _ _ (g.E.Sink.faults c.args.report.now, g.E.Sink.faults c.tell.new.report)
    c.ending_of-ending.result c.ending_of-ending.ensures.cause c.tell.ensures.same c.tell.ensures.fault

pub returns-clause-taken : goal.returns-clause-taken
returns-clause-taken g c =
    takes c.tell.result (g.E.Sink.written c.args.report.now) (g.E.Sink.written c.tell.new.report) _ _ _ _ _ _ _ c.ending_of-ending.result c.ending_of-ending.ensures.cause c.tell.ensures.same c.ending_of-ending.ensures.taken
