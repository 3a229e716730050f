use Rattle.std.proofs.Common.{◌+◌, ◌∷◌, [], take, drop}
use Rattle.elimination.specs.Steps.{standing}
use Rattle.elimination.proofs.Bringing.{restored_more, copies_on, broken_on, clause_more, clause_parts, clause_due}
use Rattle.elimination.proofs.touching.restore_clauses.Goals as goal

pub tell_restoring-requires-clause-due : goal.tell_restoring-requires-clause-due
tell_restoring-requires-clause-due g c = clause_due (standing c.loop-clause.clauses.engine.clauses) c.clause-item.result
    (copies_on g.L.Log.takes c.args.log.now c.loop-clause.log c.args.clauses.now c.loop-clause.clauses (take c.loop-clause.clause-index c.args.kept.now) (c.clause-item.result ∷ []) (drop (c.loop-clause.clause-index + 1) c.args.kept.now) c.args.kept.now
    c.loop-clause.invariant.restored c.requires.copies (clause_parts c.args.kept.now c.loop-clause.clause-index c.clause-item.result c.loop-clause-test.true c.clause-item.is))

pub returns-in-Err-clause-broken : goal.returns-in-Err-clause-broken
returns-in-Err-clause-broken g c = broken_on g.L.Log.takes g.L.Log.refuses c.args.log.now c.loop-clause.log c.tell_restoring.new.log c.args.clauses.now c.loop-clause.clauses (take c.loop-clause.clause-index c.args.kept.now) c.in-Err.fault
    c.loop-clause.invariant.restored c.in-Err.ensures.broken

pub loop-clause-preserved : goal.loop-clause-preserved
loop-clause-preserved g c = record {
  restored = restored_more g.L.Log.takes c.args.log.now c.loop-clause.log c.tell_restoring.new.log c.args.clauses.now c.loop-clause.clauses c.tell_restoring.new.self
      (take c.loop-clause.clause-index c.args.kept.now) (c.clause-item.result ∷ []) (take (c.loop-clause.clause-index + 1) c.args.kept.now)
      c.loop-clause.invariant.restored c.in_default.ensures.restored (clause_more c.args.kept.now c.loop-clause.clause-index c.clause-item.result c.loop-clause-test.true c.clause-item.is);
  room = c.in_default.ensures.room;
}
