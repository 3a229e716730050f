use Rattle.std.proofs.Common.{◌≡◌, ◌+◌}
use Rattle.elimination.proofs.Erasing.{deleted_on, broken_deleting}
use Rattle.elimination.proofs.deleting.delete_lemmas.Goals as goal

pub returns-in-Err-clause-broken : goal.returns-in-Err-clause-broken
returns-in-Err-clause-broken g c = broken_deleting g.L.Log.takes c.args.var g.L.Log.refuses c.args.log.now c.loop-id.log c.delete_lemma.new.log c.args.clauses.now c.loop-id.clauses 0 c.loop-id.id c.in-Err.fault
    c.loop-id.invariant.deleted c.in-Err.ensures.broken

pub loop-id-preserved : goal.loop-id-preserved
loop-id-preserved g c = record {
  deleted = deleted_on g.L.Log.takes c.args.var c.args.log.now c.loop-id.log c.delete_lemma.new.log c.args.clauses.now c.loop-id.clauses c.delete_lemma.new.clauses 0 c.loop-id.id (c.loop-id.id + 1)
      c.loop-id.invariant.deleted c.in_default.ensures.deleted;
  room = c.in_default.ensures.room;
}
