use Rattle.std.proofs.Common.{◌+◌, take, drop}
use Rattle.elimination.specs.Steps.{standing}
use Rattle.elimination.specs.Restoring.{kept_of}
use Rattle.elimination.proofs.Bringing.{restored_more, copies_on, broken_on, entry_more, entry_parts}
use Rattle.elimination.proofs.touching.restore_entries.Goals as goal

pub restore_clauses-requires-clause-copies : goal.restore_clauses-requires-clause-copies
restore_clauses-requires-clause-copies g c = copies_on g.L.Log.takes c.args.log.now c.loop-entry.log c.args.clauses.now c.loop-entry.clauses (kept_of (take c.loop-entry.entry-index c.args.entries.now)) c.as_slice.result.now
    (kept_of (drop (c.loop-entry.entry-index + 1) c.args.entries.now)) (kept_of c.args.entries.now)
    c.loop-entry.invariant.restored c.requires.copies (entry_parts c.args.entries.now c.loop-entry.entry-index c.entry-item.result c.as_slice.result.now c.loop-entry-test.true c.entry-item.is c.as_slice.ensures)

pub returns-in-Err-clause-broken : goal.returns-in-Err-clause-broken
returns-in-Err-clause-broken g c = broken_on g.L.Log.takes g.L.Log.refuses c.args.log.now c.loop-entry.log c.restore_clauses.new.log c.args.clauses.now c.loop-entry.clauses (kept_of (take c.loop-entry.entry-index c.args.entries.now)) c.in-Err.fault
    c.loop-entry.invariant.restored c.in-Err.ensures.broken

pub loop-entry-preserved : goal.loop-entry-preserved
loop-entry-preserved g c = record {
  restored = restored_more g.L.Log.takes c.args.log.now c.loop-entry.log c.restore_clauses.new.log c.args.clauses.now c.loop-entry.clauses c.restore_clauses.new.clauses
      (kept_of (take c.loop-entry.entry-index c.args.entries.now)) c.as_slice.result.now (kept_of (take (c.loop-entry.entry-index + 1) c.args.entries.now))
      c.loop-entry.invariant.restored c.in_default.ensures.restored (entry_more c.args.entries.now c.loop-entry.entry-index c.entry-item.result c.as_slice.result.now c.loop-entry-test.true c.entry-item.is c.as_slice.ensures);
  room = c.in_default.ensures.room;
}
