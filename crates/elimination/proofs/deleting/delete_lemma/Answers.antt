use Rattle.std.proofs.Common.{◌≡◌, true, false, refl, sym, ap, ◌∙◌}
use Rattle.elimination.proofs.Unforced.{unforced}
use Rattle.elimination.proofs.Erasing.{lemma_passed, lemma_deleted}
use Rattle.elimination.proofs.deleting.delete_lemma.Goals as goal

pub returns-then-not-due-clause-deleted : goal.returns-then-not-due-clause-deleted
returns-then-not-due-clause-deleted g c = lemma_passed g.L.Log.takes c.args.var c.args.log.now c.args.clauses.now c.args.id c.requires.sound (c.in-Ok.ensures.no c.if-not-due.true)

pub tell_deletion-requires-clause-no_reason : goal.tell_deletion-requires-clause-no_reason
tell_deletion-requires-clause-no_reason g c =
    let k = c.in-Ok.ensures.yes c.if-not-due.false in
    unforced c.args.clauses.now.engine c.args.id c.args.var k.literals c.level.ensures.sound k.active k.holding c.requires.unassigned

pub returns-clause-deleted : goal.returns-clause-deleted
returns-clause-deleted g c = lemma_deleted g.L.Log.takes c.args.var c.args.log.now c.tell_deletion.new.log c.args.clauses.now c.tell_deletion.new.self c.args.id (c.in-Ok.ensures.yes c.if-not-due.false) c.in_default-tell_deletion.ensures.deleted
