use Rattle.std.proofs.Common.{◌∙◌, sym}
use Rattle.elimination.proofs.Marked.{inserted}
use Rattle.elimination.proofs.id_set.IdSet.insert.Goals as goal

pub returns-clause-ok : goal.returns-clause-ok
returns-clause-ok c = inserted c.args.self.now c.args.id c.widen.new.marks.items c.in_ok-widen.ensures.room (c.in_ok-widen.ensures.same ∙ c.self.view_is) c.requires.fresh
