use Rattle.std.proofs.Common.{◌<◌, ◌≡◌, arith}
use Rattle.elimination.proofs.Unmarked.{cleared, marked_within}
use Rattle.elimination.proofs.id_set.IdSet.remove.Goals as goal

pub index_mut-requires : goal.index_mut-requires
index_mut-requires c = let r = marked_within c.args.self.now c.args.id c.self.inside.marks.items c.self.view_is c.requires in let e = c.self.inside.marks.ok.0 in omega (arith, r, e)

pub returns : goal.returns
returns c = cleared c.args.self.now c.args.id c.self.inside.marks.items c.self.view_is c.requires
