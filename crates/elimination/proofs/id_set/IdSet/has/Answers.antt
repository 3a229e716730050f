use Rattle.std.proofs.Common.{◌≡◌, false, sym, ◌∙◌, arith, ◌<◌, length}
use Rattle.elimination.proofs.Unmarked.{unmarked_beyond, marked_there}
use Rattle.elimination.proofs.id_set.IdSet.has.Goals as goal

pub returns-then-id-len : goal.returns-then-id-len
returns-then-id-len c = unmarked_beyond c.args.self.now c.args.id c.len.result c.self.inside.marks.items c.self.view_is (let l = c.len.ensures in let e = c.self.inside.marks.ok.0 in omega (arith, l, e)) c.if-id-len.true

pub returns : goal.returns
returns c = c.index.ensures ∙ marked_there c.args.self.now c.args.id c.self.inside.marks.items _ c.self.view_is (let l = c.len.ensures in let e = c.self.inside.marks.ok.0 in let f = c.if-id-len.false in omega (arith, l, e, f))
