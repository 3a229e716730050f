use Rattle.std.proofs.Common.{ap, ◌∙◌}
use Rattle.lit_pool.specs.Entry.{link_of}
use Rattle.lit_pool.proofs.PiecesMap.{found}
use Rattle.lit_pool.proofs.Pool.link.Goals as goal

pub link-requires : goal.link-requires
link-requires c = let f = found _ _ _ _ c.self.view_is c.self.invariant.pieces c.requires.live in f.head

pub returns : goal.returns
returns c = let f = found _ _ _ _ c.self.view_is c.self.invariant.pieces c.requires.live in c.link.ensures ∙ ap (λ e. link_of e c.args.which) f.read
