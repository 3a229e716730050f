use Rattle.std.proofs.Common.{ap, ◌∙◌}
use Rattle.lit_pool.proofs.PiecesMap.{found}
use Rattle.lit_pool.proofs.Pool.lits.Goals as goal

pub lits-requires : goal.lits-requires
lits-requires c = let f = found _ _ _ _ c.self.view_is c.self.invariant.pieces c.requires.live in f.lits_in

pub returns : goal.returns
returns c = let f = found _ _ _ _ c.self.view_is c.self.invariant.pieces c.requires.live in c.lits.ensures ∙ ap (λ e. e.lits) f.read
