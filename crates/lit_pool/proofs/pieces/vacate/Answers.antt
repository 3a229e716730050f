use Rattle.lit_pool.proofs.PiecesMap.{vacated}
use Rattle.lit_pool.proofs.pieces.vacate.Goals as goal

pub returns-clause-pieces : goal.returns-clause-pieces
returns-clause-pieces c = let v = vacated _ _ _ _ c.requires.pieces c.requires.live c.set_link.ensures.within in rw c.s.view_is v.pieces

pub returns-clause-cleared : goal.returns-clause-cleared
returns-clause-cleared c = let v = vacated _ _ _ _ c.requires.pieces c.requires.live c.set_link.ensures.within in rw c.s.view_is v.cleared
