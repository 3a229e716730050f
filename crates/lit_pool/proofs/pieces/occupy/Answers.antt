use Rattle.lit_pool.proofs.PiecesMap.{occupied}
use Rattle.lit_pool.proofs.pieces.occupy.Goals as goal

pub returns-clause-pieces : goal.returns-clause-pieces
returns-clause-pieces c =
    let o = occupied _ _ _ _ _ c.requires.pieces c.requires.freed c.fill.ensures.within c.fill.ensures.entry c.requires.room c.requires.few in rw c.s.view_is o.pieces

pub returns-clause-fresh : goal.returns-clause-fresh
returns-clause-fresh c =
    let o = occupied _ _ _ _ _ c.requires.pieces c.requires.freed c.fill.ensures.within c.fill.ensures.entry c.requires.room c.requires.few in o.fresh

pub returns-clause-filled : goal.returns-clause-filled
returns-clause-filled c =
    let o = occupied _ _ _ _ _ c.requires.pieces c.requires.freed c.fill.ensures.within c.fill.ensures.entry c.requires.room c.requires.few in rw c.s.view_is o.filled
