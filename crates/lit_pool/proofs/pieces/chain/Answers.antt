use Rattle.lit_pool.proofs.PiecesMap.{chained}
use Rattle.lit_pool.proofs.pieces.chain.Goals as goal

pub returns-clause-pieces : goal.returns-clause-pieces
returns-clause-pieces c = (chained _ _ _ _ c.requires.pieces c.requires.freed c.set_link.ensures.within).pieces

pub returns-clause-same : goal.returns-clause-same
returns-clause-same c = (chained _ _ _ _ c.requires.pieces c.requires.freed c.set_link.ensures.within).stays

pub returns-clause-rooms : goal.returns-clause-rooms
returns-clause-rooms c = (chained _ _ _ _ c.requires.pieces c.requires.freed c.set_link.ensures.within).rooms
