use Rattle.std.proofs.Common.{◌≡◌}
use Rattle.lit_pool.specs.Pieces.{ArePieces, live_pieces}
use Rattle.lit_pool.proofs.pieces.join_all.Given as goal

abbrev pub invariant-loop-at : goal.invariant-loop-at
invariant-loop-at l = ArePieces l.words l.kinds.items × (live_pieces l.words l.kinds.items ≡ live_pieces l.fn.words l.fn.kinds.items)
