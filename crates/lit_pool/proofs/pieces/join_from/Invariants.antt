use Rattle.std.proofs.Common.{◌≡◌}
use Rattle.lit_pool.specs.Pieces.{ArePieces, live_pieces, kind_at}
use Rattle.lit_pool.specs.declared.kind.Kind.TheVariants.{Freed}
use Rattle.lit_pool.proofs.pieces.join_from.Given as goal

abbrev pub invariant-loop : goal.invariant-loop
invariant-loop l = ArePieces l.words l.kinds.items × (live_pieces l.words l.kinds.items ≡ live_pieces l.fn.words l.fn.kinds.items) × (kind_at l.kinds.items l.fn.s ≡ Freed)
