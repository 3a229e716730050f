use Rattle.lit_pool.proofs.PiecesMap.{live_nil, nil_pool}
use Rattle.lit_pool.proofs.Pool.new.Goals as goal

pub invariant_of-result : goal.invariant_of-result
invariant_of-result c = rw (c.new.ensures, c.new-2.ensures.items) nil_pool

pub returns : goal.returns
returns c = rw (c.new.ensures, c.new-2.ensures.items) live_nil
