use Rattle.lit_pool.proofs.freed.size_within.Given as goal

abbrev pub decreases-loop-left : goal.decreases-loop-left
decreases-loop-left l = l.left
