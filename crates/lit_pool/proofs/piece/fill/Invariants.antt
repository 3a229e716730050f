use Rattle.std.proofs.Common.{◌≡◌, ◌*◌, ◌-◌, ◌≤◌, length}
use Rattle.lit_pool.proofs.WordLists.{Filling}
use Rattle.lit_pool.proofs.piece.fill.Given as goal

abbrev pub invariant-loop-i : goal.invariant-loop-i
invariant-loop-i l = (l.i ≤ length l.lits) × (l.at ≡ 8 * l.fn.s) × Filling l.fn.s l.fn.words l.words l.lits l.i

abbrev pub decreases-loop-i : goal.decreases-loop-i
decreases-loop-i l = length l.lits - l.i
