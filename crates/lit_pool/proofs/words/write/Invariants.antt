use Rattle.std.proofs.Common.{◌≡◌, ◌-◌, ◌≤◌, ◌++◌, length, take, drop}
use Rattle.lit_pool.proofs.words.write.Given as goal

abbrev pub invariant-loop-i : goal.invariant-loop-i
invariant-loop-i l =
    (l.block.at ≡ l.initial.block.at) × (l.block.len ≡ l.initial.block.len) × (l.i ≤ length l.words) × (l.block.items ≡ take l.i l.words ++ drop l.i l.initial.block.items)

abbrev pub decreases-loop-i : goal.decreases-loop-i
decreases-loop-i l = length l.words - l.i
