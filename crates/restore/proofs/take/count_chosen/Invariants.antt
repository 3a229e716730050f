use Rattle.std.proofs.Common.{◌≡◌, take}
use Rattle.restore.specs.Split.{chosen_count}
use Rattle.restore.proofs.take.count_chosen.Given as goal

abbrev pub invariant-loop-m : goal.invariant-loop-m
invariant-loop-m l = l.count ≡ chosen_count (take l.m-index l.chosen)
