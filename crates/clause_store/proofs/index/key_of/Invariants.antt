use Rattle.std.proofs.Common.{◌≡◌, ◌%◌, ◌^◌, take}
use Rattle.std.specs.List.{sum_by}
use Rattle.clause_store.specs.Index.{scrambled}
use Rattle.clause_store.proofs.index.key_of.Given as goal

abbrev pub invariant-loop-l : goal.invariant-loop-l
invariant-loop-l l = l.key ≡ sum_by scrambled (take l.l-index l.lits) % 2 ^ 64
