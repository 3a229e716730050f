use Rattle.std.proofs.Common.{take}
use Rattle.watch_lists.specs.Lists.{AreRaised}
use Rattle.watch_lists.proofs.lists.raise.Given as goal

abbrev pub invariant-loop-l : goal.invariant-loop-l
invariant-loop-l l = AreRaised (take l.l-index l.lits) l.fn.rows.items l.rows.items
