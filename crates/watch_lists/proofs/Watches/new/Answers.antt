use Rattle.watch_lists.proofs.Reserving.{inside-empty}
use Rattle.watch_lists.proofs.Watches.new.Goals as goal

pub invariant_of-result : goal.invariant_of-result
invariant_of-result c = inside-empty c.new.result c.new-2.result.rows.items c.new-2.result.places.items c.new.ensures c.new-2.ensures.rows c.new-2.ensures.places
