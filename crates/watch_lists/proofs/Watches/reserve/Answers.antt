use Rattle.watch_lists.proofs.Reserving.{inside-reserved, seen-reserved}
use Rattle.watch_lists.proofs.Watches.reserve.Goals as goal

pub invariant_of-self-then-vars-self : goal.invariant_of-self-then-vars-self
invariant_of-self-then-vars-self c = inside-reserved c.self.inside.store c.self.inside.table.rows.items c.widen.new.rows.items c.self.inside.table.places.items c.self.inside.vars c.args.vars c.self.invariant c.if-vars-self.true c.in_ok-widen.ensures.ok

pub returns-in_ok-widen-clause-ok : goal.returns-in_ok-widen-clause-ok
returns-in_ok-widen-clause-ok c = seen-reserved c.self.inside.store c.self.inside.table.rows.items c.widen.new.rows.items c.args.vars c.args.self.now c.self.view_is c.in_ok-widen.ensures.ok
