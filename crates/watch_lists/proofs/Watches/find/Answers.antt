use Rattle.watch_lists.proofs.Calling.{sound_now}
use Rattle.watch_lists.proofs.Watches.find.Goals as goal

pub returns-clause-sound : goal.returns-clause-sound
returns-clause-sound c = sound_now c.self.inside.store c.self.inside.table.rows.items c.self.inside.table.places.items c.self.inside.vars c.args.self.now c.self.invariant c.self.view_is
