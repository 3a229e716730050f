use Rattle.std.proofs.Common.{◌∙◌}
use Rattle.watch_lists.proofs.Sounding.{kept_sound}
use Rattle.watch_lists.proofs.Exchanging.{moved}
use Rattle.watch_lists.proofs.Watches.move_watch.Goals as goal

pub returns-clause-exchanged : goal.returns-clause-exchanged
returns-clause-exchanged c = λ id h. c.move_watch.ensures.exchanged ∙ moved c.self.inside.store c.self.inside.table.rows.items c.args.self.now c.args.l c.args.i c.args.k id c.self.invariant.kept.stored c.self.view_is h

pub returns-clause-sound : goal.returns-clause-sound
returns-clause-sound c = kept_sound c.move_watch.new.store c.move_watch.new.self.rows.items c.move_watch.new.self.places.items c.move_watch.ensures.kept
