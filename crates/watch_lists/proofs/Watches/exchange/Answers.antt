use Rattle.std.proofs.Common.{◌∙◌}
use Rattle.watch_lists.proofs.Sounding.{kept_sound}
use Rattle.watch_lists.proofs.Exchanging.{exchanges, exchanged, can_exchange}
use Rattle.watch_lists.proofs.Watches.exchange.Goals as goal

pub move_watch-requires : goal.move_watch-requires
move_watch-requires c =
    can_exchange c.self.inside.store c.self.inside.table.rows.items c.self.inside.table.places.items c.requires.slot.0 c.args.s c.args.place c.args.k c.at-l.result c.index.result.now
    (exchanges c.self.inside.store c.self.inside.table.rows.items c.self.inside.table.places.items c.args.self.now c.args.s c.args.place c.args.k c.at-l.result c.index.result.now c.number.result c.self.invariant.kept c.self.view_is c.requires.slot c.requires.first_two c.requires.later c.requires.in_bounds c.at-l.ensures c.index.ensures c.number.ensures)

pub returns-clause-exchanged : goal.returns-clause-exchanged
returns-clause-exchanged c = λ id h.
    c.move_watch.ensures.exchanged
    ∙ exchanged c.self.inside.store c.self.inside.table.rows.items c.self.inside.table.places.items c.args.self.now c.requires.slot.0 id c.args.s c.args.place c.args.k c.at-l.result c.index.result.now
    (exchanges c.self.inside.store c.self.inside.table.rows.items c.self.inside.table.places.items c.args.self.now c.args.s c.args.place c.args.k c.at-l.result c.index.result.now c.number.result c.self.invariant.kept c.self.view_is c.requires.slot c.requires.first_two c.requires.later c.requires.in_bounds c.at-l.ensures c.index.ensures c.number.ensures)
    c.self.view_is h

pub returns-clause-sound : goal.returns-clause-sound
returns-clause-sound c = kept_sound c.move_watch.new.store c.move_watch.new.self.rows.items c.move_watch.new.self.places.items c.move_watch.ensures.kept
