use Rattle.watch_lists.proofs.Parting.{parted-short, within-one, reserved-one, few-one, last-one, within-two, reserved-two, few-two, last-two, parted}
use Rattle.watch_lists.proofs.lists.WatchTable.part.Goals as goal

pub cut-requires-clause-within : goal.cut-requires-clause-within
cut-requires-clause-within c = within-one c.requires.0 c.args.store.now c.args.self.now.rows.items c.args.self.now.places.items c.requires.1 c.args.sides c.requires.2 c.in-Some.sides c.in-Some.is

pub cut-requires-clause-reserved : goal.cut-requires-clause-reserved
cut-requires-clause-reserved c = reserved-one c.requires.0 c.args.store.now c.args.self.now.rows.items c.args.self.now.places.items c.requires.1 c.args.sides c.requires.2 c.in-Some.sides c.in-Some.is

pub cut-requires-clause-few : goal.cut-requires-clause-few
cut-requires-clause-few c = few-one c.requires.0 c.args.store.now c.args.self.now.rows.items c.args.self.now.places.items c.requires.1 c.args.sides c.requires.2 c.in-Some.sides c.in-Some.is

pub cut-requires-clause-last : goal.cut-requires-clause-last
cut-requires-clause-last c = last-one c.requires.0 c.args.store.now c.args.self.now.rows.items c.args.self.now.places.items c.requires.1 c.args.sides c.requires.2 c.in-Some.sides c.in-Some.is

pub cut-requires-in-Some-clause-within : goal.cut-requires-in-Some-clause-within
cut-requires-in-Some-clause-within c = within-two c.requires.0 c.args.store.now c.args.self.now.rows.items c.args.self.now.places.items c.requires.1 c.args.sides c.requires.2 c.in-Some.sides c.in-Some.is
    c.cut.new.self.rows.items c.cut.new.self.places.items c.cut.ensures.list c.cut.ensures.rows c.cut.ensures.places

pub cut-requires-in-Some-clause-reserved : goal.cut-requires-in-Some-clause-reserved
cut-requires-in-Some-clause-reserved c = reserved-two c.requires.0 c.args.store.now c.args.self.now.rows.items c.args.self.now.places.items c.requires.1 c.args.sides c.requires.2 c.in-Some.sides c.in-Some.is
    c.cut.new.self.rows.items c.cut.new.self.places.items c.cut.ensures.list c.cut.ensures.rows c.cut.ensures.places

pub cut-requires-in-Some-clause-few : goal.cut-requires-in-Some-clause-few
cut-requires-in-Some-clause-few c = few-two c.requires.0 c.args.store.now c.args.self.now.rows.items c.args.self.now.places.items c.requires.1 c.args.sides c.requires.2 c.in-Some.sides c.in-Some.is
    c.cut.new.self.rows.items c.cut.new.self.places.items c.cut.ensures.list c.cut.ensures.rows c.cut.ensures.places

pub cut-requires-in-Some-clause-last : goal.cut-requires-in-Some-clause-last
cut-requires-in-Some-clause-last c = last-two c.requires.0 c.args.store.now c.args.self.now.rows.items c.args.self.now.places.items c.requires.1 c.args.sides c.requires.2 c.in-Some.sides c.in-Some.is
    c.cut.new.self.rows.items c.cut.new.self.places.items c.cut.ensures.list c.cut.ensures.rows c.cut.ensures.places

pub returns-in-Some-clause-kept : goal.returns-in-Some-clause-kept
returns-in-Some-clause-kept c = λ m s can. parted m c.args.store.now c.args.self.now.rows.items c.args.self.now.places.items s c.args.sides can c.in-Some.sides c.in-Some.is
    c.cut.new.self.rows.items c.cut.new.self.places.items c.cut.ensures.list c.cut.ensures.rows c.cut.ensures.places
    c.cut-in-Some.new.self.rows.items c.cut-in-Some.new.self.places.items c.cut-in-Some.ensures.list c.cut-in-Some.ensures.rows c.cut-in-Some.ensures.places

pub returns-in_default-clause-kept : goal.returns-in_default-clause-kept
returns-in_default-clause-kept c = λ m s can. parted-short m c.args.store.now c.args.self.now.rows.items c.args.self.now.places.items s c.args.sides can c.in_default.is
